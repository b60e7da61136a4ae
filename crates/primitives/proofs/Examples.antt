-- 01's worked examples of the two fields: what the checker computes from the definitions, and two laws.
-- Assumes nothing.
use Rattle.std.proofs.Common.{◌≡◌, ℕ, ◌*◌, ◌^◌, ◌<◌, refl}
use Rattle.strings.specs.Xor.{◌⊕◌}
use Rattle.blocks.specs.Field.{times01, times_x as times_x_over, product_n, product}
use Rattle.blocks.specs.BlockField.{times_x, ◌·◌}
use Rattle.primitives.specs.Aes.{squares, inverse, bit, of_bits, affine, s_box}
use Rattle.blocks.proofs.Ring.{ring_of_blocks}

-- P1: x times 1 is 2. P2: x times the block 80 then fifteen 00 is 87. P3: that block times 2 is 87.
pub p1 : times_x 1 ≡ 2
unfolding times_x_over times01 ◌⊕◌
p1 = refl

pub p2 : times_x (0x80 * 256 ^ 15) ≡ 0x87
unfolding times_x_over times01 ◌⊕◌
p2 = refl

pub p3 : (0x80 * 256 ^ 15) · 2 ≡ 0x87
unfolding product product_n times_x_over times01 ◌⊕◌
p3 = refl

-- P4: any block times 0 is 0. P5: any block times 1 is itself.
pub p4 : (a : ℕ) → a · 0 ≡ 0
p4 = ring_of_blocks.zero_right

pub p5 : (a : ℕ) → a < 2 ^ 128 → a · 1 ≡ a
p5 = ring_of_blocks.one_right

-- P6: in AES's field of bytes 57 times 83 is c1. P7: 57 times 2 is ae.
pub p6 : product 8 0x1b 0x57 0x83 ≡ 0xc1
unfolding product product_n times_x_over times01 ◌⊕◌
p6 = refl

pub p7 : product 8 0x1b 0x57 2 ≡ 0xae
unfolding product product_n times_x_over times01 ◌⊕◌
p7 = refl

-- P8: the S-box sends 00 to 63 and 53 to ed.
pub p8 : (s_box 0x00 ≡ 0x63) × (s_box 0x53 ≡ 0xed)
unfolding ◌⊕◌ times01 times_x_over product_n product squares inverse bit of_bits affine s_box
p8 = (refl, refl)
