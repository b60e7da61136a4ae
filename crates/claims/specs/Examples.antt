-- 01, "Checked by hand": the examples marked P, in one table. proofs/Examples.antt has one value of it. Blocks are numbers, and byte strings are lists.
use Rattle.std.specs.Prelude.{ℕ, ◌*◌, ◌^◌, ◌≡◌, List, [], ◌∷◌, ◌++◌, length, drop, replicate}
use Rattle.strings.specs.Xor.{◌⊕◌}
use Rattle.strings.specs.Bytes.{number}
use Rattle.blocks.specs.Blocks.{blocks, IsBlock}
use Rattle.blocks.specs.BlockField.{times_x, ◌·◌, power_sum}
use Rattle.primitives.specs.Aes.{◌•◌, s_box}
use Rattle.hch.specs.Hch.{length_block, behind_first, H}
use Rattle.layout.specs.Layout.{plain_block, tweak}

pub record Examples : Type 0 where
  -- x times 1 is 2.
  pub p1 : times_x 1 ≡ 2
  -- x times the block 80 then fifteen 00 is 87.
  pub p2 : times_x (0x80 * 256 ^ 15) ≡ 0x87
  -- That block times 2 is 87.
  pub p3 : (0x80 * 256 ^ 15) · 2 ≡ 0x87
  -- Any block times 0 is 0.
  pub p4 : (a : ℕ) → IsBlock a → a · 0 ≡ 0
  -- Any block times 1 is itself.
  pub p5 : (a : ℕ) → IsBlock a → a · 1 ≡ a
  -- In AES's field of bytes 57 times 83 is c1.
  pub p6 : 0x57 • 0x83 ≡ 0xc1
  -- 57 times 2 is ae.
  pub p7 : 0x57 • 2 ≡ 0xae
  -- The S-box sends 00 to 63 and 53 to ed.
  pub p8 : (s_box 0x00 ≡ 0x63) × (s_box 0x53 ≡ 0xed)
  -- bin for 20 bytes is a0; for 512 bytes 1000; for 4,096 bytes 8000.
  pub p9 : (length_block 20 ≡ 0xa0) × (length_block 512 ≡ 0x1000) × (length_block 4096 ≡ 0x8000)
  -- 20 bytes make m = 2, the last block being 4 bytes and 12 zeros: behind the first block stand 4 bytes, and they make one block.
  pub p10 : (P : List ℕ) → length P ≡ 20 → (length (behind_first P) ≡ 4) × (blocks (behind_first P) ≡ number (behind_first P ++ replicate 12 0) ∷ [])
  -- H with R = 0 is Q xor A_1.
  pub p11 : (Q A₁ : ℕ) (A₂…Aₘ : List ℕ) → H power_sum 0 Q A₁ A₂…Aₘ ≡ Q ⊕ A₁
  -- Pack 1, place 258 has the tweak 00 00 00 00 00 00 00 01 00 00 00 00 00 00 01 02.
  pub p12 : tweak 1 258 ≡ 0 ∷ 0 ∷ 0 ∷ 0 ∷ 0 ∷ 0 ∷ 0 ∷ 1 ∷ 0 ∷ 0 ∷ 0 ∷ 0 ∷ 0 ∷ 0 ∷ 1 ∷ 2 ∷ []
  -- The plain block for an empty payload, pack 0, place 0 is 512 zeros.
  pub p13 : plain_block [] 0 0 ≡ replicate 512 0
  -- Payload 41 42 43, pack 1, place 2 ends in 00 00 00 02 00 03 00 00.
  pub p14 : drop 504 (plain_block (0x41 ∷ 0x42 ∷ 0x43 ∷ []) 1 2) ≡ 0 ∷ 0 ∷ 0 ∷ 2 ∷ 0 ∷ 3 ∷ 0 ∷ 0 ∷ []
