-- The worked examples of 01 on HCH's definitions.
-- Assumes nothing.
use Prim.Native.Nat.{ℕ}
use mathlib.Core.Path.{◌≡◌, refl}
use mathlib.Core.List.{List, [], ◌∷◌, ◌++◌}
use native.Mathlib.Omega.{arith}
use lib.ListN.{length, replicate, length-drop}
use lib.Seq.{take_all}
use Rattle.strings.specs.Xor.{◌⊕◌}
use Rattle.strings.specs.Bytes.{number}
use Rattle.blocks.specs.Blocks.{bin, pad, first_block, cut, blocks}
use Rattle.blocks.specs.BlockField.{◌·◌, power_sum}
use Rattle.blocks.specs.Field.{power, power_sum as power_sum_over}
use Rattle.blocks.proofs.Ring.{ring_of_blocks}
use Rattle.strings.proofs.Xor.{xor_zero}
use Rattle.hch.specs.Hch.{length_block, behind_first, H}

-- bin for 20 bytes is a0; for 512 bytes 1000; for 4,096 bytes 8000
pub p9 : (length_block 20 ≡ 0xa0) × (length_block 512 ≡ 0x1000) × (length_block 4096 ≡ 0x8000)
unfolding bin
p9 = (refl, refl, refl)

-- 20 bytes make m = 2, the last block being 4 bytes and 12 zeros
pub p10 : (P : List ℕ) → length P ≡ 20 → (length (behind_first P) ≡ 4) × (blocks (behind_first P) ≡ number (behind_first P ++ replicate 12 0) ∷ [])
unfolding blocks cut first_block pad
p10 P h =
    let l : length (behind_first P) ≡ 4 = rw (length-drop, h) in
    (l, rw (l, take_all 16 (behind_first P) (omega (arith, l)), l))

-- H with R = 0 is Q xor A_1
sum_of_zero : (As : List ℕ) → power_sum 0 As ≡ 0
unfolding power_sum_over power
sum_of_zero [] = refl
sum_of_zero (A ∷ As) =
    rw (ring_of_blocks.zero_left (power 1 ◌·◌ 0 (length As)), ring_of_blocks.zero_right A, sum_of_zero As, xor_zero)

pub p11 : (Q A₁ : ℕ) (As : List ℕ) → H power_sum 0 Q A₁ As ≡ Q ⊕ A₁
unfolding H
p11 Q A₁ As = rw (sum_of_zero As, xor_zero)
