-- Counter mode, over the block `mask i` that is added to the block of number i.
use Rattle.std.specs.Prelude.{ℕ, zero, suc, List, [], ◌∷◌, length, take}
use Rattle.strings.specs.Xor.{◌⊕◌}
use Rattle.blocks.specs.Blocks.{blocks, string}

module _ (mask : ℕ → ℕ) where
  -- Blocks, the first of number i.
  unfoldable pub masked : ℕ → List ℕ → List ℕ
  masked i [] = []
  masked i (A ∷ As) = (A ⊕ mask i) ∷ masked (suc i) As

  -- A string: its blocks, the last padded, are masked, and the last is dropped to what it was.
  unfoldable pub masked_bytes : ℕ → List ℕ → List ℕ
  masked_bytes i s = take (length s) (string (masked i (blocks s)))

-- Source document 000, "XOR Universal Function from a Linear Map": φ_β(i) is β times the ith power of a primitive element, which is x in our field; so it is
-- i steps by x from β on.
module _ (times_x : ℕ → ℕ) where
  unfoldable pub φ : (β i : ℕ) → ℕ
  φ β zero = β
  φ β (suc i) = times_x (φ β i)
