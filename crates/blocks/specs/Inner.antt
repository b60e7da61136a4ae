-- What the contracts of inner functions cite: nobody has to believe it.
use Rattle.std.specs.Prelude.{ℕ, ◌+◌, ◌*◌, ◌^◌, List, [], ◌∷◌, ◌++◌, get_or}
use Rattle.strings.specs.Xor.{◌⊕◌}
use Rattle.strings.specs.Bytes.{bytes}
use Rattle.blocks.specs.declared.block.Block.{Block}

-- The block that the code's two halves stand for.
unfoldable pub value : Block → ℕ
value b = b.hi * 2 ^ 64 + b.lo

-- The bytes of four words, one word after the other.
unfoldable pub of_words : List ℕ → List ℕ
of_words w = (bytes 4 (get_or w 0 0) ++ bytes 4 (get_or w 1 0)) ++ (bytes 4 (get_or w 2 0) ++ bytes 4 (get_or w 3 0))

module _ (◌·◌ : ℕ → ℕ → ℕ) where
  infixl 70 ◌·◌
  -- The sum of blocks times powers by Horner's rule: each block is added to what there is, and that is multiplied by R.
  unfoldable pub horner : ℕ → ℕ → List ℕ → ℕ
  horner R sum [] = sum
  horner R sum (A ∷ As) = horner R ((sum ⊕ A) · R) As
