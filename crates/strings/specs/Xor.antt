-- Exclusive or, on numbers by their binary digits and on byte strings byte by byte.
use Rattle.std.specs.Prelude.{ℕ, List, [], ◌∷◌}
use Rattle.std.specs.Int.Bits.{bit_xor}

infixl 65 ◌⊕◌
-- 01, "Addition is exclusive or".
unfoldable pub ◌⊕◌ : ℕ → ℕ → ℕ
◌⊕◌ = bit_xor

-- Byte by byte, as far as the second string reaches; past it the first stays as it is.
unfoldable pub xor_bytes : List ℕ → List ℕ → List ℕ
xor_bytes [] t = []
xor_bytes (a ∷ s) [] = a ∷ s
xor_bytes (a ∷ s) (b ∷ t) = (a ⊕ b) ∷ xor_bytes s t
