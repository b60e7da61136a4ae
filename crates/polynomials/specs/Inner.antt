-- What the contracts of this crate cite: nobody has to believe it.
use Rattle.std.specs.Prelude.{ℕ, zero, suc, ◌+◌, ◌*◌, ◌/◌, ◌%◌, ◌^◌, List, [], ◌∷◌, ◌++◌, get_or}
use Rattle.strings.specs.Xor.{◌⊕◌}
use Rattle.blocks.specs.Field.{times01, product}

-- The carry-less product, of polynomials with no reduction: a times the n lowest coefficients of b.
unfoldable pub carryless : ℕ → ℕ → ℕ → ℕ
carryless zero a b = 0
carryless (suc n) a b = times01 (b % 2) a ⊕ 2 * carryless n a (b / 2)

-- The polynomial c reduced, exactly so where it has at most k + k digits: what stands above the k lowest is multiplied by p, which is x ^ k.
unfoldable pub reduction : (k p : ℕ) → ℕ → ℕ
reduction k p c = c % 2 ^ k ⊕ product k p (c / 2 ^ k) p

-- The low half of a number of 64 digits and the high half, and the sum of the two; `parts` has those of lo, of hi and of lo ⊕ hi.
unfoldable pub halves_of : ℕ → List ℕ
halves_of x = x % 2 ^ 32 ∷ x / 2 ^ 32 ∷ []

unfoldable pub both_of : ℕ → ℕ
both_of x = x % 2 ^ 32 ⊕ x / 2 ^ 32

unfoldable pub parts : ℕ → ℕ → List ℕ
parts lo hi = halves_of lo ++ (halves_of hi ++ (halves_of (lo ⊕ hi) ++ (both_of lo ∷ both_of hi ∷ both_of (lo ⊕ hi) ∷ [])))

-- What Karatsuba's rule makes of the products of the low halves, of the high ones and of their sums, halves of w digits.
unfoldable pub karatsuba : ℕ → ℕ → ℕ → ℕ → ℕ
karatsuba w low high both =
    let middle : ℕ = both ⊕ low ⊕ high in
    (high ⊕ middle / 2 ^ w) * 2 ^ (w + w) + (low ⊕ middle * 2 ^ w % 2 ^ (w + w))

-- What it makes of the nine products of two blocks' parts: for halves of 64 digits, and in each of them for words.
unfoldable pub wide_of : List ℕ → ℕ → ℕ
wide_of z ninth =
    karatsuba 64 (karatsuba 32 (get_or z 0 0) (get_or z 1 0) (get_or z 6 0)) (karatsuba 32 (get_or z 2 0) (get_or z 3 0) (get_or z 7 0))
    (karatsuba 32 (get_or z 4 0) (get_or z 5 0) ninth)
