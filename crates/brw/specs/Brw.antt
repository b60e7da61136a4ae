-- The BRW polynomials, as Point 6 of 02 defines them, over any product; how many products they take; and the hash that is made of them. X₁, …, Xₘ are blocks, and
-- t is the hash key.
use Rattle.std.specs.Prelude.{ℕ, zero, suc, ◌+◌, ◌-◌, ◌^◌, cond, List, [], ◌∷◌, leb, length, get_or, take, drop}
use Rattle.strings.specs.Xor.{◌⊕◌}
use Rattle.blocks.specs.Field.{power}
use Rattle.blocks.specs.BlockField.{◌·◌}

-- "The largest power of two not above the number of blocks", n, from 1 on: of 2 ^ j, …, 4, 2, 1 the first that is not above n.
unfoldable pub largest_from : (j n : ℕ) → ℕ
largest_from zero n = 1
largest_from (suc j) n = cond (leb (2 ^ suc j) n) (2 ^ suc j) (largest_from j n)

-- 2 ^ n is above n, so that no larger one has to be tried.
unfoldable pub largest_power : ℕ → ℕ
largest_power n = largest_from n n

-- The polynomial, with tᵏ k for the kth power of t. The last clause goes on with shorter lists, and so at most as often as there are blocks; the first argument counts
-- that down. By the theorem `clauses` all five hold without it.
module _ (◌·◌ : ℕ → ℕ → ℕ) (t : ℕ) (tᵏ : ℕ → ℕ) where
  infixl 70 ◌·◌
  unfoldable pub polynomial : ℕ → List ℕ → ℕ
  polynomial zero Xs = 0
  -- "none gives 0"
  polynomial (suc d) [] = 0
  -- "one gives X1"
  polynomial (suc d) (X₁ ∷ []) = X₁
  -- "two give X1 times t, plus X2"
  polynomial (suc d) (X₁ ∷ X₂ ∷ []) = X₁ · t ⊕ X₂
  -- "three give (t plus X1) times (t squared plus X2), plus X3"
  polynomial (suc d) (X₁ ∷ X₂ ∷ X₃ ∷ []) = (t ⊕ X₁) · (tᵏ 2 ⊕ X₂) ⊕ X₃
  -- "For more, let k be the largest power of two not above the number of blocks. The value is that of the blocks before the kth, times (the kth power of t, plus
  -- Xk), plus that of the blocks after it."
  polynomial (suc d) (X₁ ∷ X₂ ∷ X₃ ∷ X₄ ∷ Xs) =
      let X : List ℕ = X₁ ∷ X₂ ∷ X₃ ∷ X₄ ∷ Xs in
      let k = largest_power (length X) in
      let Xₖ = get_or X (k - 1) 0 in
      polynomial d (take (k - 1) X) · (tᵏ k ⊕ Xₖ) ⊕ polynomial d (drop k X)

-- The number of products that each clause makes, from the number of blocks; squarings that prepare the powers are not in it.
unfoldable pub products_within : ℕ → ℕ → ℕ
products_within zero m = 0
products_within (suc d) zero = 0
products_within (suc d) (suc zero) = 0
products_within (suc d) (suc (suc zero)) = 1
products_within (suc d) (suc (suc (suc zero))) = 1
products_within (suc d) (suc (suc (suc (suc n)))) =
    let m : ℕ = suc (suc (suc (suc n))) in
    let k = largest_power m in
    products_within d (k - 1) + 1 + products_within d (m - k)

unfoldable pub products : ℕ → ℕ
products m = products_within m m

module _ (one : ℕ) (◌·◌ : ℕ → ℕ → ℕ) where
  infixl 70 ◌·◌
  unfoldable pub BRW : ℕ → List ℕ → ℕ
  BRW t Xs = polynomial ◌·◌ t (power one ◌·◌ t) (length Xs) Xs

-- "The hash itself is t times this", in 01's field. The last product, by t, is not in the count.
unfoldable pub hash : ℕ → List ℕ → ℕ
hash t Xs = t · BRW 1 ◌·◌ t Xs
