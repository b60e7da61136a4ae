-- Polynomials with coefficients 0 and 1, where x ^ k = p, as numbers below 2 ^ k: digit i is the coefficient of the power i of x, and
-- the sum is exclusive or. 01's field of blocks is at (128, 0x87), "the polynomial with the powers 128, 7, 2, 1 and 0"; the field of
-- bytes of AES is at (8, 0x1b), FIPS 197, 4.2. Both are proved to be commutative rings, and AES's bytes, in `primitives`, to be a field; that
-- each block but 0 has an inverse is not shown here yet.
use Rattle.std.specs.Prelude.{ℕ, zero, suc, ◌*◌, ◌/◌, ◌%◌, ◌^◌, ◌<◌, ◌≡◌, List, [], ◌∷◌, length}
use Rattle.strings.specs.Xor.{◌⊕◌}

-- The product of a coefficient, 0 or 1, and a.
unfoldable pub times01 : ℕ → ℕ → ℕ
times01 zero a = 0
times01 (suc d) a = a

-- 01, "multiplying by x shifts the block left by one bit, and, where a one falls out, exclusive-ors 87".
unfoldable pub times_x : (k p : ℕ) → ℕ → ℕ
times_x k p a = times01 (2 * a / 2 ^ k % 2) p ⊕ 2 * a % 2 ^ k

-- a times the n lowest coefficients of b: a times the lowest, plus x times the product with the rest.
unfoldable pub product_n : (k p : ℕ) → ℕ → ℕ → ℕ → ℕ
product_n k p zero a b = 0
product_n k p (suc n) a b = times01 (b % 2) a ⊕ times_x k p (product_n k p n a (b / 2))

-- 01, "Products are reduced by the polynomial".
unfoldable pub product : (k p : ℕ) → ℕ → ℕ → ℕ
product k p a b = product_n k p k a b

-- ---- over any product and its one

module _ (one : ℕ) (◌·◌ : ℕ → ℕ → ℕ) where
  infixl 70 ◌·◌
  -- The nth power of a.
  unfoldable pub power : ℕ → ℕ → ℕ
  power a zero = one
  power a (suc n) = a · power a n

  -- 01's H, "the sum of A_2 to A_m, each times its own power of R, the powers being m - 1 down to 1": the list is A_2, .., A_m.
  unfoldable pub power_sum : ℕ → List ℕ → ℕ
  power_sum R [] = 0
  power_sum R (A ∷ As) = A · power R (suc (length As)) ⊕ power_sum R As

module _ (k one : ℕ) (◌·◌ : ℕ → ℕ → ℕ) where
  infixl 70 ◌·◌
  -- The numbers below 2 ^ k are a commutative ring with one under this product. (Exclusive or is a commutative group by itself.)
  pub record Ring : Type 0 where
    pub one_below : one < 2 ^ k
    pub below : (a b : ℕ) → a < 2 ^ k → a · b < 2 ^ k
    pub add_left : (a b c : ℕ) → (a ⊕ b) · c ≡ a · c ⊕ b · c
    pub add_right : (a b c : ℕ) → a · (b ⊕ c) ≡ a · b ⊕ a · c
    pub zero_left : (a : ℕ) → 0 · a ≡ 0
    pub zero_right : (a : ℕ) → a · 0 ≡ 0
    pub one_left : (a : ℕ) → a < 2 ^ k → one · a ≡ a
    pub one_right : (a : ℕ) → a < 2 ^ k → a · one ≡ a
    pub comm : (a b : ℕ) → a < 2 ^ k → b < 2 ^ k → a · b ≡ b · a
    pub assoc : (a b c : ℕ) → a < 2 ^ k → b < 2 ^ k → c < 2 ^ k → a · b · c ≡ a · (b · c)
