-- The product as the carry-less product, reduced: what stands above the k lowest digits is multiplied by p, which is x ^ k.
-- Assumes nothing.
use mathlib.Core.Path.{◌≡◌, refl, sym, ap, ap₂, ◌∙◌, subst}
use mathlib.Core.Logic.{⊎_elim}
use Prim.Native.Nat.{ℕ, zero, suc, ◌+◌, ◌-◌, ◌*◌, ◌/◌, ◌%◌, ◌^◌, ◌≤◌, ◌<◌}
use native.Mathlib.Nat.{lt_of_lt_of_le, mul-one, zero-add, suc-add, add_comm, eq-zero-or-pos, mod-eq_of_lt, div-eq_of_lt, mul-mod_left}
use native.Mathlib.Omega.{arith}
use lib.Pow.{pow-lt, pow_mono, pow-add, high, low, shl-shr, shr_lt}
use Rattle.strings.specs.Xor.{◌⊕◌}
use Rattle.blocks.specs.Field.{times_x, product_n, product}
use Rattle.polynomials.specs.Inner.{carryless, reduction}
use Rattle.strings.proofs.Xor.{xor_laws, xor_shr, xor_mod, xor_zero, xor_zero_left}
use Rattle.blocks.specs.Counter.{φ}
use Rattle.blocks.proofs.Ring.{Additive, additive_zero, basis, xs, xs_add, xs_one, xs_top, xs_left, prod_add_left, prod_add_right, prod_pow}
use Rattle.polynomials.proofs.Carryless.{shift_add, carryless_add_right, carryless_more, carryless_below, carryless_pow}

module _ (k p : ℕ) where
  reduced_add : Additive (reduction k p)
  unfolding reduction product
  reduced_add a b = simp (xor_mod k, xor_shr k, prod_add_left k p k p, xor_laws)

  -- from two halves
  pub reduced_halves : (h l : ℕ) → l < 2 ^ k → reduction k p (h * 2 ^ k + l) ≡ l ⊕ product k p h p
  unfolding reduction
  reduced_halves h l hl = ap₂ (λ (x y : ℕ). x ⊕ product k p y p) (low h k hl) (high h k hl)

  product_zero : product k p 0 p ≡ 0
  unfolding product
  product_zero = additive_zero (λ a. product_n k p k a p) (prod_add_left k p k p)

  reduced_low : (c : ℕ) → c < 2 ^ k → reduction k p c ≡ c
  unfolding reduction
  reduced_low c h = rw (mod-eq_of_lt h, div-eq_of_lt h, product_zero) (xor_zero c)

  xs_plus : (m n a : ℕ) → xs k p (m + n) a ≡ xs k p m (xs k p n a)
  unfolding φ
  xs_plus zero n a = simp zero-add
  xs_plus (suc m) n a = rw (suc-add m n) (ap (times_x k p) (xs_plus m n a))

  module _ (hk : 0 < k) (hp : p < 2 ^ k) where
    -- the power m + k of x is that of m, times p
    reduced_high : (m : ℕ) → m < k → reduction k p (2 ^ (m + k)) ≡ xs k p (m + k) 1
    unfolding reduction
    reduced_high m h =
        rw (pow-add 2 m k, mul-mod_left (2 ^ m) (2 ^ k), shl-shr (2 ^ m) k, xs_left k p hk hp m h p hp, xs_plus m k 1, xs_top k p hk)
        (xor_zero_left (xs k p m p))

    reduced_pow : (n : ℕ) → n < k + k → reduction k p (2 ^ n) ≡ xs k p n 1
    reduced_pow n h =
        ⊎_elim
        (λ (l : k - n ≡ 0).
        let e : n - k + k ≡ n = omega arith in
        subst (λ (m : ℕ). reduction k p (2 ^ m) ≡ xs k p m 1) e (reduced_high (n - k) (omega arith)))
        (λ (l : 0 < k - n). let h : n < k = omega arith in reduced_low (2 ^ n) (pow-lt h) ∙ sym (xs_one k p n h))
        (eq-zero-or-pos (k - n))

    reduced_shift : (i : ℕ) → i < k → (a : ℕ) → a < 2 ^ k → reduction k p (a * 2 ^ i) ≡ xs k p i a
    reduced_shift i hi =
        basis k (λ a. reduction k p (a * 2 ^ i)) (xs k p i)
        (λ a b. rw (shift_add i a b) (reduced_add (a * 2 ^ i) (b * 2 ^ i)))
        (xs_add k p i)
        (λ j hj. rw (← pow-add 2 j i, reduced_pow (j + i) (omega arith), ← xs_one k p j hj, ← xs_plus i j 1, add_comm j i))

    pub product_reduced : (a b : ℕ) → a < 2 ^ k → b < 2 ^ k → product k p a b ≡ reduction k p (carryless k a b)
    unfolding product
    product_reduced a b ha hb =
        basis k (product k p a) (λ b. reduction k p (carryless k a b)) (prod_add_right k p k a)
        (λ b c. rw (carryless_add_right k a b c) (reduced_add (carryless k a b) (carryless k a c)))
        (λ i h. prod_pow k p k i a h ∙ sym (ap (reduction k p) (carryless_pow k i a h) ∙ reduced_shift i h a ha)) b hb

    pub two_reduced : (a b c d : ℕ) → a < 2 ^ k → b < 2 ^ k → c < 2 ^ k → d < 2 ^ k
        → reduction k p (carryless k a b ⊕ carryless k c d) ≡ product k p a b ⊕ product k p c d
    two_reduced a b c d ha hb hc hd =
        reduced_add (carryless k a b) (carryless k c d) ∙ sym (ap₂ ◌⊕◌ (product_reduced a b ha hb) (product_reduced c d hc hd))

    -- A product with p, where p is short: what stands above the k lowest digits of the carry-less one is short too, and its own
    -- product with p has k digits at most.
    pub folded_twice : (m h : ℕ) → p < 2 ^ m → m + m ≤ k → h < 2 ^ k
        → carryless k h p % 2 ^ k ⊕ carryless k (carryless k h p / 2 ^ k) p % 2 ^ k ≡ product k p h p
    unfolding reduction
    folded_twice m h hm l hh =
        let short : (a n : ℕ) → a < 2 ^ n → carryless k a p < 2 ^ (n + m) =
        λ a n ha. rw (carryless_more m k a p (omega arith) hm) (carryless_below m n a p ha) in
        let over : carryless k h p / 2 ^ k < 2 ^ m = shr_lt m k (rw (add_comm m k) (short h k hh)) in
        let again : product k p (carryless k h p / 2 ^ k) p ≡ carryless k (carryless k h p / 2 ^ k) p % 2 ^ k =
        product_reduced (carryless k h p / 2 ^ k) p (lt_of_lt_of_le over (pow_mono (omega arith))) hp
        ∙ rw (div-eq_of_lt (lt_of_lt_of_le (short (carryless k h p / 2 ^ k) m over) (pow_mono l)), product_zero) (xor_zero _) in
        sym (product_reduced h p hh hp ∙ ap (λ (x : ℕ). carryless k h p % 2 ^ k ⊕ x) again)

-- ---- p = 0x87, which is x ^ 7 + x ^ 2 + x + 1

powers : 0x87 ≡ 2 ^ 0 ⊕ 2 ^ 1 ⊕ 2 ^ 2 ⊕ 2 ^ 7
unfolding ◌⊕◌
powers = refl

module _ (k h : ℕ) (l : 7 < k) where
  sparse : carryless k h 0x87 ≡ h ⊕ h * 2 ^ 1 ⊕ h * 2 ^ 2 ⊕ h * 2 ^ 7
  sparse =
      ap (carryless k h) powers
      ∙ simp (
        carryless_add_right k h,
        carryless_pow k 0 h (omega arith),
        carryless_pow k 1 h (omega arith),
        carryless_pow k 2 h (omega arith),
        carryless_pow k 7 h l,
        mul-one,
      )

  -- cut to k digits, and what the cut leaves out
  pub spread_low : h < 2 ^ k → h ⊕ h * 2 ^ 1 % 2 ^ k ⊕ h * 2 ^ 2 % 2 ^ k ⊕ h * 2 ^ 7 % 2 ^ k ≡ carryless k h 0x87 % 2 ^ k
  spread_low hh = rw sparse (simp (xor_mod k, mod-eq_of_lt hh))

  pub spread_high : h < 2 ^ k → h * 2 ^ 1 / 2 ^ k ⊕ h * 2 ^ 2 / 2 ^ k ⊕ h * 2 ^ 7 / 2 ^ k ≡ carryless k h 0x87 / 2 ^ k
  spread_high hh = rw sparse (simp (xor_shr k, div-eq_of_lt hh, xor_zero_left))
