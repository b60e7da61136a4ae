-- The powers of t: each is the square of the one before, and with those that are prepared and lent the polynomial is that of t.
-- Assumes nothing.
use Prim.Native.Nat.{ℕ, zero, suc, ◌+◌, ◌-◌, ◌*◌, ◌^◌, ◌≤◌, ◌<◌, min}
use mathlib.Core.Path.{◌≡◌, refl, sym}
use mathlib.Core.List.{List, [], ◌∷◌}
use native.Mathlib.Nat.{le_refl, le_trans, lt_irrefl, lt_of_lt_of_le, lt_of_not-le, zero-add, pow-suc}
use native.Mathlib.Omega.{arith}
use lib.Count.{count_leading_zeros, leading_top}
use lib.Dec.{lit<}
use lib.ListN.{length, take, drop, length-drop}
use lib.Pow.{pow-lt, pow_mono, pow_pos}
use lib.Seq.{length-take-le}
use borrow.Author.Tests.{le-leb}
use Rattle.blocks.specs.Blocks.{IsBlock}
use Rattle.blocks.specs.Field.{power}
use Rattle.blocks.specs.BlockField.{◌·◌}
use Rattle.blocks.proofs.Horner.{power_below}
use Rattle.blocks.proofs.Ring.{ring_of_blocks}
use Rattle.brw.specs.Brw.{largest_power, polynomial, BRW}
use Rattle.brw.specs.Inner.{power_at, prepared, exponent_of, lent_power, lent_polynomial}
use Rattle.brw.proofs.Largest.{between, exponent_is, same_exponent}
use Rattle.brw.proofs.Clauses.{shorter}

-- ---- squares

power_add : (t a b : ℕ) → IsBlock t → power 1 ◌·◌ t (a + b) ≡ power 1 ◌·◌ t a · power 1 ◌·◌ t b
unfolding power
power_add t zero b h = rw zero-add (sym (ring_of_blocks.one_left (power 1 ◌·◌ t b) (power_below ring_of_blocks t b h)))
power_add t (suc a) b h =
    let below : (n : ℕ) → IsBlock (power 1 ◌·◌ t n) = λ n. power_below ring_of_blocks t n h in
    let e : suc a + b ≡ suc (a + b) = omega arith in
    rw (e, power_add t a b h) (sym (ring_of_blocks.assoc t (power 1 ◌·◌ t a) (power 1 ◌·◌ t b) h (below a) (below b)))

pub first_power : (t : ℕ) → IsBlock t → power 1 ◌·◌ t 1 ≡ t
unfolding power
first_power t h = ring_of_blocks.one_right t h

pub squared : (t i : ℕ) → IsBlock t → power 1 ◌·◌ t (2 ^ suc i) ≡ power 1 ◌·◌ t (2 ^ i) · power 1 ◌·◌ t (2 ^ i)
squared t i h =
    let e : 2 ^ suc i ≡ 2 ^ i + 2 ^ i = omega (arith, pow-suc 2 i) in
    rw e (power_add t (2 ^ i) (2 ^ i) h)

-- ---- leading zeros

pub top : (n : ℕ) → 0 < n → n < 2 ^ 64 → let j = exponent_of n in (2 ^ j ≤ n) × (n < 2 ^ suc j)
unfolding exponent_of
top n p h =
    let s = leading_top 64 n p h in
    let e : 63 - count_leading_zeros 64 n ≡ s.0 = omega (arith, s.1) in
    rw e (s.2, s.3)

-- The exponent of the largest power.
pub largest_by_zeros : (n : ℕ) → 0 < n → n < 2 ^ 64 → 2 ^ exponent_of n ≡ largest_power n
largest_by_zeros n p h =
    let j = exponent_of n in
    sym (exponent_is n j (top n p h).0 (top n p h).1)

pub zeros_of_power : (j : ℕ) → j < 64 → exponent_of (2 ^ j) ≡ j
zeros_of_power j h =
    let s = top (2 ^ j) (pow_pos j) (pow-lt h) in
    same_exponent (2 ^ j) (exponent_of (2 ^ j)) j s.0 s.1 (le_refl (2 ^ j)) (pow-lt (le_refl (suc j)))

-- ---- lent powers

two : (k n : ℕ) → n < 2 * k → 4 ≤ n → 2 ≤ k
two k n h l = omega arith

small : (j : ℕ) → 2 ^ j ≤ 255 → j < 64
small j h = lt_of_not-le (λ (k : 64 ≤ j). lt_irrefl 255 (lt_of_lt_of_le (lit< tt) (le_trans (pow_mono k) h)))

-- Powers that agree where they are asked for give the same polynomial.
module _ (◌·◌ : ℕ → ℕ → ℕ) (t : ℕ) (p q : ℕ → ℕ) (m : ℕ) (same : (j : ℕ) → 2 ≤ 2 ^ j → 2 ^ j ≤ m → p (2 ^ j) ≡ q (2 ^ j)) where
  infixl 70 ◌·◌
  pub agreeing_powers : (d : ℕ) (Xs : List ℕ) → length Xs ≤ m → polynomial ◌·◌ t p d Xs ≡ polynomial ◌·◌ t q d Xs
  unfolding polynomial
  agreeing_powers zero Xs h = refl
  agreeing_powers (suc d) [] h = refl
  agreeing_powers (suc d) (X₁ ∷ []) h = refl
  agreeing_powers (suc d) (X₁ ∷ X₂ ∷ []) h = refl
  agreeing_powers (suc d) (X₁ ∷ X₂ ∷ X₃ ∷ []) h = rw (same 1 (le_refl 2) (le_trans (omega arith) h))
  agreeing_powers (suc d) (X₁ ∷ X₂ ∷ X₃ ∷ X₄ ∷ Xs) h =
      let X : List ℕ = X₁ ∷ X₂ ∷ X₃ ∷ X₄ ∷ Xs in
      let n : ℕ = length X in
      let k : ℕ = largest_power n in
      let b = between n (omega arith) in
      let s = shorter n (omega arith) in
      let here : p k ≡ q k = rw b.is_power (same b.exponent (rw b.is_power at (two k n b.twice_above (omega arith))) (rw b.is_power at (le_trans b.not_above h))) in
      let before : length (take (k - 1) X) ≡ k - 1 = length-take-le (k - 1) X (omega (arith, s.before)) in
      let behind : length (drop k X) ≡ n - k = length-drop k X in
      rw (
        here,
        agreeing_powers d (take (k - 1) X) (omega (arith, before, s.before, h)),
        agreeing_powers d (drop k X) (omega (arith, behind, s.behind, h)),
      )

pub lent_polynomial_lem : (t : ℕ) (words Xs : List ℕ) (n : ℕ) → ((i : ℕ) → power_at words i ≡ prepared t n i) → length Xs ≤ n → n ≤ 255
    → lent_polynomial words Xs ≡ BRW 1 ◌·◌ t Xs
unfolding lent_polynomial lent_power BRW prepared
lent_polynomial_lem t words Xs n h l m =
    rw (h 0) (agreeing_powers ◌·◌ t (lent_power words) (power 1 ◌·◌ t) n same (length Xs) Xs l)
  where
    by_index : (j : ℕ) → 2 ≤ 2 ^ j → 2 ^ j ≤ n → prepared t n j ≡ power 1 ◌·◌ t (2 ^ j)
    by_index zero g k = absurd (lt_irrefl 1 g)
    by_index (suc j) g k =
        let fits : 2 ^ suc j ≤ min n 255 = omega (arith, k, m) in
        rw (le-leb (2 ^ suc j) (min n 255) fits)

    same : (j : ℕ) → 2 ≤ 2 ^ j → 2 ^ j ≤ n → lent_power words (2 ^ j) ≡ power 1 ◌·◌ t (2 ^ j)
    same j g k = rw (zeros_of_power j (small j (le_trans k m)), h j) (by_index j g k)
