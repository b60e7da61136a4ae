-- The clauses hold without a depth: any that is not below the number of blocks gives the same. So it is for the number of products, which is half the number of blocks.
-- Assumes nothing.
use Prim.Native.Nat.{ℕ, zero, suc, ◌+◌, ◌-◌, ◌/◌, ◌%◌, ◌^◌, ◌≤◌, ◌<◌}
use mathlib.Core.Path.{◌≡◌, refl}
use mathlib.Core.List.{List, [], ◌∷◌}
use native.Mathlib.Nat.{le_refl, le_of_suc-le-suc, not-suc-le-zero, pow-suc}
use native.Mathlib.Omega.{arith}
use lib.ListN.{length, get_or, take, drop, length-drop}
use lib.Seq.{length-take-le}
use Rattle.strings.specs.Xor.{◌⊕◌}
use Rattle.brw.specs.Brw.{largest_power, polynomial, products_within, products}
use Rattle.brw.proofs.Largest.{between}

-- The parts before and behind the kth block are shorter than the whole.
pub record Shorter (n k : ℕ) : Type 0 where
  pub within : k ≤ n
  pub before : k - 1 < n
  pub behind : n - k < n

pub shorter : (n : ℕ) → 1 ≤ n → Shorter n (largest_power n)
shorter n l =
    let b = between n l in
    let k : ℕ = largest_power n in
    let positive : 0 < k = omega (arith, b.twice_above) in
    record { within = b.not_above; before = omega (arith, positive, b.not_above); behind = omega (arith, positive, b.not_above) }

impossible : (n : ℕ) → 4 ≤ n → n < 4 → ⊥
impossible n h l = omega arith

module _ (◌·◌ : ℕ → ℕ → ℕ) (t : ℕ) (tᵏ : ℕ → ℕ) where
  infixl 70 ◌·◌
  abbrev f : ℕ → List ℕ → ℕ
  f = polynomial ◌·◌ t tᵏ

  pub enough : (d e : ℕ) (Xs : List ℕ) → length Xs ≤ d → length Xs ≤ e → f d Xs ≡ f e Xs
  unfolding polynomial
  enough zero zero Xs h l = refl
  enough zero (suc e) [] h l = refl
  enough zero (suc e) (X ∷ Xs) h l = absurd (not-suc-le-zero h)
  enough (suc d) zero [] h l = refl
  enough (suc d) zero (X ∷ Xs) h l = absurd (not-suc-le-zero l)
  enough (suc d) (suc e) [] h l = refl
  enough (suc d) (suc e) (X₁ ∷ []) h l = refl
  enough (suc d) (suc e) (X₁ ∷ X₂ ∷ []) h l = refl
  enough (suc d) (suc e) (X₁ ∷ X₂ ∷ X₃ ∷ []) h l = refl
  enough (suc d) (suc e) (X₁ ∷ X₂ ∷ X₃ ∷ X₄ ∷ Xs) h l =
      let X : List ℕ = X₁ ∷ X₂ ∷ X₃ ∷ X₄ ∷ Xs in
      let n : ℕ = length X in
      let k : ℕ = largest_power n in
      let s = shorter n (omega arith) in
      let before : length (take (k - 1) X) ≡ k - 1 = length-take-le (k - 1) X (omega (arith, s.before)) in
      let behind : length (drop k X) ≡ n - k = length-drop k X in
      rw (
        enough d e (take (k - 1) X) (omega (arith, before, s.before, h)) (omega (arith, before, s.before, l)),
        enough d e (drop k X) (omega (arith, behind, s.behind, h)) (omega (arith, behind, s.behind, l)),
      )

  -- The last clause with the depth that each part has of itself.
  pub more : (Xs : List ℕ) → 4 ≤ length Xs
      → let k = largest_power (length Xs) in
      let before = take (k - 1) Xs in
      let behind = drop k Xs in
      f (length Xs) Xs ≡ f (length before) before · (tᵏ k ⊕ get_or Xs (k - 1) 0) ⊕ f (length behind) behind
  unfolding polynomial
  more [] h = absurd (not-suc-le-zero h)
  more (X₁ ∷ []) h = absurd (impossible 1 h (omega arith))
  more (X₁ ∷ X₂ ∷ []) h = absurd (impossible 2 h (omega arith))
  more (X₁ ∷ X₂ ∷ X₃ ∷ []) h = absurd (impossible 3 h (omega arith))
  more (X₁ ∷ X₂ ∷ X₃ ∷ X₄ ∷ Xs) h =
      let X : List ℕ = X₁ ∷ X₂ ∷ X₃ ∷ X₄ ∷ Xs in
      let n : ℕ = length X in
      let d : ℕ = length (X₂ ∷ X₃ ∷ X₄ ∷ Xs) in
      let k : ℕ = largest_power n in
      let s = shorter n (omega arith) in
      let before : length (take (k - 1) X) ≡ k - 1 = length-take-le (k - 1) X (omega (arith, s.before)) in
      let behind : length (drop k X) ≡ n - k = length-drop k X in
      rw (
        enough d (length (take (k - 1) X)) (take (k - 1) X) (omega (arith, before, s.before)) (le_refl _),
        enough d (length (drop k X)) (drop k X) (omega (arith, behind, s.behind)) (le_refl _),
      )

-- ---- the number of products

products_enough : (d e n : ℕ) → n ≤ d → n ≤ e → products_within d n ≡ products_within e n
unfolding products_within
products_enough zero zero n h l = refl
products_enough zero (suc e) zero h l = refl
products_enough zero (suc e) (suc n) h l = absurd (not-suc-le-zero h)
products_enough (suc d) zero zero h l = refl
products_enough (suc d) zero (suc n) h l = absurd (not-suc-le-zero l)
products_enough (suc d) (suc e) zero h l = refl
products_enough (suc d) (suc e) (suc zero) h l = refl
products_enough (suc d) (suc e) (suc (suc zero)) h l = refl
products_enough (suc d) (suc e) (suc (suc (suc zero))) h l = refl
products_enough (suc d) (suc e) (suc (suc (suc (suc n)))) h l =
    let m : ℕ = suc (suc (suc (suc n))) in
    let k : ℕ = largest_power m in
    let s = shorter m (omega arith) in
    rw (
      products_enough d e (k - 1) (omega (arith, s.before, h)) (omega (arith, s.before, l)),
      products_enough d e (m - k) (omega (arith, s.behind, h)) (omega (arith, s.behind, l)),
    )

pub products_more : (m : ℕ) → 4 ≤ m → let k = largest_power m in products m ≡ products (k - 1) + 1 + products (m - k)
unfolding products products_within
products_more zero h = absurd (not-suc-le-zero h)
products_more (suc zero) h = absurd (impossible 1 h (omega arith))
products_more (suc (suc zero)) h = absurd (impossible 2 h (omega arith))
products_more (suc (suc (suc zero))) h = absurd (impossible 3 h (omega arith))
products_more (suc (suc (suc (suc n)))) h =
    let m : ℕ = suc (suc (suc (suc n))) in
    let k : ℕ = largest_power m in
    let s = shorter m (omega arith) in
    rw (
      products_enough (suc (suc (suc n))) (k - 1) (k - 1) (omega (arith, s.before)) (le_refl _),
      products_enough (suc (suc (suc n))) (m - k) (m - k) (omega (arith, s.behind)) (le_refl _),
    )

-- A power of two that is at least 2 is even, so that the products before the kth block, the one with it and those behind it are half of all.
halves : (n k : ℕ) → k % 2 ≡ 0 → 2 ≤ k → k ≤ n → (k - 1) / 2 + 1 + (n - k) / 2 ≡ n / 2
halves n k e h l = omega arith

even_power : (j : ℕ) → 2 ≤ 2 ^ j → 2 ^ j % 2 ≡ 0
even_power zero h = absurd (not-suc-le-zero (le_of_suc-le-suc h))
even_power (suc j) h = omega (arith, pow-suc 2 j)

half_within : (d n : ℕ) → n ≤ d → products_within d n ≡ n / 2
unfolding products_within
half_within zero zero h = refl
half_within zero (suc n) h = absurd (not-suc-le-zero h)
half_within (suc d) zero h = refl
half_within (suc d) (suc zero) h = refl
half_within (suc d) (suc (suc zero)) h = refl
half_within (suc d) (suc (suc (suc zero))) h = refl
half_within (suc d) (suc (suc (suc (suc n)))) h =
    let m : ℕ = suc (suc (suc (suc n))) in
    let k : ℕ = largest_power m in
    let s = shorter m (omega arith) in
    let b = between m (omega arith) in
    let two : 2 ≤ k = omega (arith, b.twice_above) in
    let even : k % 2 ≡ 0 = rw b.is_power (even_power b.exponent (rw b.is_power at two)) in
    rw (half_within d (k - 1) (omega (arith, s.before, h)), half_within d (m - k) (omega (arith, s.behind, h))) (halves m k even two s.within)

pub products_half : (n : ℕ) → products n ≡ n / 2
unfolding products
products_half n = half_within n n (le_refl n)
