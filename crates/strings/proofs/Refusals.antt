-- Laws of tests and their refusals: what the number of an answer tells of the tests, and what a refusal leaves.
-- Assumes nothing.
use Prim.Native.Nat.{ℕ, zero, suc, ◌≤◌, ◌<◌}
use mathlib.Core.Path.{◌≡◌, refl, sym, ap, ◌∙◌}
use mathlib.Core.Bool.{Bool, true, false, not, ◌||◌}
use mathlib.Core.List.{List, [], ◌∷◌}
use mathlib.Core.Logic.{◌⊎◌, inl, inr}
use native.Mathlib.Omega.{arith}
use lib.ListN.{take}
use Rattle.strings.specs.declared.refusal.Refusal.{Refusal}
use Rattle.strings.specs.declared.refusal.Refusal.TheVariants.{KeyLength, TweakLength, TooShort, TooLong, PayloadTooLong, PlaceTooHigh, BlockLength, CheckFailed, PackLength, ListLength, Blank, ForwardTooShort}
use Rattle.std.specs.Prelude.{cond, ⊤, Result, Ok, Err}
use Rattle.strings.specs.Call.{Answer, refusal_number, number_of, Tests, looks_at, left_by}
use Rattle.strings.specs.Inner.{in_turn}

-- A refusal's number is not that of a call that was done, nor 9, which is the program's; and 13 is the highest.
pub refusal_range : (why : Refusal) → (0 < refusal_number why) × (refusal_number why ≤ 13) × (refusal_number why ≡ 9 → ⊥)
refusal_range KeyLength = (omega arith, omega arith, λ e. omega (arith, e))
refusal_range TweakLength = (omega arith, omega arith, λ e. omega (arith, e))
refusal_range TooShort = (omega arith, omega arith, λ e. omega (arith, e))
refusal_range TooLong = (omega arith, omega arith, λ e. omega (arith, e))
refusal_range PayloadTooLong = (omega arith, omega arith, λ e. omega (arith, e))
refusal_range PlaceTooHigh = (omega arith, omega arith, λ e. omega (arith, e))
refusal_range BlockLength = (omega arith, omega arith, λ e. omega (arith, e))
refusal_range CheckFailed = (omega arith, omega arith, λ e. omega (arith, e))
refusal_range PackLength = (omega arith, omega arith, λ e. omega (arith, e))
refusal_range ListLength = (omega arith, omega arith, λ e. omega (arith, e))
refusal_range Blank = (omega arith, omega arith, λ e. omega (arith, e))
refusal_range ForwardTooShort = (omega arith, omega arith, λ e. omega (arith, e))

refusal_some : (why : Refusal) → refusal_number why ≡ 0 → ⊥
refusal_some why e = omega (arith, (refusal_range why).0, e)

-- An answer's number has at most two digits.
pub number_range : {A : Type 0} (a : Result A Refusal) → number_of a < 100
number_range (Ok a) = omega arith
number_range (Err why) = omega (arith, (refusal_range why).1)

-- ---- tests one by one

refused_stays : (why : Refusal) (tests : Tests) → in_turn (Err why) tests ≡ Err why
unfolding in_turn
refused_stays why [] = refl
refused_stays why (t ∷ tests) = refused_stays why tests

pub in_turn_lem : (tests : Tests) → in_turn (Ok tt) tests ≡ looks_at tests
unfolding in_turn
in_turn_lem [] = refl
in_turn_lem ((true, why) ∷ tests) = refused_stays why tests
in_turn_lem ((false, why) ∷ tests) = in_turn_lem tests

-- ---- what the answer tells

-- No test holds.
abbrev pub NoneHolds : Tests → Type 0
NoneHolds [] = Unit {0}
NoneHolds ((holds, why) ∷ tests) = (holds ≡ false) × NoneHolds tests

pub none_holds : (tests : Tests) → number_of (looks_at tests) ≡ 0 → NoneHolds tests
none_holds [] e = tt
none_holds ((true, why) ∷ tests) e = absurd (refusal_some why e)
none_holds ((false, why) ∷ tests) e = (refl, none_holds tests e)

pub all_passed : (tests : Tests) → NoneHolds tests → looks_at tests ≡ Ok tt
all_passed [] h = refl
all_passed ((holds, why) ∷ tests) h = rw h.0 (all_passed tests h.1)

-- A refusal by the first n tests is one by all of them.
pub refused_early : (n : ℕ) (tests : Tests) (why : Refusal) → looks_at (take n tests) ≡ Err why → looks_at tests ≡ Err why
refused_early zero tests why e = absurd (refusal_some why (sym (ap number_of e)))
refused_early (suc n) [] why e = e
refused_early (suc n) ((true, first) ∷ tests) why e = e
refused_early (suc n) ((false, first) ∷ tests) why e = refused_early n tests why e

-- A test that was passed does not hold.
pub passed : (holds : Bool) (why : Refusal) {r : Answer} {a : ⊤} → r ≡ cond holds (Err why) (Ok tt) → r ≡ Ok a → holds ≡ false
passed true why e ok = absurd (refusal_some why (ap number_of (sym e ∙ ok)))
passed false why e ok = refl

-- What was made under a condition tells that it holds.
pub made : {A : Type 0} (holds : Bool) (a : A) (why : Refusal) {r : Result A Refusal} {b : A} → r ≡ cond holds (Ok a) (Err why) → r ≡ Ok b → holds ≡ true
made true a why e ok = refl
made false a why e ok = absurd (refusal_some why (ap number_of (sym e ∙ ok)))

pub not_false : (t : Bool) → not t ≡ false → t ≡ true
not_false true e = refl
not_false false e = sym e

pub either : (a b : Bool) → (a || b) ≡ true → (a ≡ true) ⊎ (b ≡ true)
either true b e = inl refl
either false b e = inr e

-- ---- what a refusal leaves

pub refusal_leaves : (why : Refusal) (work lent : List ℕ) → lent ≡ left_by (refusal_number why) work lent
refusal_leaves why work lent = by (refusal_number why) (refusal_some why)
  where
    by : (n : ℕ) → (n ≡ 0 → ⊥) → lent ≡ left_by n work lent
    by zero h = absurd (h refl)
    by (suc n) h = refl

-- Of an answer that is a refusal.
module _ {A : Type 0} {a : Result A Refusal} {why : Refusal} (e : a ≡ Err why) where
  pub refused_some : number_of a ≡ 0 → ⊥
  refused_some z = refusal_some why (rw e at z)

  pub refused_leaves : (work lent : List ℕ) → lent ≡ left_by (number_of a) work lent
  refused_leaves work lent = rw e (refusal_leaves why work lent)
