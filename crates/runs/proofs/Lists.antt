-- The list of lengths, and the last place.
-- Assumes nothing.
use Prim.Native.Nat.{ℕ, zero, suc, ◌+◌, ◌-◌, ◌≤◌, ◌<◌}
use mathlib.Core.Path.{◌≡◌, refl, sym, ◌∙◌}
use mathlib.Core.Bool.{Bool, true, false, cond, ◌||◌, false≢true}
use mathlib.Core.List.{List, [], ◌∷◌, ◌++◌, append_assoc}
use native.Mathlib.Nat.{one-mul}
use native.Mathlib.Numerals.{add-one}
use native.Mathlib.Omega.{arith}
use borrow.Author.Tests.{ltb-false, le-ltb, lt-ltb}
use lib.Dec.{ltb}
use lib.ListN.{length, get_or, set, drop}
use lib.Seq.{drop-cons, set_at}
use Rattle.std.specs.List.{list_any}
use Rattle.std.specs.Prelude.{nat_lt}
use Rattle.layout.specs.Finding.{part}
use Rattle.layout.proofs.Parts.{before_or_from}
use Rattle.runs.specs.Run.{blockwise}
use Rattle.runs.specs.Sealing.{some_over}
use Rattle.runs.proofs.Blocks.{length-blockwise}

-- ---- entries over a limit

pub over_from : (limit : ℕ) (s : List ℕ) (i : ℕ) → i < length s
    → some_over limit (drop i s) ≡ cond (ltb limit (get_or s i 0)) true (some_over limit (drop (i + 1) s))
unfolding some_over
over_from limit s i h = rw (drop-cons s i 0 h, add-one i)

first_within : (limit u : ℕ) (s : List ℕ) → (t : Bool) → ltb limit u ≡ t → cond t true (some_over limit s) ≡ false → (u ≤ limit) × (some_over limit s ≡ false)
first_within limit u s true e h = absurd (false≢true (sym h))
first_within limit u s false e h = (ltb-false limit u e, h)

one_or : (t : Bool) {r : Bool} → r ≡ true → cond t true r ≡ true
one_or true e = refl
one_or false e = e

either : (t x : Bool) → (t || x) ≡ cond t true x
either true x = refl
either false x = refl

-- The library's test of each entry.
pub any_over : (limit : ℕ) (s : List ℕ) → list_any (λ u. nat_lt limit u) s ≡ some_over limit s
unfolding some_over
any_over limit [] = refl
any_over limit (u ∷ s) = either (ltb limit u) _ ∙ rw (any_over limit s) refl

pub none_over : (limit : ℕ) (s : List ℕ) → some_over limit s ≡ false → (i : ℕ) → get_or s i 0 ≤ limit
unfolding some_over
none_over limit [] h i = omega arith
none_over limit (u ∷ s) h zero = (first_within limit u s (ltb limit u) refl h).0
none_over limit (u ∷ s) h (suc i) = none_over limit s (first_within limit u s (ltb limit u) refl h).1 i

pub over_some : (limit : ℕ) (s : List ℕ) (i : ℕ) → limit < get_or s i 0 → some_over limit s ≡ true
unfolding some_over
over_some limit [] i h = absurd (omega (arith, h))
over_some limit (u ∷ s) zero h = rw (lt-ltb limit u h)
over_some limit (u ∷ s) (suc i) h = one_or (ltb limit u) (over_some limit s i h)

pub some_over_lem : (limit : ℕ) (s : List ℕ) → ((i : ℕ) → i < length s → get_or s i 0 ≤ limit) → some_over limit s ≡ false
unfolding some_over
some_over_lem limit [] each = refl
some_over_lem limit (u ∷ s) each = rw (le-ltb limit u (each 0 (omega arith))) (some_over_lem limit s (λ i h. each (suc i) (omega (arith, h))))

-- ---- a list that is filled with a number for each block

pub filled_next : (g : List ℕ → ℕ) (run lent : List ℕ) (i : ℕ) {s : List ℕ} {v : ℕ} → i < length lent → s ≡ blockwise (λ j B. g B ∷ []) i run ++ drop i lent
    → v ≡ g (part i run) → set s i v ≡ blockwise (λ j B. g B ∷ []) (i + 1) run ++ drop (i + 1) lent
unfolding blockwise
filled_next g run lent i {s} {v} h here e =
    let made = blockwise (λ j B. g B ∷ []) i run in
    let size : length made ≡ i = rw one-mul at (length-blockwise 1 (λ j B. g B ∷ []) run i (λ j l. refl)) in
    rw (here, drop-cons lent i 0 h, e, add-one i)
    (set_at made (get_or lent i 0) (drop (suc i) lent) (g (part i run)) i size ∙ sym (append_assoc made (g (part i run) ∷ []) (drop (suc i) lent)))

-- ---- the last place, without an overflow

pub last_place_lem : (a : ℕ) → ltb 65536 a ≡ ltb 65535 (a - 1)
last_place_lem a =
    before_or_from 65536 a (λ past. rw (lt-ltb 65536 a past, lt-ltb 65535 (a - 1) (omega (arith, past))))
    (λ within. rw (le-ltb 65536 a within, le-ltb 65535 (a - 1) (omega (arith, within))))
