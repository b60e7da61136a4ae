-- The comparing of strings.
-- Assumes nothing.
use mathlib.Core.Path.{◌≡◌, refl, sym}
use mathlib.Core.Bool.{Bool, true, false, ◌&&◌, false≢true, and_assoc}
use mathlib.Core.List.{List, [], ◌∷◌, ◌++◌}
use Prim.Native.Nat.{ℕ}
use borrow.Author.Tests.{eqb-true, eq-eqb}
use lib.Dec.{eqb}
use lib.ListN.{length, take, drop}
use Rattle.strings.specs.Bytes.{equal}

-- Equal strings pass the test, and no others.
pub equal_refl : (s : List ℕ) → equal s s ≡ true
unfolding equal
equal_refl [] = refl
equal_refl (a ∷ s) = rw (eq-eqb a a refl, equal_refl s)

pub both : (a b : Bool) → (a && b) ≡ true → (a ≡ true) × (b ≡ true)
both true b e = (refl, e)
both false b e = absurd (false≢true e)

pub equal_true : (s t : List ℕ) → equal s t ≡ true → s ≡ t
unfolding equal
equal_true [] [] e = refl
equal_true [] (b ∷ t) e = absurd (false≢true e)
equal_true (a ∷ s) [] e = absurd (false≢true e)
equal_true (a ∷ s) (b ∷ t) e =
    let parts = both (eqb a b) (equal s t) e in
    rw (eqb-true a b parts.0, equal_true s t parts.1)

-- A string is two in a row where its front is the first and what stands behind it the second.
pub equal-append : (s t u : List ℕ) → equal s (t ++ u) ≡ (equal (take (length t) s) t && equal (drop (length t) s) u)
unfolding equal
equal-append s [] u = refl
equal-append [] (b ∷ t) u = refl
equal-append (a ∷ s) (b ∷ t) u =
    rw (equal-append s t u) (sym (and_assoc (eqb a b) (equal (take (length t) s) t) (equal (drop (length t) s) u)))
