-- How much of a chunk a call uses up: some of it, and no more than there is.
-- Assumes nothing.
use mathlib.Core.Path.{◌≡◌, refl}
use mathlib.Core.Bool.{Bool, true, false, cond}
use mathlib.Core.List.{List}
use Prim.Native.Nat.{ℕ, suc, ◌≤◌, ◌<◌}
use native.Mathlib.Omega.{arith}
use lib.ListN.{length}
use lib.Dec.{ltb}
use borrow.Author.Tests.{ltb-true}
use Rattle.text.specs.Inner.{before}
use Rattle.line.specs.Inner.{ends_in, used_by}

pub used : (rest : List ℕ) → 0 < length rest → (0 < used_by rest) × (used_by rest ≤ length rest)
unfolding used_by ends_in
used rest h = by (ltb (length (before 10 rest)) (length rest)) refl
  where
    by : (t : Bool) → ltb (length (before 10 rest)) (length rest) ≡ t → (0 < cond t (suc (length (before 10 rest))) (length rest)) × (cond t (suc (length (before 10 rest))) (length rest) ≤ length rest)
    by true e = (omega arith, ltb-true _ _ e)
    by false e = (h, omega arith)
