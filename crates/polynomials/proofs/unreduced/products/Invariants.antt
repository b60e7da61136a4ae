-- Product by product.
use Prim.Native.Nat.{ℕ, ◌-◌}
use mathlib.Core.List.{List}
use lib.ListN.{get_or}
use Rattle.polynomials.specs.Inner.{carryless}
use Rattle.strings.proofs.Filled.{Filled}
use Rattle.polynomials.proofs.unreduced.products.Given as goal

abbrev pub product : List ℕ → List ℕ → ℕ → ℕ
product x y j = carryless 32 (get_or x j 0) (get_or y j 0)

abbrev pub invariant-loop-i : goal.invariant-loop-i
invariant-loop-i l = Filled 8 l.i (product l.x l.y) l.z

abbrev pub decreases-loop-i : goal.decreases-loop-i
decreases-loop-i l = 8 - l.i
