-- Sum by sum.
use mathlib.Core.Path.{refl}
use native.Mathlib.Omega.{arith}
use Rattle.strings.specs.Xor.{◌⊕◌}
use Rattle.strings.proofs.Filled.{one_filled}
use Rattle.polynomials.proofs.unreduced.sums.Goals as goal

pub loop-i-preserved : goal.loop-i-preserved
unfolding ◌⊕◌
loop-i-preserved c = one_filled _ c.loop-i.invariant (omega arith) refl
