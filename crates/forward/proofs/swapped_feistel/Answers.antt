-- The blocks swapped before and after.
use Prim.Native.Nat.{ℕ}
use mathlib.Core.Path.{ap}
use Rattle.forward.specs.Forward.{swapped_feistel}
use Rattle.forward.proofs.swapped_feistel.Goals as goal

pub returns : goal.returns
unfolding swapped_feistel
returns c = ap (λ (p : ℕ × ℕ). (p.1, p.0)) c.feistel.ensures
