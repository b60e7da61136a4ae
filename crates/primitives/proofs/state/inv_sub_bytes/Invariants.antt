-- Entry by entry: the table's at the byte there.
use Rattle.std.proofs.Common.{◌-◌, get_or}
use Rattle.strings.proofs.Filled.{Filled}
use Rattle.primitives.proofs.state.inv_sub_bytes.Given as goal

abbrev pub invariant-loop-i : goal.invariant-loop-i
invariant-loop-i l = Filled 16 l.i (λ j. get_or l.table (get_or l.s j 0) 0) l.t

abbrev pub decreases-loop-i : goal.decreases-loop-i
decreases-loop-i l = 16 - l.i
