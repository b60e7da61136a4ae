-- Entry by entry: byte j comes from byte 5 j modulo 16.
use Rattle.std.proofs.Common.{◌-◌, ◌*◌, ◌%◌, get_or}
use Rattle.strings.proofs.Filled.{Filled}
use Rattle.primitives.proofs.state.shift_rows.Given as goal

abbrev pub invariant-loop-i : goal.invariant-loop-i
invariant-loop-i l = Filled 16 l.i (λ j. get_or l.s (5 * j % 16) 0) l.t

abbrev pub decreases-loop-i : goal.decreases-loop-i
decreases-loop-i l = 16 - l.i
