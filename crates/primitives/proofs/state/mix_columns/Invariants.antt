-- Column by column.
use Rattle.std.proofs.Common.{◌-◌, get_or}
use Rattle.primitives.specs.Inner.{column_by}
use Rattle.strings.proofs.Filled.{Filled}
use Rattle.primitives.proofs.state.mix_columns.Given as goal

abbrev pub invariant-loop-c : goal.invariant-loop-c
invariant-loop-c l = Filled 4 l.c (λ j. column_by l.table (get_or l.w j 0)) l.t

abbrev pub decreases-loop-c : goal.decreases-loop-c
decreases-loop-c l = 4 - l.c
