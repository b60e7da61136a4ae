-- Byte by byte: row 1 of the column that the byte there adds.
use Rattle.std.proofs.Common.{◌-◌, get_or}
use Rattle.strings.specs.Bytes.{bytes}
use Rattle.strings.proofs.Filled.{Filled}
use Rattle.primitives.proofs.state.sub_bytes.Given as goal

abbrev pub invariant-loop-i : goal.invariant-loop-i
invariant-loop-i l = Filled 16 l.i (λ j. get_or (bytes 4 (get_or l.table (get_or l.s j 0) 0)) 1 0) l.t

abbrev pub decreases-loop-i : goal.decreases-loop-i
decreases-loop-i l = 16 - l.i
