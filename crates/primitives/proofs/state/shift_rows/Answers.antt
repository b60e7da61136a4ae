-- Entry by entry: byte j comes from byte 5 j modulo 16.
use Rattle.primitives.specs.Aes.{at, state, shift_rows}
use Rattle.strings.proofs.Filled.{all_filled}
use Rattle.primitives.proofs.state.shift_rows.Goals as goal

pub returns : goal.returns
unfolding at state shift_rows
returns c = all_filled c.loop-i.invariant c.loop-i-test.false
