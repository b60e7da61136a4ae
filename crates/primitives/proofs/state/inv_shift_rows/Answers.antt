-- Three shifts by one are a shift by three, which is one back.
use Rattle.primitives.specs.Aes.{at, state, shift_rows, inv_shift_rows}
use Rattle.primitives.proofs.state.inv_shift_rows.Goals as goal

pub returns : goal.returns
unfolding at state shift_rows inv_shift_rows
returns c = rw (c.shift_rows-3.ensures, c.shift_rows-2.ensures, c.shift_rows.ensures)
