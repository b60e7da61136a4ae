-- Entry by entry: the table's at the byte there.
use Rattle.std.proofs.Common.{get_or, w8}
use Rattle.primitives.specs.Aes.{at, state}
use Rattle.strings.proofs.Filled.{refilled, all_filled}
use Rattle.strings.proofs.Arrays.{elements}
use Rattle.primitives.proofs.state.inv_sub_bytes.Goals as goal

pub returns : goal.returns
unfolding at state
returns c f h =
    let bytes = elements w8 16 c.args.s _ c.well_formed.1.0 in
    all_filled (refilled (λ j. h.entry (get_or c.args.s j 0) (bytes j)) c.loop-i.invariant) c.loop-i-test.false
