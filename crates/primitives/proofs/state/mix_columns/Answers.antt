-- Column by column.
use Rattle.std.proofs.Common.{ap, ◌∙◌}
use Rattle.primitives.specs.Inner.{of_columns}
use Rattle.strings.proofs.Filled.{all_filled}
use Rattle.primitives.proofs.Mixing.{mixed_by}
use Rattle.primitives.proofs.state.mix_columns.Goals as goal

pub returns : goal.returns
returns c own next second third T =
    ap of_columns (all_filled c.loop-c.invariant c.loop-c-test.false) ∙ mixed_by T c.args.w
