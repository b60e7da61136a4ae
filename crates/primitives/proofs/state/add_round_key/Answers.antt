-- Column by column.
use Rattle.std.proofs.Common.{refl, ap, ◌∙◌, arith}
use Rattle.strings.specs.Xor.{◌⊕◌}
use Rattle.primitives.specs.Inner.{of_columns}
use Rattle.strings.proofs.Filled.{one_filled, all_filled}
use Rattle.primitives.proofs.Mixing.{key_added}
use Rattle.primitives.proofs.state.add_round_key.Goals as goal

pub loop-c-preserved : goal.loop-c-preserved
unfolding ◌⊕◌
loop-c-preserved c = one_filled _ c.loop-c.invariant (omega arith) refl

pub returns : goal.returns
returns c =
    let a = c.args in
    ap of_columns (all_filled c.loop-c.invariant c.loop-c-test.false) ∙ key_added a.w a.words.now a.n
