-- With powers that are prepared for as many blocks the value is the hash.
use mathlib.Core.Path.{◌≡◌, ◌∙◌}
use Rattle.blocks.specs.Blocks.{blocks}
use Rattle.blocks.specs.BlockField.{◌·◌}
use Rattle.blocks.specs.Inner.{value}
use Rattle.brw.specs.Brw.{hash}
use Rattle.brw.specs.Inner.{power_at, prepared, lent_polynomial}
use Rattle.brw.proofs.Squares.{lent_polynomial_lem}
use Rattle.brw.proofs.hash.Goals as goal

pub returns-clause-by_index : goal.returns-clause-by_index
unfolding hash prepared
returns-clause-by_index c t n good l m =
    let words = c.args.powers.now in
    let Xs = blocks c.args.s.now in
    let made : value c.product.result ≡ power_at words 0 · lent_polynomial words Xs =
    c.product.ensures ∙ simp (c.power.ensures, c.evaluate-polynomial.ensures.value_value) in
    made ∙ simp (good 0, lent_polynomial_lem t words Xs n good l m)
