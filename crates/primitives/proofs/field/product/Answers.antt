-- The carry-less product, reduced.
use Rattle.std.proofs.Common.{◌≡◌, ◌+◌, ◌*◌, ◌^◌, sym, ap, ◌∙◌, lit<, rules}
use Rattle.blocks.specs.Inner.{value}
use Rattle.polynomials.specs.Inner.{carryless, reduction}
use Rattle.blocks.proofs.Halves.{value_below}
use Rattle.polynomials.proofs.Modulo.{product_reduced}
use Rattle.primitives.proofs.field.product.Goals as goal

pub returns : goal.returns
returns c =
    let args = c.args in
    let r = c.blocks-2.result in
    let whole : value r.high * 2 ^ 128 + value r.low ≡ carryless 128 (value args.a) (value args.b) = c.blocks-2.ensures in
    c.reduced.ensures ∙ ap (reduction 128 0x87) whole
    ∙ sym (product_reduced 128 0x87 (lit< tt) (lit< tt) (value args.a) (value args.b)
    (value_below args.a (search rules) (search rules)) (value_below args.b (search rules) (search rules)))
