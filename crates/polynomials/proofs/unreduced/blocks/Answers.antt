-- The nine products of the parts.
use mathlib.Core.Path.{◌∙◌}
use Prim.Native.Nat.{◌^◌, ◌<◌}
use Rattle.blocks.specs.Inner.{value}
use Rattle.polynomials.proofs.Karatsuba.{Products, of_blocks}
use borrow.Author.Rules.{rules}
use Rattle.polynomials.proofs.unreduced.blocks.Goals as goal

pub returns : goal.returns
unfolding value
returns c =
    let low_a : c.args.a.lo < 2 ^ 64 = search rules in
    let low_b : c.args.b.lo < 2 ^ 64 = search rules in
    let a = c.args.a in
    let b = c.args.b in
    let ea = c.parts-x.ensures in
    let eb = c.parts-y.ensures in
    let products : Products c.products.result c.words.result a.lo a.hi b.lo b.hi =
    record {
      eight = λ i h. rw (ea, eb) at (c.products.ensures i h);
      last = rw (ea, eb) at c.words.ensures;
    } in
    c.assembled.ensures ∙ of_blocks products low_a low_b
