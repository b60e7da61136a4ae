-- The nine products of the parts of a and b, and those of c and d.
use mathlib.Core.Path.{◌∙◌}
use Prim.Native.Nat.{◌^◌, ◌<◌}
use Rattle.strings.specs.Xor.{◌⊕◌}
use Rattle.blocks.specs.Inner.{value}
use Rattle.polynomials.proofs.Karatsuba.{Products, of_two}
use borrow.Author.Rules.{rules}
use Rattle.polynomials.proofs.unreduced.two_products.Goals as goal

pub returns : goal.returns
unfolding value ◌⊕◌
returns c =
    let low_a : c.args.a.lo < 2 ^ 64 = search rules in
    let low_b : c.args.b.lo < 2 ^ 64 = search rules in
    let low_c : c.args.c.lo < 2 ^ 64 = search rules in
    let low_d : c.args.d.lo < 2 ^ 64 = search rules in
    let ea = c.parts-x.ensures in
    let eb = c.parts-y.ensures in
    let ec = c.parts-u.ensures in
    let ed = c.parts-v.ensures in
    let a = c.args in
    let first : Products c.products.result c.words.result a.a.lo a.a.hi a.b.lo a.b.hi =
    record {
      eight = λ i h. rw (ea, eb) at (c.products.ensures i h);
      last = rw (ea, eb) at c.words.ensures;
    } in
    let second : Products c.products-2.result c.words-2.result a.c.lo a.c.hi a.d.lo a.d.hi =
    record {
      eight = λ i h. rw (ec, ed) at (c.products-2.ensures i h);
      last = rw (ec, ed) at c.words-2.ensures;
    } in
    c.assembled.ensures ∙ of_two c.sums.result first second low_a low_b low_c low_d c.sums.ensures
