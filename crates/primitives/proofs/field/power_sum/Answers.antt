-- The blocks behind the pairs, one by one: what Horner's rule makes of the sum so far and of the chunks that are left is what it makes of all of them.
use Rattle.std.proofs.Common.{◌≡◌, ℕ, [], sym, ap, ◌∙◌, le_refl, rules}
use Rattle.std.proofs.lemmas.List.{drop_all}
use Rattle.std.specs.Slice.Iter.{chunks_rest}
use Rattle.strings.specs.Xor.{◌⊕◌}
use Rattle.blocks.specs.Blocks.{first_block, blocks}
use Rattle.blocks.specs.BlockField.{◌·◌}
use Rattle.blocks.specs.Inner.{horner, value}
use Rattle.blocks.proofs.Blocks.{blocks_nil, blocks_below, block_taken, chunk_front, chunk_behind}
use Rattle.blocks.proofs.Halves.{value_below}
use Rattle.blocks.proofs.Horner.{horner-next, horner_rule}
use Rattle.blocks.proofs.Ring.{ring_of_blocks}
use Rattle.primitives.proofs.field.power_sum.Goals as goal

pub loop-block-preserved : goal.loop-block-preserved
loop-block-preserved c =
    let l = c.loop-block in
    let R : ℕ = value c.args.r in
    let x = c.in-Some.block.now in
    let rest = chunks_rest l.block-iterator in
    let behind = chunks_rest c.next.new.self in
    let steps = c.in-Some.ensures.steps in
    let size = l.invariant.0 in
    let width = rw size at steps.1.1 in
    let first : first_block x ≡ first_block rest = ap first_block (chunk_front 16 x behind rest steps.1.0 width) ∙ block_taken 16 rest (le_refl 16) in
    let turn : value c.product-sum.result ≡ (value l.sum ⊕ first_block rest) · R =
    c.product-sum.ensures ∙ ap (λ (x : ℕ). x · R) (c.xor.ensures ∙ ap (λ (x : ℕ). value l.sum ⊕ x) (c.read.ensures ∙ first)) in (
      steps.0 ∙ size,
      rw (turn, chunk_behind 16 x behind rest steps.1.0 width) (sym (horner-next ◌·◌ R (value l.sum) 0 rest steps.1.2) ∙ l.invariant.1),
    )

pub returns : goal.returns
unfolding horner
returns c =
    let args = c.args in
    let s = args.s.now in
    let R = value args.r in
    let rest = chunks_rest c.loop-block.block-iterator in
    let none : rest ≡ [] = drop_all 0 rest (rw c.in-None.ensures.steps.1.0 (le_refl 0)) in
    let done : blocks rest ≡ [] = rw none blocks_nil in
    (rw done at c.loop-block.invariant.1)
    ∙ horner_rule ring_of_blocks R (value_below args.r (search rules) (search rules)) (blocks s)
    (blocks_below s (λ i. (c.type_inv.s i).fits))
