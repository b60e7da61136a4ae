-- Two blocks at once: what Horner's rule makes of the sum so far and of the chunks that are left is what it makes of all of them.
use Rattle.std.proofs.Common.{◌≡◌, ℕ, ◌+◌, ◌-◌, ◌%◌, ◌^◌, ◌<◌, ◌≤◌, List, length, take, drop, sym, refl, ap, ◌∙◌, arith, drop-drop, length-append, le_refl, pow_pos, take_at, drop_at, lit≤, rules}
use Rattle.std.proofs.lemmas.List.{drop-take}
use Rattle.std.specs.Slice.Iter.{chunks_exact_rest, chunks_exact_size}
use Rattle.strings.specs.Xor.{◌⊕◌}
use Rattle.blocks.specs.Blocks.{first_block, blocks}
use Rattle.blocks.specs.BlockField.{◌·◌}
use Rattle.blocks.specs.Inner.{horner, value}
use Rattle.strings.proofs.Xor.{xor_below}
use Rattle.strings.proofs.Bytes.{below_drop}
use Rattle.blocks.proofs.Blocks.{block_below, block_taken}
use Rattle.blocks.proofs.Halves.{value_below}
use Rattle.blocks.proofs.Horner.{horner-next, two_steps}
use Rattle.blocks.proofs.Ring.{ring_of_blocks}
use Rattle.primitives.proofs.field.pairs.Goals as goal

-- two blocks more
next-two : (R S : ℕ) (s : List ℕ) → R < 2 ^ 128 → S ⊕ first_block s < 2 ^ 128 → 32 ≤ length s
    → horner ◌·◌ R ((S ⊕ first_block s) · (R · R) ⊕ first_block (drop 16 s) · R) (blocks (drop 32 s)) ≡ horner ◌·◌ R S (blocks s)
next-two R S s hR hA l =
    let A : ℕ = S ⊕ first_block s in
    let B : ℕ = first_block (drop 16 s) in
    ap (λ (x : ℕ). horner ◌·◌ R x (blocks (drop 32 s))) (sym (two_steps ring_of_blocks R A B hR hA))
    ∙ sym (horner-next ◌·◌ R S 0 s (omega arith) ∙ horner-next ◌·◌ R (A · R) 16 s (omega arith))

-- where the pairs end
short : (n : ℕ) → n < 32 → 0 ≡ n - n % 32
short n h = omega arith

pub returns-then-s-lt32 : goal.returns-then-s-lt32
unfolding value
returns-then-s-lt32 c =
    let s = c.args.s.now in
    rw (← short (length s) (search rules)) refl

pub loop-pair-init : goal.loop-pair-init
unfolding value
loop-pair-init c =
    let s = c.args.s.now in
    let gives = c.into_iter-pair-iterator.ensures.into_iter_gives in
    let all : chunks_exact_rest c.into_iter-pair-iterator.result ≡ s = ap chunks_exact_rest gives ∙ c.chunks_exact-pair-items.ensures.rest in
    let none : length s - length s ≡ 0 = omega arith in (
      ap chunks_exact_size gives ∙ c.chunks_exact-pair-items.ensures.size,
      rw all refl,
      pow_pos 128,
      rw all (le_refl (length s)),
      rw (all, none) refl,
      rw all refl,
    )

pub loop-pair-preserved : goal.loop-pair-preserved
loop-pair-preserved c =
    let l = c.loop-pair in
    let s = c.args.s.now in
    let R : ℕ = value c.args.r in
    let S : ℕ = value l.sum in
    let x = c.in-Some.pair.now in
    let rest = chunks_exact_rest l.pair-iterator in
    let behind = chunks_exact_rest c.next.new.self in
    let steps = c.in-Some.ensures.steps in
    let width : length x ≡ 32 = steps.1.1 ∙ l.invariant.0 in
    let front : x ≡ take 32 rest = sym (take_at x behind 32 width) ∙ ap (take 32) (sym steps.1.0) in
    let left : behind ≡ drop 32 rest = sym (drop_at x behind 32 width) ∙ ap (drop 32) (sym steps.1.0) in
    let longer : length rest ≡ length x + length behind = ap length steps.1.0 ∙ length-append x behind in
    let first : first_block x ≡ first_block rest = ap first_block front ∙ block_taken 32 rest (lit≤ tt) in
    let second : first_block (drop 16 x) ≡ first_block (drop 16 rest) =
    ap (λ (t : List ℕ). first_block (drop 16 t)) front ∙ ap first_block (drop-take 16 16 rest) ∙ block_taken 16 (drop 16 rest) (le_refl 16) in
    let made : value c.two_steps-sum.result ≡ (S ⊕ first_block rest) · (R · R) ⊕ first_block (drop 16 rest) · R =
    rw (first, second, c.product-r2.ensures) at c.two_steps-sum.ensures in
    let part : rest ≡ drop (length s - length rest) s = l.invariant.4 in
    let hA : first_block rest < 2 ^ 128 = rw part (block_below (drop (length s - length rest) s) (below_drop (length s - length rest) s (λ i. (c.type_inv.s i).fits))) in
    let factor_below : R < 2 ^ 128 = value_below c.args.r (search rules) (search rules) in
    let place : length s - length behind ≡ length s - length rest + 32 = omega arith in (
      steps.0 ∙ l.invariant.0,
      rw (made, left) (next-two R S rest factor_below (xor_below 128 l.invariant.2 hA) (omega arith)) ∙ l.invariant.1,
      value_below c.two_steps-sum.result (search rules) (search rules),
      omega arith,
      rw place (left ∙ ap (drop 32) part ∙ drop-drop 32 (length s - length rest) s),
      omega arith,
    )
