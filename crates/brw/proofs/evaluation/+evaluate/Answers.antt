-- The clause of more blocks, on the parts where they stand.
use Prim.Native.Nat.{ℕ, ◌-◌, ◌^◌, ◌<◌}
use mathlib.Core.Path.{◌≡◌, ◌∙◌}
use mathlib.Core.List.{List}
use native.Mathlib.Nat.{sub-zero}
use native.Mathlib.Omega.{arith}
use Rattle.std.proofs.Common.{ap, ap₂, lit<}
use lib.ListN.{length, take, drop}
use lib.Seq.{length-take-le}
use borrow.Author.Rules.{rules}
use Rattle.strings.specs.Xor.{◌⊕◌}
use Rattle.strings.proofs.Place.{part_behind}
use Rattle.blocks.specs.Blocks.{first_block, blocks}
use Rattle.blocks.specs.BlockField.{◌·◌}
use Rattle.blocks.specs.Inner.{value}
use Rattle.brw.specs.Brw.{products}
use Rattle.brw.specs.Inner.{power_at, lent_polynomial}
use Rattle.brw.proofs.Split.{shorter_parts, split-value, split-count, count_fits}
use Rattle.brw.proofs.evaluation.+evaluate.Goals as goal

first_part : (at : ℕ) (s : List ℕ) → take (at - 0) s ≡ take at s
first_part at s = rw sub-zero

pub slice_bounds-evaluate-end : goal.slice_bounds-evaluate-end
slice_bounds-evaluate-end t c = (shorter_parts c.args.s.now c.split_at-split.result c.if-s-le48.false c.split_at-split.ensures).kth_within

pub evaluate-before-requires : goal.evaluate-before-requires
evaluate-before-requires t c =
    let s = c.args.s.now in
    let f = shorter_parts s c.split_at-split.result c.if-s-le48.false c.split_at-split.ensures in
    (rw (first_part c.split_at-split.result.at s, length-take-le c.split_at-split.result.at s f.kth_within, ← c.decreases) f.before_shorter, tt)

pub times-requires : goal.times-requires
times-requires t c =
    let s = c.args.s.now in
    let split = c.split_at-split.result in
    let before : c.evaluate-before.result.products ≡ products (length (blocks (take split.at s))) =
    rw (first_part split.at s) at c.evaluate-before.ensures.products_value in
    let whole = split-count s split c.if-s-le48.false c.split_at-split.ensures in
    let fits : products (length (blocks s)) < 2 ^ 64 = count_fits s (search rules) in
    omega (arith, before, whole, fits)

pub plus-requires : goal.plus-requires
plus-requires t c =
    let s = c.args.s.now in
    let split = c.split_at-split.result in
    let before : c.evaluate-before.result.products ≡ products (length (blocks (take split.at s))) =
    rw (first_part split.at s) at c.evaluate-before.ensures.products_value in
    let behind : c.evaluate-behind.result.products ≡ products (length (blocks (drop split.end s))) =
    rw (part_behind split.end s) at c.evaluate-behind.ensures.products_value in
    let whole = split-count s split c.if-s-le48.false c.split_at-split.ensures in
    let fits : products (length (blocks s)) < 2 ^ 64 = count_fits s (search rules) in
    omega (arith, c.times.ensures.products_value, before, behind, whole, fits)

pub returns-clause-value_value : goal.returns-clause-value_value
returns-clause-value_value t c =
    let words = c.args.powers.now in
    let s = c.args.s.now in
    let split = c.split_at-split.result in
    let at = split.at in
    let end = split.end in
    let before : value c.evaluate-before.result.value ≡ lent_polynomial words (blocks (take at s)) =
    rw (first_part at s) at c.evaluate-before.ensures.value_value in
    let behind : value c.evaluate-behind.result.value ≡ lent_polynomial words (blocks (drop end s)) =
    rw (part_behind end s) at c.evaluate-behind.ensures.value_value in
    let kth : value c.xor.result ≡ power_at words split.exponent ⊕ first_block (drop at s) =
    c.xor.ensures ∙ ap₂ ◌⊕◌ c.power.ensures (c.read_all.ensures 0 _ (lit< tt) ∙ ap first_block (part_behind at s)) in
    let made : value c.plus.result.value
    ≡ lent_polynomial words (blocks (take at s)) · (power_at words split.exponent ⊕ first_block (drop at s)) ⊕ lent_polynomial words (blocks (drop end s)) =
    c.plus.ensures.value_value ∙ simp (c.times.ensures.value_value, before, kth, behind) in
    made ∙ split-value words s split c.if-s-le48.false c.split_at-split.ensures

pub returns-clause-products_value : goal.returns-clause-products_value
returns-clause-products_value t c =
    let s = c.args.s.now in
    let split = c.split_at-split.result in
    let before : c.evaluate-before.result.products ≡ products (length (blocks (take split.at s))) =
    rw (first_part split.at s) at c.evaluate-before.ensures.products_value in
    let behind : c.evaluate-behind.result.products ≡ products (length (blocks (drop split.end s))) =
    rw (part_behind split.end s) at c.evaluate-behind.ensures.products_value in
    let whole = split-count s split c.if-s-le48.false c.split_at-split.ensures in
    omega (arith, c.plus.ensures.products_value, c.times.ensures.products_value, before, behind, whole)
