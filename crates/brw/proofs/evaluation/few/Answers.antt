-- The clauses of none to three blocks: a string that is read where it ends has a block of zeros there.
use mathlib.Core.Path.{◌≡◌, ap, ◌∙◌}
use Rattle.std.proofs.Common.{ap₂, lit<}
use lib.ListN.{drop}
use Rattle.strings.specs.Xor.{◌⊕◌}
use Rattle.blocks.specs.Blocks.{first_block}
use Rattle.blocks.specs.BlockField.{◌·◌}
use Rattle.blocks.specs.Inner.{value}
use Rattle.brw.specs.Inner.{power_at}
use Rattle.brw.proofs.Few.{up_to_one, two, three}
use Rattle.brw.proofs.evaluation.few.Goals as goal

pub returns-then-s-le16 : goal.returns-then-s-le16
returns-then-s-le16 c =
    let e = up_to_one c.args.powers.now c.args.s.now c.if-s-le16.true in
    record {
      value_value = ap value c.of.ensures.value_value ∙ c.read_all.ensures 0 _ (lit< tt) ∙ e.0;
      products_value = c.of.ensures.products_value ∙ e.1;
    }

pub returns-then-s-le32 : goal.returns-then-s-le32
returns-then-s-le32 c =
    let words = c.args.powers.now in
    let s = c.args.s.now in
    let x1 : value c.of-then-s-le32.result.value ≡ first_block s = ap value c.of-then-s-le32.ensures.value_value ∙ c.read_all.ensures 0 _ (lit< tt) in
    let x2 : value c.of-then-s-le32-2.result.value ≡ first_block (drop 16 s) = ap value c.of-then-s-le32-2.ensures.value_value ∙ c.read_all.ensures 1 _ (lit< tt) in
    let made : value c.plus.result.value ≡ first_block s · power_at words 0 ⊕ first_block (drop 16 s) =
    c.plus.ensures.value_value ∙ simp (c.times.ensures.value_value, x1, x2, c.power-t.ensures) in
    let count : c.plus.result.products ≡ 1 = c.plus.ensures.products_value ∙ simp (c.times.ensures.products_value, c.of-then-s-le32.ensures.products_value, c.of-then-s-le32-2.ensures.products_value) in
    let e = two words s c.if-s-le16.false c.if-s-le32.true in
    record { value_value = made ∙ e.0; products_value = count ∙ e.1 }

pub returns : goal.returns
returns c =
    let words = c.args.powers.now in
    let s = c.args.s.now in
    let x3 : value c.of-3.result.value ≡ first_block (drop 32 s) = ap value c.of-3.ensures.value_value ∙ c.read_all.ensures 2 _ (lit< tt) in
    let left : value c.of-2.result.value ≡ power_at words 0 ⊕ first_block s =
    ap value c.of-2.ensures.value_value ∙ c.xor.ensures ∙ ap₂ ◌⊕◌ c.power-t.ensures (c.read_all.ensures 0 _ (lit< tt)) in
    let right : value c.xor-2.result ≡ power_at words 1 ⊕ first_block (drop 16 s) = c.xor-2.ensures ∙ ap₂ ◌⊕◌ c.power-t2.ensures (c.read_all.ensures 1 _ (lit< tt)) in
    let made : value c.plus-2.result.value ≡ (power_at words 0 ⊕ first_block s) · (power_at words 1 ⊕ first_block (drop 16 s)) ⊕ first_block (drop 32 s) =
    c.plus-2.ensures.value_value ∙ simp (c.times-2.ensures.value_value, left, right, x3) in
    let count : c.plus-2.result.products ≡ 1 = c.plus-2.ensures.products_value ∙ simp (c.times-2.ensures.products_value, c.of-2.ensures.products_value, c.of-3.ensures.products_value) in
    let e = three words s c.if-s-le32.false c.requires in
    record { value_value = made ∙ e.0; products_value = count ∙ e.1 }
