-- The sum of two products, reduced once.
use Rattle.std.proofs.Common.{◌≡◌, ℕ, ◌+◌, ◌*◌, ◌^◌, ◌<◌, drop, ap, ◌∙◌, lit<, rules}
use Rattle.strings.specs.Xor.{◌⊕◌}
use Rattle.blocks.specs.Blocks.{first_block}
use Rattle.blocks.specs.BlockField.{◌·◌}
use Rattle.blocks.specs.Inner.{value}
use Rattle.polynomials.specs.Inner.{carryless, reduction}
use Rattle.strings.proofs.Bytes.{below_drop}
use Rattle.blocks.proofs.Blocks.{block_below}
use Rattle.blocks.proofs.Halves.{value_below}
use Rattle.polynomials.proofs.Modulo.{two_reduced}
use Rattle.primitives.proofs.field.two_steps.Goals as goal

pub returns : goal.returns
returns c =
    let args = c.args in
    let s = args.s.now in
    let R : ℕ = value args.r in
    let R² : ℕ = value args.r2 in
    let first_below : value c.xor.result < 2 ^ 128 = value_below c.xor.result (search rules) (search rules) in
    let square_below : R² < 2 ^ 128 = value_below args.r2 (search rules) (search rules) in
    let factor_below : R < 2 ^ 128 = value_below args.r (search rules) (search rules) in
    let A : ℕ = value c.xor.result in
    let B : ℕ = first_block (drop 16 s) in
    let second_below : B < 2 ^ 128 = block_below (drop 16 s) (below_drop 16 s (λ i. (c.type_inv.s i).fits)) in
    let eA : A ≡ value args.sum ⊕ first_block s = c.xor.ensures ∙ ap (λ (x : ℕ). value args.sum ⊕ x) (c.read_all.ensures 0 _ (lit< tt)) in
    let w = c.two_products.result in
    let both : value w.high * 2 ^ 128 + value w.low ≡ carryless 128 A R² ⊕ carryless 128 B R =
    c.two_products.ensures ∙ ap (λ (x : ℕ). carryless 128 A R² ⊕ carryless 128 x R) (c.read_all.ensures 1 _ (lit< tt)) in
    c.reduced.ensures ∙ ap (reduction 128 0x87) both ∙ two_reduced 128 0x87 (lit< tt) (lit< tt) A R² B R first_below square_below second_below factor_below
    ∙ ap (λ (x : ℕ). x · R² ⊕ B · R) eA
