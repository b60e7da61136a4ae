-- The high half, folded, is its product with x ^ 128.
use mathlib.Core.Path.{◌≡◌, sym, ap, ◌∙◌}
use Prim.Native.Nat.{ℕ}
use Rattle.strings.specs.Xor.{◌⊕◌}
use Rattle.blocks.specs.BlockField.{◌·◌}
use Rattle.blocks.specs.Inner.{value}
use Rattle.blocks.proofs.Halves.{value_below}
use Rattle.polynomials.proofs.Modulo.{reduced_halves}
use borrow.Author.Rules.{rules}
use Rattle.polynomials.proofs.reduction.reduced.Goals as goal

pub returns : goal.returns
returns c =
    let w = c.args.c in
    let high : value c.folded.result ≡ value w.high · 0x87 = c.folded.ensures in
    c.xor.ensures ∙ ap (λ (x : ℕ). value w.low ⊕ x) high
    ∙ sym (reduced_halves 128 0x87 (value w.high) (value w.low) (value_below w.low (search rules) (search rules)))
