-- A shift for each power but 0.
use mathlib.Core.Path.{◌≡◌, ap₂, ap, ◌∙◌}
use Prim.Native.Nat.{ℕ, ◌*◌, ◌%◌, ◌^◌, ◌<◌}
use borrow.Author.Rules.{rules}
use lib.Dec.{lit<}
use Rattle.strings.specs.Xor.{◌⊕◌}
use Rattle.blocks.specs.Inner.{value}
use Rattle.blocks.proofs.Halves.{value_below}
use Rattle.polynomials.proofs.Modulo.{spread_low}
use Rattle.polynomials.proofs.reduction.spread.Goals as goal

pub returns : goal.returns
returns c =
    let h = c.args.h in
    let v : ℕ = value h in
    let below : v < 2 ^ 128 = value_below h (search rules) (search rules) in
    let one : value c.shifted.result ≡ v * 2 ^ 1 % 2 ^ 128 = c.shifted.ensures in
    let two : value c.shifted-2.result ≡ v * 2 ^ 2 % 2 ^ 128 = c.shifted-2.ensures in
    let seven : value c.shifted-3.result ≡ v * 2 ^ 7 % 2 ^ 128 = c.shifted-3.ensures in
    c.xor-3.ensures ∙ ap₂ ◌⊕◌ (c.xor-2.ensures ∙ ap₂ ◌⊕◌ (c.xor.ensures ∙ ap (λ (x : ℕ). v ⊕ x) one) two) seven
    ∙ spread_low 128 v (lit< tt) below
