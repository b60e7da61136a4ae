-- What each shift puts above the block.
use mathlib.Core.Path.{◌≡◌, refl, ap₂, ◌∙◌}
use Prim.Native.Nat.{ℕ, ◌+◌, ◌*◌, ◌/◌, ◌^◌, ◌<◌}
use borrow.Author.Rules.{rules}
use lib.Dec.{lit<}
use Rattle.strings.specs.Xor.{◌⊕◌}
use Rattle.blocks.specs.Inner.{value}
use Rattle.blocks.proofs.Halves.{value_below, halves_spilt}
use Rattle.polynomials.proofs.Modulo.{spread_high}
use Rattle.polynomials.proofs.reduction.spilt.Goals as goal

pub returns : goal.returns
unfolding value ◌⊕◌
returns c =
    let h = c.args.h in
    let v : ℕ = value h in
    let below : v < 2 ^ 128 = value_below h (search rules) (search rules) in
    let out : (i j : ℕ) → j + i ≡ 64 → h.hi / 2 ^ j ≡ v * 2 ^ i / 2 ^ 128 = λ i j e. halves_spilt i j 64 h.hi e (search rules) in
    ap₂ ◌⊕◌ (ap₂ ◌⊕◌ (out 1 63 refl) (out 2 62 refl)) (out 7 57 refl) ∙ spread_high 128 v (lit< tt) below
