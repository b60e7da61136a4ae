-- Karatsuba's rule for halves of 64 digits, of which each was made by it for words.
use mathlib.Core.Path.{◌≡◌, ap, ap₂, ◌∙◌}
use Prim.Native.Nat.{ℕ, ◌^◌, ◌<◌}
use lib.ListN.{get_or}
use Rattle.strings.specs.Xor.{◌⊕◌}
use Rattle.blocks.specs.Inner.{value}
use Rattle.polynomials.specs.Inner.{karatsuba, wide_of}
use Rattle.polynomials.proofs.Karatsuba.{rule_by_halves}
use borrow.Author.Rules.{rules}
use Rattle.polynomials.proofs.unreduced.assembled.Goals as goal

pub returns : goal.returns
unfolding value ◌⊕◌ wide_of
returns c =
    let h₀ : c.joined-high.result.lo < 2 ^ 64 = search rules in
    let l₀ : c.joined-low.result.lo < 2 ^ 64 = search rules in
    let m₁ : c.xor-middle.result.hi < 2 ^ 64 = search rules in
    let m₀ : c.xor-middle.result.lo < 2 ^ 64 = search rules in
    let z = c.args.z in
    let n : ℕ = c.args.ninth in
    let l = c.joined-low.result in
    let h = c.joined-high.result in
    let s = c.joined.result in
    let m = c.xor-middle.result in
    let low : value l ≡ karatsuba 32 (get_or z 0 0) (get_or z 1 0) (get_or z 6 0) = c.joined-low.ensures in
    let high : value h ≡ karatsuba 32 (get_or z 2 0) (get_or z 3 0) (get_or z 7 0) = c.joined-high.ensures in
    let both : value s ≡ karatsuba 32 (get_or z 4 0) (get_or z 5 0) n = c.joined.ensures in
    let middle : value m ≡ value s ⊕ value l ⊕ value h = c.xor-middle.ensures ∙ ap (λ (x : ℕ). x ⊕ value h) c.xor.ensures in
    rule_by_halves 64 h.hi h.lo l.hi l.lo m.hi m.lo (value s) h₀ l₀ m₁ m₀ middle
    ∙ ap₂ (λ (x y : ℕ). karatsuba 64 x y (value s)) low high
    ∙ ap (karatsuba 64 (karatsuba 32 (get_or z 0 0) (get_or z 1 0) (get_or z 6 0)) (karatsuba 32 (get_or z 2 0) (get_or z 3 0) (get_or z 7 0))) both
