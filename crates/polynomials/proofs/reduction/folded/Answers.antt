-- Folded twice: what is spilt is spread in its turn.
use mathlib.Core.Path.{◌≡◌, ap, ap₂, ◌∙◌}
use Prim.Native.Nat.{ℕ, ◌+◌, ◌/◌, ◌%◌, ◌^◌, ◌<◌}
use native.Mathlib.Nat.{zero-add, le_of_lt}
use borrow.Author.Rules.{rules}
use lib.Dec.{lit<}
use Rattle.strings.specs.Xor.{◌⊕◌}
use Rattle.blocks.specs.Inner.{value}
use Rattle.polynomials.specs.Inner.{carryless}
use Rattle.blocks.proofs.Halves.{value_below}
use Rattle.polynomials.proofs.Modulo.{folded_twice}
use Rattle.polynomials.proofs.reduction.folded.Goals as goal

pub returns : goal.returns
unfolding value
returns c =
    let h = c.args.h in
    let v : ℕ = value h in
    let below : v < 2 ^ 128 = value_below h (search rules) (search rules) in
    let low : value c.spread.result ≡ carryless 128 v 0x87 % 2 ^ 128 = c.spread.ensures in
    let spilt : 0 + c.spilt.result ≡ carryless 128 v 0x87 / 2 ^ 128 =
    zero-add c.spilt.result ∙ c.spilt.ensures in
    let over : value c.spread-2.result ≡ carryless 128 (carryless 128 v 0x87 / 2 ^ 128) 0x87 % 2 ^ 128 =
    c.spread-2.ensures ∙ ap (λ (x : ℕ). carryless 128 x 0x87 % 2 ^ 128) spilt in
    c.xor.ensures ∙ ap₂ ◌⊕◌ low over ∙ folded_twice 128 0x87 (lit< tt) (lit< tt) 8 v (lit< tt) (le_of_lt (lit< tt)) below
