-- A number of one word is added in the low half.
use Prim.Native.Nat.{ℕ, ◌≤◌, ◌^◌, ◌<◌, ◌%◌}
use mathlib.Core.Path.{◌≡◌, ◌∙◌}
use native.Mathlib.Nat.{mod-eq_of_lt, lt_of_lt_of_le, pow-le-pow_right}
use borrow.Author.Rules.{rules}
use lib.Dec.{lit<, lit≤}
use Rattle.strings.specs.Xor.{◌⊕◌}
use Rattle.blocks.specs.Blocks.{bin}
use Rattle.blocks.specs.Inner.{value}
use Rattle.strings.proofs.Xor.{xor_comm}
use Rattle.blocks.proofs.Halves.{halves_reduced}
use Rattle.blocks.proofs.block.Block.xor_bin.Goals as goal

word_bin : (n : ℕ) → n < 2 ^ 64 → n % 2 ^ 128 ≡ n
word_bin n h =
    let le : 2 ^ 64 ≤ 2 ^ 128 = pow-le-pow_right {n = 2} (lit< tt) (lit≤ {m = 64} {n = 128} tt) in
    mod-eq_of_lt (lt_of_lt_of_le h le)

pub returns : goal.returns
unfolding value bin ◌⊕◌
returns c =
    let a = c.args.self in
    let n = c.args.n in
    let hn : n < 2 ^ 64 = c.ranges.n.fits in
    rw (word_bin n hn) (halves_reduced 64 a.hi a.lo n (search rules) hn ∙ xor_comm n (value a))
