-- What is done and what is left to do make the whole: one block goes from the one to the other at each turn.
use Rattle.std.proofs.Common.{◌≡◌, ℕ, ◌+◌, ◌*◌, ◌++◌, length, take, drop}
use Rattle.strings.specs.Xor.{◌⊕◌}
use Rattle.blocks.specs.Blocks.{bin}
use Rattle.blocks.specs.Counter.{masked_bytes}
use Rattle.primitives.specs.Expanded.{under}
use Rattle.blocks.specs.Inner.{value}
use Rattle.primitives.proofs.aes.ExpandedKey.counter.Given as goal

abbrev pub invariant-loop-i : goal.invariant-loop-i
invariant-loop-i l =
    let mask : ℕ → ℕ = λ i. (under l.self).E (value l.s ⊕ bin i) in
    (take (16 * l.i) l.message ++ masked_bytes mask (l.i + 1) (drop (16 * l.i) l.message) ≡ masked_bytes mask 1 l.initial.message) × (length l.message ≡ length l.initial.message)
