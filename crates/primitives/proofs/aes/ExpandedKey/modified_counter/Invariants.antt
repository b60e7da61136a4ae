-- What is done and what is left to do make the whole: one block goes from the one to the other at each turn.
use Rattle.std.proofs.Common.{◌≡◌, ℕ, ◌*◌, ◌++◌, length, take, drop}
use Rattle.strings.specs.Xor.{◌⊕◌}
use Rattle.blocks.specs.BlockField.{times_x}
use Rattle.blocks.specs.Counter.{masked_bytes, φ}
use Rattle.primitives.specs.Expanded.{under}
use Rattle.blocks.specs.Inner.{value}
use Rattle.primitives.proofs.aes.ExpandedKey.modified_counter.Given as goal

abbrev pub invariant-loop-i : goal.invariant-loop-i
invariant-loop-i l =
    let mask : ℕ → ℕ = λ i. (under l.self).E (φ times_x (value l.initial.phi) i ⊕ value l.s) in
    (take (16 * l.i) l.message ++ masked_bytes mask l.i (drop (16 * l.i) l.message) ≡ masked_bytes mask 0 l.initial.message)
    × (value l.phi ≡ φ times_x (value l.initial.phi) l.i) × (length l.message ≡ length l.initial.message)
