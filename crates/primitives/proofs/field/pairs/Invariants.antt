-- Two blocks at once: what Horner's rule makes of the sum so far and of the chunks that are left is what it makes of all blocks.
use Rattle.std.proofs.Common.{◌≡◌, ◌≤◌, ◌-◌, ◌%◌, ◌^◌, ◌<◌, length, drop}
use Rattle.std.specs.Slice.Iter.{chunks_exact_rest, chunks_exact_size}
use Rattle.blocks.specs.Blocks.{blocks}
use Rattle.blocks.specs.BlockField.{◌·◌}
use Rattle.blocks.specs.Inner.{horner, value}
use Rattle.primitives.proofs.field.pairs.Given as goal

abbrev pub invariant-loop-pair : goal.invariant-loop-pair
invariant-loop-pair l =
    let rest = chunks_exact_rest l.pair-iterator in
    (chunks_exact_size l.pair-iterator ≡ 32) × (horner ◌·◌ (value l.r) (value l.sum) (blocks rest) ≡ horner ◌·◌ (value l.r) 0 (blocks l.s))
    × (value l.sum < 2 ^ 128) × (length rest ≤ length l.s) × (rest ≡ drop (length l.s - length rest) l.s) × (length rest % 32 ≡ length l.s % 32)
