-- The blocks behind the pairs, one by one: what Horner's rule makes of the sum so far and of the chunks that are left is what it makes of all blocks.
use Rattle.std.proofs.Common.{◌≡◌}
use Rattle.std.specs.Slice.Iter.{chunks_rest, chunks_size}
use Rattle.blocks.specs.Blocks.{blocks}
use Rattle.blocks.specs.BlockField.{◌·◌}
use Rattle.blocks.specs.Inner.{horner, value}
use Rattle.primitives.proofs.field.power_sum.Given as goal

abbrev pub invariant-loop-block : goal.invariant-loop-block
invariant-loop-block l = (chunks_size l.block-iterator ≡ 16) × (horner ◌·◌ (value l.r) (value l.sum) (blocks (chunks_rest l.block-iterator)) ≡ horner ◌·◌ (value l.r) 0 (blocks l.s))
