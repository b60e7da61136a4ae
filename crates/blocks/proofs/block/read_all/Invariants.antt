-- The blocks before place i are read.
use Rattle.std.proofs.Common.{◌≡◌, ℕ, ◌*◌, ◌<◌, length, slice_index_or, drop}
use Rattle.blocks.specs.Blocks.{first_block}
use Rattle.blocks.specs.Inner.{value}
use Rattle.blocks.specs.declared.block.Block.{Block}
use Rattle.blocks.proofs.block.read_all.Given as goal

abbrev pub invariant-loop-i : goal.invariant-loop-i
invariant-loop-i g l =
    (length l.all ≡ g.row.N) × (l.rest ≡ drop (16 * l.i) l.s)
    × ((j : ℕ) → (none : Block) → j < l.i → value (slice_index_or l.all j none) ≡ first_block (drop (16 * j) l.s))

abbrev pub invariant-loop-i-2 : goal.invariant-loop-i-2
invariant-loop-i-2 g l = (length l.all ≡ g.row.N) × ((j : ℕ) → (none : Block) → j < l.i → value (slice_index_or l.all j none) ≡ first_block (drop (16 * j) l.s))
