-- The halves are summed apart.
use mathlib.Core.Path.{sym}
use borrow.Author.Rules.{rules}
use Rattle.strings.specs.Xor.{◌⊕◌}
use Rattle.blocks.specs.Inner.{value}
use Rattle.strings.proofs.Xor.{xor_parts}
use Rattle.blocks.proofs.block.Block.xor.Goals as goal

pub returns : goal.returns
unfolding value ◌⊕◌
returns c =
    let a = c.args in
    sym (xor_parts 64 a.self.hi a.other.hi a.self.lo a.other.lo (search rules) (search rules))
