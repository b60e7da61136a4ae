-- Each half cut in two.
use borrow.Author.Rules.{rules}
use Rattle.blocks.specs.Inner.{value}
use Rattle.blocks.proofs.BlockWords.{words_of}
use Rattle.blocks.proofs.block.Block.to_words.Goals as goal

pub returns : goal.returns
unfolding value
returns c =
    let a = c.args in
    words_of a.self.hi a.self.lo (search rules)
