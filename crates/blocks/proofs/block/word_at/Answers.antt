-- Its bytes are those of the string.
use Rattle.std.proofs.Common.{◌∙◌}
use Rattle.blocks.proofs.BlockWords.{word_there}
use Rattle.blocks.proofs.block.word_at.Goals as goal

pub returns : goal.returns
returns c = c.from_be_bytes.ensures ∙ word_there c.args.at c.args.s.now
