-- Entry by entry: byte j of its word.
use mathlib.Core.Path.{◌∙◌}
use Rattle.strings.proofs.Filled.{all_filled}
use Rattle.blocks.proofs.BlockWords.{bytes_of_words}
use Rattle.blocks.proofs.words.to_bytes.Goals as goal

pub returns : goal.returns
returns c = all_filled c.loop-i.invariant c.loop-i-test.false ∙ bytes_of_words c.args.w
