-- Word by word, from its four bytes.
use mathlib.Core.Path.{ap, ◌∙◌}
use mir.Syntax.{w8}
use Rattle.blocks.specs.Inner.{of_words}
use Rattle.strings.proofs.Filled.{all_filled}
use Rattle.strings.proofs.Arrays.{elements}
use Rattle.blocks.proofs.BlockWords.{words_of_bytes}
use borrow.Author.Rules.{rules}
use Rattle.blocks.proofs.words.from_bytes.Goals as goal

pub returns : goal.returns
returns c =
    let s = c.args.s in
    ap of_words (all_filled c.loop-c.invariant c.loop-c-test.false)
    ∙ words_of_bytes s (search rules, elements w8 16 s _ c.well_formed.0)
