-- A whole block by its words, and else as it is read and written.
use mathlib.Core.Path.{◌≡◌, sym, ap, ◌∙◌}
use lib.ListN.{drop}
use Rattle.strings.specs.Bytes.{number}
use Rattle.blocks.specs.Blocks.{first_block}
use Rattle.blocks.specs.Inner.{value}
use Rattle.blocks.proofs.Blocks.{block_padded}
use Rattle.blocks.proofs.block.Block.add_to.Goals as goal

pub returns-then-whole : goal.returns-then-whole
returns-then-whole c =
    let a = c.args in
    let first : value c.from_words-there.result ≡ first_block (drop a.at a.out.now) =
    c.from_words-there.ensures ∙ ap number c.words_at.ensures ∙ sym (block_padded (drop a.at a.out.now)) in
    rw (c.put_words.ensures, c.to_words.ensures, c.xor.ensures, first)
