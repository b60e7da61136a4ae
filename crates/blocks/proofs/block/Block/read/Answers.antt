-- A whole block by its words, and else the two halves.
use mathlib.Core.Path.{sym, ap, ◌∙◌}
use lib.ListN.{drop}
use Rattle.strings.specs.Bytes.{number}
use Rattle.blocks.specs.Inner.{value}
use Rattle.blocks.proofs.Blocks.{block_padded, join_halves}
use Rattle.blocks.proofs.block.Block.read.Goals as goal

pub returns-then-whole : goal.returns-then-whole
returns-then-whole c =
    let a = c.args in
    c.from_words.ensures ∙ ap number c.words_at.ensures ∙ sym (block_padded (drop a.at a.s.now))

pub returns : goal.returns
unfolding value
returns c =
    let a = c.args in
    rw (c.get.ensures, c.get-2.ensures) (join_halves a.at a.s.now (λ i. (c.shared_slice_known-1.given i).fits))
