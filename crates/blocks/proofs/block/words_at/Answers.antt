-- Word by word.
use Rattle.blocks.proofs.BlockWords.{words_read}
use Rattle.blocks.proofs.block.words_at.Goals as goal

pub returns : goal.returns
returns c =
    let a = c.args in
    rw (c.word_at.ensures, c.word_at-2.ensures, c.word_at-3.ensures, c.word_at-4.ensures)
    (words_read a.at a.s.now (λ i. (c.shared_slice_known-1.given i).fits))
