-- Word by word, from the last on.
use Rattle.blocks.proofs.BlockWords.{words_written}
use Rattle.blocks.proofs.block.put_words.Goals as goal

pub returns : goal.returns
returns c =
    let a = c.args in
    rw (c.put_word-4.ensures, c.put_word-3.ensures, c.put_word-2.ensures, c.put_word.ensures)
    (words_written a.at a.w a.out.now)
