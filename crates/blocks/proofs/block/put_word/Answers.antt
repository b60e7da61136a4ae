-- Byte by byte.
use Rattle.blocks.proofs.BlockWords.{word_written}
use Rattle.blocks.proofs.block.put_word.Goals as goal

pub returns : goal.returns
returns c =
    let a = c.args in
    word_written a.at a.w a.out.now c.to_be_bytes.result c.to_be_bytes.ensures
