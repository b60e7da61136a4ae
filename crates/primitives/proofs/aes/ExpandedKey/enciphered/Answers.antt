-- The words of the block, through the cipher, as a block again.
use Rattle.blocks.specs.Inner.{value}
use Rattle.primitives.specs.Aes.{cipher, round_key, encipher}
use Rattle.primitives.specs.Expanded.{rounds_done}
use Rattle.primitives.proofs.Mixing.{through_columns}
use Rattle.primitives.proofs.aes.ExpandedKey.enciphered.Goals as goal

pub returns : goal.returns
unfolding encipher
returns c =
    let a = c.args in
    through_columns (cipher (round_key a.self.now.words) (rounds_done a.self.now.rounds)) (value a.block) (value c.from_words.result) c.to_words.result c.cipher.result
    c.to_words.ensures c.cipher.ensures c.from_words.ensures
