-- The words of the block, through the cipher, as a block again.
use Rattle.blocks.specs.Inner.{value}
use Rattle.primitives.specs.Aes.{inv_cipher, round_key, decipher}
use Rattle.primitives.specs.Expanded.{rounds_done}
use Rattle.primitives.proofs.Mixing.{through_columns}
use Rattle.primitives.proofs.aes.ExpandedKey.decipher.Goals as goal

pub returns : goal.returns
unfolding decipher
returns c =
    let a = c.args in
    through_columns (inv_cipher (round_key a.self.words) (rounds_done a.self.rounds)) (value a.block) (value c.from_words.result) c.to_words.result c.inv_cipher.result
    c.to_words.ensures c.inv_cipher.ensures c.from_words.ensures
