-- Block ciphers and block permutations.
use Rattle.std.specs.Prelude.{ℕ}
use Rattle.strings.specs.Cipher.{Permutation}
use Rattle.blocks.specs.Blocks.{IsBlock}

-- A block cipher under one key: E enciphers a block, D deciphers it.
pub record BlockCipher : Type 0 where
  pub E : ℕ → ℕ
  pub D : ℕ → ℕ

-- 01, "A block permutation is a function from blocks to blocks that has an inverse: each of the two undoes the other on every block".
abbrev pub BlockPermutation : BlockCipher → Type 0
BlockPermutation c = Permutation IsBlock c.E c.D
