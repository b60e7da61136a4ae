-- Every theorem of specs/Theorems.antt, from the laws beside this file.
-- Assumes nothing.
use Rattle.primitives.specs.Expanded.{rounds_done}
use Rattle.primitives.specs.Theorems.{Theorems}
use Rattle.polynomials.proofs.Modulo.{product_reduced}
use Rattle.primitives.proofs.Inverse.{inverse_zero, inverse-product}
use Rattle.primitives.proofs.Substitution.{sbox_permutation}
use Rattle.primitives.proofs.Rounds as Rounds
use Rattle.primitives.proofs.Expanded.{expanded_aes}

pub theorems : Theorems
theorems = record {
  product_reduced = product_reduced;
  inverse_of_byte = inverse-product;
  inverse_of_zero = inverse_zero;
  sbox_permutation = sbox_permutation;
  sub_bytes_lem = Rounds.sub_bytes_lem sbox_permutation;
  shift_rows_lem = Rounds.shift_rows_lem;
  mix_columns_lem = Rounds.mix_columns_lem;
  add_round_key_lem = Rounds.add_round_key_lem;
  cipher_permutation = Rounds.cipher_permutation sbox_permutation;
  words_permutation = Rounds.block_permutation sbox_permutation;
  aes_permutation = Rounds.aes_permutation sbox_permutation;
  under_permutation = λ expanded. Rounds.block_permutation sbox_permutation (rounds_done expanded.rounds) expanded.words;
  expanded_aes = expanded_aes;
}
