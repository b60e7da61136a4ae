-- The worked examples of FIPS 197 hold of the definitions, by computation.
-- Assumes nothing.
use mathlib.Core.Path.{refl}
use Rattle.strings.specs.Xor.{◌⊕◌}
use Rattle.strings.specs.Bytes.{number, bytes}
use Rattle.blocks.specs.Field.{times01, times_x, product_n, product, power}
use Rattle.primitives.specs.Aes.{squares, inverse, bit, of_bits, affine, s_box, at, state, sub_bytes, shift_rows, mixed, mix_columns, add_round_key, rounds, cipher, word, byte_of, rot_word, sub_word, rcon, temp, own_word, key_word, key_words, key_expansion, round_key, encipher, aes}
use Rattle.claims.specs.Fips197.{Fips197}

pub fips_197 : Fips197
unfolding ◌⊕◌ number bytes times01 times_x product_n product power squares inverse bit of_bits affine s_box at state sub_bytes shift_rows mixed mix_columns add_round_key rounds cipher word byte_of rot_word sub_word rcon temp own_word key_word key_words key_expansion round_key encipher aes
fips_197 = record { last_round_key = refl; last_round_key_256 = refl; cipher_example = refl; cipher_example_256 = refl }
