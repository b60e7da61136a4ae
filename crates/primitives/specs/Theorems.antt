-- The theorems of this crate, each by name. One value of this record, proofs/Theorems.antt, proves them all.
use Rattle.std.specs.Prelude.{◌≡◌, ℕ, ◌^◌, ◌<◌, true, List}
use Rattle.strings.specs.Cipher.{Permutation}
use Rattle.blocks.specs.Blocks.{IsBlock}
use Rattle.blocks.specs.BlockCipher.{BlockPermutation}
use Rattle.blocks.specs.Field.{product}
use Rattle.polynomials.specs.Inner.{carryless, reduction}
use Rattle.primitives.specs.Aes.{Byte, ◌•◌, inverse, s_box, inv_s_box, State, sub_bytes, inv_sub_bytes, shift_rows, inv_shift_rows, mix_columns, inv_mix_columns, add_round_key, cipher, inv_cipher, encipher, decipher, is_key, aes}
use Rattle.primitives.specs.Expanded.{expanded_key, under}
use Rattle.primitives.specs.declared.aes.ExpandedKey.{ExpandedKey}

pub record Theorems : Type 0 where
  -- The product is the reduction of the carry-less one, for every width and polynomial: the code goes by this.
  pub product_reduced : (k p : ℕ) → 0 < k → p < 2 ^ k → (a b : ℕ) → a < 2 ^ k → b < 2 ^ k → product k p a b ≡ reduction k p (carryless k a b)
  -- The bytes of AES have inverses: with its ring of bytes, they are a field.
  pub inverse_of_byte : (a : ℕ) → 0 < a → Byte a → a • inverse a ≡ 1
  pub inverse_of_zero : inverse 0 ≡ 0
  -- FIPS 197: the S-box and the steps of a round are permutations, each with its inverse.
  pub sbox_permutation : Permutation Byte s_box inv_s_box
  pub sub_bytes_lem : Permutation State sub_bytes inv_sub_bytes
  pub shift_rows_lem : Permutation State shift_rows inv_shift_rows
  pub mix_columns_lem : Permutation State mix_columns inv_mix_columns
  pub add_round_key_lem : (k : List ℕ) → State k → Permutation State (add_round_key k) (add_round_key k)
  -- So is the cipher, with any round keys and any number of rounds, and AES under every key.
  pub cipher_permutation : (round_keys : ℕ → List ℕ) → ((i : ℕ) → State (round_keys i)) → (Nr : ℕ)
      → Permutation State (cipher round_keys Nr) (inv_cipher round_keys Nr)
  pub words_permutation : (Nr : ℕ) (w : List ℕ) → Permutation IsBlock (encipher Nr w) (decipher Nr w)
  pub aes_permutation : (key : List ℕ) → BlockPermutation (aes key)
  -- So is what an expanded key stands for, whatever is in it; and what is made of a key of either length stands for AES under that key.
  pub under_permutation : (expanded : ExpandedKey) → BlockPermutation (under expanded)
  pub expanded_aes : (key : List ℕ) → is_key key ≡ true → under (expanded_key key) ≡ aes key
