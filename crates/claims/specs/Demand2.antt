-- Demand 2, for keys of both lengths: here stands which definitions the bytes follow. That these are those of the paper and of FIPS 197, a reader sees beside
-- them. proofs/Demand2.antt has one value of the record.
use Rattle.std.specs.Prelude.{ℕ, ◌≡◌, List, length}
use Rattle.strings.specs.Bytes.{number, bytes}
use Rattle.blocks.specs.BlockField.{times_x, power_sum}
use Rattle.primitives.specs.Aes.{cipher, inv_cipher, round_key, key_expansion, aes}
use Rattle.hch.specs.Hch.{encipher, decipher, enciphered, deciphered}

pub record Demand2 : Type 0 where
  -- ---- HCH as published: Table II line by line, with AES under the key for E and D, both ways.
  pub enciphered_by_aes : (key tweak P : List ℕ) → enciphered key tweak P ≡ encipher (aes key).E times_x power_sum (number tweak) P
  pub deciphered_by_aes : (key tweak C : List ℕ) → deciphered key tweak C ≡ decipher (aes key).E (aes key).D times_x power_sum (number tweak) C
  -- ---- AES of FIPS 197.
  -- Under a key of 16 bytes, Cipher and InvCipher with 10 rounds and the words of KeyExpansion for Nk = 4.
  pub aes_128 : (key : List ℕ) → length key ≡ 16 → (b : ℕ)
      → ((aes key).E b ≡ number (cipher (round_key (key_expansion 4 key)) 10 (bytes 16 b)))
      × ((aes key).D b ≡ number (inv_cipher (round_key (key_expansion 4 key)) 10 (bytes 16 b)))
  -- Under a key of 32 bytes, with 14 rounds and Nk = 8.
  pub aes_256 : (key : List ℕ) → length key ≡ 32 → (b : ℕ)
      → ((aes key).E b ≡ number (cipher (round_key (key_expansion 8 key)) 14 (bytes 16 b)))
      × ((aes key).D b ≡ number (inv_cipher (round_key (key_expansion 8 key)) 14 (bytes 16 b)))
