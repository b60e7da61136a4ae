-- Demand 3, sentence by sentence. proofs/Demand3.antt has one value of the record, which cites the theorems of the crates below.
use Rattle.std.specs.Prelude.{ℕ, ◌^◌, ◌≤◌, ◌≡◌, List, leb, length}
use Rattle.strings.specs.Bytes.{Bytes, OfLength, bytes, equal}
use Rattle.strings.specs.Cipher.{TweakableCipher}
use Rattle.strings.specs.One.{ExactlyOne, count}
use Rattle.blocks.specs.Blocks.{IsBlock}
use Rattle.blocks.specs.BlockCipher.{BlockCipher, BlockPermutation}
use Rattle.blocks.specs.BlockField.{times_x, power_sum}
use Rattle.primitives.specs.Aes.{aes}
use Rattle.hch.specs.Hch.{encipher, decipher, enciphered, deciphered, hch}
use Rattle.pack.specs.Sealing.{seal}
use Rattle.pack.specs.Opening.{opens_to}
use Rattle.pack.specs.Theorems.{Pack}
use Rattle.claims.specs.Demand1.{IsKey}

pub record Demand3 : Type 0 where
  -- ---- First half: exactly one plain board enciphers to each board, and deciphering leaves it.
  -- For every block permutation in the place of AES and every tweak T: exactly one message of C's length, which is
  -- 16 bytes or more (01 admits up to 4,096), enciphers to C: the one that deciphering gives.
  pub any_permutation : (c : BlockCipher) → BlockPermutation c → (T : ℕ) → IsBlock T → (C : List ℕ) → Bytes C → 16 ≤ length C
      → ExactlyOne (OfLength (length C)) (λ P. equal (encipher c.E times_x power_sum T P) C) (decipher c.E c.D times_x power_sum T C)
  -- Counted over all messages of that length, there is 1.
  pub any_permutation_counted : (c : BlockCipher) → BlockPermutation c → (T : ℕ) → IsBlock T → (C : List ℕ) → Bytes C → 16 ≤ length C
      → count (λ v. equal (encipher c.E times_x power_sum T (bytes (length C) v)) C) (256 ^ length C) ≡ 1
  -- AES is a block permutation under every key.
  pub aes_permutation : (key : List ℕ) → BlockPermutation (aes key)
  -- So for HCH with AES, under every key and every tweak of 16 bytes: exactly one message, the one that deciphering gives.
  pub one_message : (key tweak C : List ℕ) → OfLength 16 tweak → Bytes C → 16 ≤ length C
      → ExactlyOne (OfLength (length C)) (λ P. equal (enciphered key tweak P) C) (deciphered key tweak C)
  -- Counted, there is 1.
  pub one_message_counted : (key tweak C : List ℕ) → OfLength 16 tweak → Bytes C → 16 ≤ length C
      → count (λ v. equal (enciphered key tweak (bytes (length C) v)) C) (256 ^ length C) ≡ 1
  -- ---- Second half: exactly one 512-byte block opens to each payload, pack and place, the one that sealing writes.
  -- HCH is a tweakable cipher of 512 bytes, which the pack's theorem asks of a scheme and its key.
  pub hch_tweakable : (key : List ℕ) → TweakableCipher 16 512 (hch.encipher key) (hch.decipher key)
  -- So that theorem holds for HCH: what was sealed opens to its payload, no other block does, and numbers 8 and 12 have their meaning, which Point4.antt spells out.
  pub hch_pack : (key : List ℕ) → IsKey key → Pack hch key
  -- Exactly one block of 512 bytes opens to the payload, pack and place, under this key, and it is the one that sealing writes. (A pack number of more
  -- than 64 bits is cut where it stands in the block.)
  pub one_block : (key payload : List ℕ) (pack place : ℕ) → IsKey key → Bytes payload → length payload ≤ 496 → place ≤ 65535
      → ExactlyOne (OfLength 512) (opens_to hch key payload pack place) (seal hch key payload pack place)
  -- Counted over all blocks of 512 bytes, there is 1.
  pub one_block_counted : (key payload : List ℕ) (pack place : ℕ) → IsKey key → Bytes payload → length payload ≤ 496 → place ≤ 65535
      → count (λ v. opens_to hch key payload pack place (bytes 512 v)) (256 ^ 512) ≡ 1
  -- ---- What a count is: three of the ten numbers below 10 are 7 or more.
  pub three_of_ten : count (λ v. leb 7 v) 10 ≡ 3
