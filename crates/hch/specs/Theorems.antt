-- The theorems of this crate, each by name. One value of this record, proofs/Theorems.antt, proves them all.
use Rattle.std.specs.Prelude.{ℕ, ◌≤◌, ◌≡◌, true, cond, Err, List, [], length}
use Rattle.strings.specs.Xor.{◌⊕◌}
use Rattle.strings.specs.Bytes.{OfLength, number, bytes}
use Rattle.blocks.specs.BlockField.{times_x, power_sum}
use Rattle.strings.specs.One.{OnePreimage}
use Rattle.strings.specs.Cipher.{Cipher, Same}
use Rattle.blocks.specs.Blocks.{IsBlock}
use Rattle.blocks.specs.BlockCipher.{BlockCipher, BlockPermutation}
use Rattle.primitives.specs.Expanded.{expanded_key}
use Rattle.hch.specs.Hch.{length_block, Parts, encipher, decipher, enciphered, deciphered, hch}
use Rattle.hch.specs.Expanded.{hch_under}
use Rattle.hch.specs.Call.{answer_of, answer_behind_key}
use Rattle.strings.specs.declared.refusal.Refusal.TheVariants.{KeyLength}

pub record Theorems : Type 0 where
  -- For every block permutation, step by x and keyed sum that keep blocks, every tweak and every n from 16 on: HCH keeps the messages of n bytes,
  -- deciphering undoes enciphering and enciphering undoes deciphering.
  pub scheme_cipher : (E D times_x : ℕ → ℕ) (sum : ℕ → List ℕ → ℕ) → Parts E D times_x sum → (T n : ℕ) → IsBlock T → 16 ≤ n
      → Cipher n (encipher E times_x sum T) (decipher E D times_x sum T)
  -- And exactly one message of n bytes enciphers to each, deciphering gives it, and the count is 1.
  pub scheme_one_plaintext : (E D times_x : ℕ → ℕ) (sum : ℕ → List ℕ → ℕ) → Parts E D times_x sum → (T n : ℕ) → IsBlock T → 16 ≤ n
      → (C : List ℕ) → OfLength n C → OnePreimage n (encipher E times_x sum T) C (decipher E D times_x sum T C)
  -- The paper's section II-A: a message of one block.
  pub one_block : (E times_x : ℕ → ℕ) (T : ℕ) (P : List ℕ) → length P ≡ 16
      → let Q = E (E T ⊕ length_block 16) in encipher E times_x power_sum T P ≡ bytes 16 (times_x Q ⊕ E (number P ⊕ Q))
  -- 01's step by x and the sum of formula (1) serve every block permutation in the place of AES.
  pub own_parts : (c : BlockCipher) → BlockPermutation c → Parts c.E c.D times_x power_sum
  pub permutation_one_plaintext : (c : BlockCipher) → BlockPermutation c → (T n : ℕ) → IsBlock T → 16 ≤ n
      → (C : List ℕ) → OfLength n C → OnePreimage n (encipher c.E times_x power_sum T) C (decipher c.E c.D times_x power_sum T C)
  -- AES is one of them: HCH, for every key and every tweak of 16 bytes. The second is the first half of demand 3.
  pub hch_cipher : (key tweak : List ℕ) (n : ℕ) → OfLength 16 tweak → 16 ≤ n → Cipher n (enciphered key tweak) (deciphered key tweak)
  pub one_plaintext : (key tweak : List ℕ) (n : ℕ) → OfLength 16 tweak → 16 ≤ n
      → (C : List ℕ) → OfLength n C → OnePreimage n (enciphered key tweak) C (deciphered key tweak C)
  -- HCH under what is made of a key, of either length, is HCH under the key.
  pub same_expanded : (key : List ℕ) → hch.is_key key ≡ true → Same (hch_under (expanded_key key)) [] hch key
  -- A call tells a wrong key first; behind a right one it answers as under the expanded key.
  pub key_first : (key tweak message : List ℕ) → answer_of key tweak message ≡ cond (hch.is_key key) (answer_behind_key tweak message) (Err KeyLength)
