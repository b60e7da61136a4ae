-- Point 3 of 02, "Keys of 32 bytes", sentence by sentence. proofs/Point3.antt has one value of the record.
use Rattle.std.specs.Prelude.{ℕ, ◌≡◌, true, false, List, [], ◌++◌, length, replicate}
use Rattle.strings.specs.Cipher.{Permutation, Same}
use Rattle.blocks.specs.Blocks.{IsBlock}
use Rattle.primitives.specs.Aes.{encipher, decipher, key_expansion, is_key, aes}
use Rattle.primitives.specs.Expanded.{expanded_key, under}
use Rattle.hch.specs.Hch.{hch}
use Rattle.hch.specs.Expanded.{hch_under}
use Rattle.claims.specs.Demand1.{IsKey}

pub record Point3 : Type 0 where
  -- ---- "Key expansion must accept 16 or 32 bytes", and no other length. (In every call a key of neither length is number 1: Demand1 and Point2.)
  pub accepted : (key : List ℕ) → IsKey key → is_key key ≡ true
  pub not_accepted : (key : List ℕ) → (IsKey key → ⊥) → is_key key ≡ false
  -- ---- "and say which it got, with 10 or 14 rounds as FIPS 197 has them".
  pub ten_rounds : (key : List ℕ) → length key ≡ 16 → (expanded_key key).rounds ≡ 10
  pub fourteen_rounds : (key : List ℕ) → length key ≡ 32 → (expanded_key key).rounds ≡ 14
  -- The words are KeyExpansion's, 44 with zeros behind them, or 60.
  pub words_of_16 : (key : List ℕ) → length key ≡ 16 → (expanded_key key).words ≡ key_expansion 4 key ++ replicate 16 0
  pub words_of_32 : (key : List ℕ) → length key ≡ 32 → (expanded_key key).words ≡ key_expansion 8 key
  -- Of what is no key come zeros.
  pub no_rounds : (key : List ℕ) → (IsKey key → ⊥) → (expanded_key key).rounds ≡ 0
  pub no_words : (key : List ℕ) → (IsKey key → ⊥) → (expanded_key key).words ≡ replicate 60 0
  -- ---- "Everyone above must carry the longer expanded key": it stands for AES under the key, and HCH under it is HCH under the key.
  pub aes_carried : (key : List ℕ) → IsKey key → under (expanded_key key) ≡ aes key
  pub hch_carried : (key : List ℕ) → IsKey key → Same (hch_under (expanded_key key)) [] hch key
  -- ---- "The facts on rounds are proved over the number of rounds, and the two key lengths cite them": any number of rounds and any words give a block permutation.
  -- Which numbers the two lengths take, and so "Demands 2 and 3 cover both key lengths", is in Demand2 and Demand3.
  pub any_rounds : (Nr : ℕ) (w : List ℕ) → Permutation IsBlock (encipher Nr w) (decipher Nr w)
