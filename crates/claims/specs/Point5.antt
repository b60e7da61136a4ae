-- Point 5 of 02, "The encryption-only scheme", sentence by sentence. proofs/Point5.antt has one value of the record.
use Rattle.std.specs.Prelude.{ℕ, ◌^◌, ◌≤◌, ◌≡◌, List, [], length}
use Rattle.strings.specs.Bytes.{Below, Bytes, OfLength, number, bytes, equal}
use Rattle.strings.specs.Call.{number_of}
use Rattle.strings.specs.One.{ExactlyOne, count}
use Rattle.blocks.specs.Blocks.{IsBlock}
use Rattle.blocks.specs.BlockField.{times_x, ◌·◌, power_sum}
use Rattle.blocks.specs.Counter.{φ}
use Rattle.blocks.specs.Field.{power}
use Rattle.primitives.specs.Aes.{aes}
use Rattle.layout.specs.Layout.{plain_block, tweak}
use Rattle.forward.specs.Forward.{behind_two, Feistel, swapped_feistel, encipher, decipher, Poly, enciphered, deciphered, forward, forward_by}
use Rattle.forward.specs.Call.{answer_of}
use Rattle.forward.specs.Theorems.{BlockFunction}
use Rattle.pack.specs.Sealing.{seal}
use Rattle.pack.specs.Opening.{opens_to}
use Rattle.pack.specs.Theorems.{Pack}
use Rattle.claims.specs.Demand1.{IsKey, MessageNumbers, SealingNumbers, OpeningNumbers}

-- The number of the calls on messages; enciphering and deciphering have the same.
abbrev pub of_forward : (key tweak message : List ℕ) → ℕ
of_forward key tweak message = number_of (answer_of key tweak message)

-- x, as a block.
abbrev pub x : ℕ
x = 2

pub record Point5 : Type 0 where
  -- ---- "Add the scheme of source document 000 in its form with the modified counter, polynomial hashing and the first key definition, both ways, from its Tables 1
  -- to 3", "The bytes written are those of that paper": the definitions that the bytes follow, with AES's encryption under the key, both ways. AES's decryption, D, does
  -- not occur in them.
  pub enciphered_by_aes : (key tweak P : List ℕ) → enciphered key tweak P ≡ encipher (aes key).E times_x power_sum (number tweak) P
  pub deciphered_by_aes : (key tweak C : List ℕ) → deciphered key tweak C ≡ decipher (aes key).E times_x power_sum (number tweak) C
  -- The polynomial hash is the paper's.
  pub polynomial_hash : (τ : ℕ) (Xs : List ℕ) → IsBlock τ → Below (2 ^ 128) Xs → power_sum τ Xs ≡ τ · Poly τ Xs
  -- "Its primitive element is x in our field." That x is primitive is not shown, and nothing here rests on it.
  pub primitive_element : (β i : ℕ) → IsBlock β → φ times_x β i ≡ power 1 ◌·◌ x i · β
  -- Table 2's caption: with its blocks swapped, the Feistel construction is undone.
  pub feistel_undone : (E : ℕ → ℕ) (h : ℕ → List ℕ → ℕ) (τ' A₁ A₂ : ℕ)
      → let B = Feistel E h τ' A₁ A₂ in swapped_feistel E h τ' B.0 B.1 ≡ (A₁, A₂)
  -- ---- "Lengths are 33 to 4,096 bytes", "13, data under 33 bytes for this scheme; it stands where 3 stood in the order": 1, 2, 13, 4.
  pub forward_numbers : MessageNumbers of_forward 33 13
  -- 33 bytes has a last block of 1 byte.
  pub forward_33 : (message : List ℕ) → length message ≡ 33 → length (behind_two message) ≡ 1
  -- ---- "Blocks of 512 bytes can be sealed and opened under it by calls of their own": with HCH's numbers.
  pub forward_sealing : SealingNumbers forward
  pub forward_opening : OpeningNumbers forward
  -- Sealed is the plain block of 01, under 01's tweak.
  pub sealed : (key payload : List ℕ) (pack place : ℕ) → seal forward key payload pack place ≡ enciphered key (tweak pack place) (plain_block payload pack place)
  -- The pack's theorem holds for it: what was sealed opens to its payload, no other block does, and numbers 8 and 12 have their meaning.
  pub forward_pack : (key : List ℕ) → IsKey key → Pack forward key
  -- ---- "Both counting rules of demand 3, of boards and of blocks, hold for it with every function from blocks to blocks in the place of AES, invertible or not."
  -- Exactly one message of C's length enciphers to C, and it is the one that deciphering gives.
  pub any_function : (E : ℕ → ℕ) → BlockFunction E → (T : ℕ) → IsBlock T → (C : List ℕ) → Bytes C → 33 ≤ length C
      → ExactlyOne (OfLength (length C)) (λ P. equal (encipher E times_x power_sum T P) C) (decipher E times_x power_sum T C)
  -- Counted over all messages of that length, there is 1.
  pub any_function_counted : (E : ℕ → ℕ) → BlockFunction E → (T : ℕ) → IsBlock T → (C : List ℕ) → Bytes C → 33 ≤ length C
      → count (λ v. equal (encipher E times_x power_sum T (bytes (length C) v)) C) (256 ^ length C) ≡ 1
  -- Exactly one block of 512 bytes opens to the payload, pack and place, and it is the one that sealing writes.
  pub any_function_block : (E : ℕ → ℕ) → BlockFunction E → (payload : List ℕ) (pack place : ℕ) → Bytes payload → length payload ≤ 496 → place ≤ 65535
      → ExactlyOne (OfLength 512) (opens_to (forward_by E) [] payload pack place) (seal (forward_by E) [] payload pack place)
  -- Counted over all blocks of 512 bytes, there is 1.
  pub any_function_block_counted : (E : ℕ → ℕ) → BlockFunction E → (payload : List ℕ) (pack place : ℕ) → Bytes payload → length payload ≤ 496 → place ≤ 65535
      → count (λ v. opens_to (forward_by E) [] payload pack place (bytes 512 v)) (256 ^ 512) ≡ 1
  -- One such function has no inverse: it makes 0 of every block.
  pub zero_function : BlockFunction (λ a. 0)
  -- AES's encryption is one, under every key. So both rules hold for the scheme with AES.
  pub aes_function : (key : List ℕ) → BlockFunction (aes key).E
  pub one_message : (key tweak C : List ℕ) → OfLength 16 tweak → Bytes C → 33 ≤ length C
      → ExactlyOne (OfLength (length C)) (λ P. equal (enciphered key tweak P) C) (deciphered key tweak C)
  pub one_message_counted : (key tweak C : List ℕ) → OfLength 16 tweak → Bytes C → 33 ≤ length C
      → count (λ v. equal (enciphered key tweak (bytes (length C) v)) C) (256 ^ length C) ≡ 1
  pub one_block : (key payload : List ℕ) (pack place : ℕ) → IsKey key → Bytes payload → length payload ≤ 496 → place ≤ 65535
      → ExactlyOne (OfLength 512) (opens_to forward key payload pack place) (seal forward key payload pack place)
  pub one_block_counted : (key payload : List ℕ) (pack place : ℕ) → IsKey key → Bytes payload → length payload ≤ 496 → place ≤ 65535
      → count (λ v. opens_to forward key payload pack place (bytes 512 v)) (256 ^ 512) ≡ 1
