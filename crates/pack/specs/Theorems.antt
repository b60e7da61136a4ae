-- The theorems of this crate, each by name. One value of this record, proofs/Theorems.antt, proves them all.
use Rattle.std.specs.Prelude.{ℕ, ◌≤◌, ◌≡◌, true, List, [], ◌∷◌, length, take}
use Rattle.strings.specs.Bytes.{Bytes, OfLength}
use Rattle.strings.specs.Cipher.{TweakableCipher, Scheme}
use Rattle.strings.specs.Call.{number_of}
use Rattle.layout.specs.Layout.{plain_block}
use Rattle.layout.specs.Finding.{with_part, answer_of as answer_of_finding, found}
use Rattle.pack.specs.Sealing.{seal, WithinLimits}
use Rattle.pack.specs.Opening.{values_of, deciphered_block, answer_of, opens_to, OneBlock, UnopenedMeaning}

-- The block of a place is found in a pack of blocks; and the pack once a payload was sealed into that part of it.
abbrev pub IsFound : (place : ℕ) (blocks : List ℕ) → Type 0
IsFound place blocks = number_of (answer_of_finding place blocks) ≡ 0

abbrev pub sealed_in_place : (S : Scheme) (key payload : List ℕ) (pack place : ℕ) (blocks : List ℕ) → List ℕ
sealed_in_place S key payload pack place blocks = with_part place (seal S key payload pack place) blocks

-- Of sealing and opening by the scheme S under a key. The pack number and the place are any numbers, cut to 64 and 32 bits where they stand in a block.
pub record Pack (S : Scheme) (key : List ℕ) : Type 0 where
  -- Opening what was sealed is not refused, returns the payload's length and leaves its plain block, which begins with the payload.
  pub open_sealed : (payload : List ℕ) (pack place : ℕ) → WithinLimits payload place
      → let C = seal S key payload pack place in
      let answer = answer_of S key pack place C in
      let B = plain_block payload pack place in
      (number_of answer ≡ 0) × (values_of answer ≡ length payload ∷ []) × (deciphered_block S key pack place C ≡ B) × (take (length payload) B ≡ payload)
  -- A block that opens to a payload, pack and place is the one that sealing writes.
  pub only_sealed : (payload : List ℕ) (pack place : ℕ) (C : List ℕ) → OfLength 512 C → opens_to S key payload pack place C ≡ true
      → C ≡ seal S key payload pack place
  -- Exactly one block opens to each payload, pack and place within the limits, and the count over all blocks is 1.
  pub one_block : (payload : List ℕ) (pack place : ℕ) → WithinLimits payload place → OneBlock S key payload pack place (seal S key payload pack place)
  -- Point 1 of 02. What is sealed into the part of a place that is found is opened there, and every other part opens, under every
  -- key, pack and place, to what it opened to before.
  pub opened_in_place : (payload : List ℕ) (pack place : ℕ) (blocks : List ℕ) → Bytes payload → length payload ≤ 496 → IsFound place blocks
      → opens_to S key payload pack place (found place (sealed_in_place S key payload pack place blocks)) ≡ true
  pub others_in_place : (payload : List ℕ) (pack place : ℕ) (blocks : List ℕ) → Bytes payload → length payload ≤ 496 → IsFound place blocks
      → (other : ℕ) → (other ≡ place → ⊥) → (key' payload' : List ℕ) (pack' place' : ℕ)
      → opens_to S key' payload' pack' place' (found other (sealed_in_place S key payload pack place blocks)) ≡ opens_to S key' payload' pack' place' (found other blocks)
  -- What numbers 8 and 12 mean.
  pub unopened : (pack place : ℕ) (C : List ℕ) → Bytes C → UnopenedMeaning S (number_of (answer_of S key pack place C)) key pack place C

pub record Theorems : Type 0 where
  -- For every scheme that is, under this key, a tweakable cipher of 512 bytes.
  pub any_cipher : (S : Scheme) (key : List ℕ) → S.is_key key ≡ true → TweakableCipher 16 512 (S.encipher key) (S.decipher key) → Pack S key
