-- Demand 1, over the definitions that the contracts of the calls cite: each of 01's numbers, and 02's 12 in the place of 8, under its listed condition, in
-- the order of the call, and what is left. In each call the conditions leave nothing out, so that no number is answered at another time. What numbers 8 and 12
-- mean is in Point4.antt. proofs/Demand1.antt has one value of the record.
use Rattle.std.specs.Prelude.{ℕ, ◌≤◌, ◌<◌, ◌≡◌, true, false, List, [], ◌∷◌, ◌⊎◌, length, replicate, Ok, Err}
use Rattle.strings.specs.Cipher.{Scheme}
use Rattle.strings.specs.Call.{Answer, refusal_number, number_of, values_of, left_by}
use Rattle.strings.specs.declared.refusal.Refusal.{Refusal}
use Rattle.layout.specs.Layout.{used, passes}
use Rattle.hch.specs.Hch.{behind_first, enciphered, deciphered, hch}
use Rattle.hch.specs.Call.{answer_of}
use Rattle.pack.specs.Sealing.{answer_of as answer_of_sealing}
use Rattle.pack.specs.Opening.{Opened, values_of as values_of_opening, deciphered_block, answer_of as answer_of_opening}
use Rattle.line.specs.Line.{Encipher, Decipher, Unknown, request_of, refusal, reply, answer}

-- A key has 16 bytes, or, by Point 3 of 02, 32.
abbrev pub IsKey : List ℕ → Type 0
IsKey key = (length key ≡ 16) ⊎ (length key ≡ 32)

-- The number of each call; enciphering and deciphering have the same.
abbrev pub of_hch : (key tweak message : List ℕ) → ℕ
of_hch key tweak message = number_of (answer_of key tweak message)

-- Sealing and opening are defined over the scheme S, and 01's are those of HCH.
abbrev pub of_sealing : (S : Scheme) (key payload : List ℕ) (place : ℕ) (block : List ℕ) → ℕ
of_sealing S key payload place block = number_of (answer_of_sealing S key payload place block)

abbrev pub of_opening : (S : Scheme) (key : List ℕ) (pack place : ℕ) (block : List ℕ) → ℕ
of_opening S key pack place block = number_of (answer_of_opening S key pack place block)

-- "HCH looks at 1, 2, 3, 4 in this order", said of any scheme's calls on messages: `number` is theirs, `least` the length that a message has at least, and
-- `short` the number for a shorter one. A number does not go by what is looked at after it.
pub record MessageNumbers (number : (key tweak message : List ℕ) → ℕ) (least short : ℕ) : Type 0 where
  -- 1: key not 16 or 32 bytes.
  pub message_1 : (key tweak message : List ℕ) → (IsKey key → ⊥) → number key tweak message ≡ 1
  -- 2: tweak not 16 bytes.
  pub message_2 : (key tweak message : List ℕ) → IsKey key → (length tweak ≡ 16 → ⊥) → number key tweak message ≡ 2
  -- 3 for HCH: data under 16 bytes.
  pub message_short : (key tweak message : List ℕ) → IsKey key → length tweak ≡ 16 → length message < least → number key tweak message ≡ short
  -- 4: data over 4,096 bytes.
  pub message_4 : (key tweak message : List ℕ) → IsKey key → length tweak ≡ 16 → 4096 < length message → number key tweak message ≡ 4
  -- Else the work is done: 16 bytes and 4,096 bytes are enciphered by HCH.
  pub message_done : (key tweak message : List ℕ) → IsKey key → length tweak ≡ 16 → least ≤ length message → length message ≤ 4096
      → number key tweak message ≡ 0

-- "Sealing looks at 1, 7, 5, 6".
pub record SealingNumbers (S : Scheme) : Type 0 where
  -- 1, as above.
  pub seal_1 : (key payload : List ℕ) (place : ℕ) (block : List ℕ) → (IsKey key → ⊥) → of_sealing S key payload place block ≡ 1
  -- 7: lent block not 512 bytes.
  pub seal_7 : (key payload : List ℕ) (place : ℕ) (block : List ℕ) → IsKey key → (length block ≡ 512 → ⊥) → of_sealing S key payload place block ≡ 7
  -- 5: payload over 496 bytes.
  pub seal_5 : (key payload : List ℕ) (place : ℕ) (block : List ℕ) → IsKey key → length block ≡ 512 → 496 < length payload
      → of_sealing S key payload place block ≡ 5
  -- 6: place over 65,535.
  pub seal_6 : (key payload : List ℕ) (place : ℕ) (block : List ℕ) → IsKey key → length block ≡ 512 → length payload ≤ 496 → 65535 < place
      → of_sealing S key payload place block ≡ 6
  -- Else the work is done: payloads of 0 and 496 bytes are sealed, and place 65,535 is.
  pub seal_done : (key payload : List ℕ) (place : ℕ) (block : List ℕ) → IsKey key → length block ≡ 512 → length payload ≤ 496 → place ≤ 65535
      → of_sealing S key payload place block ≡ 0

-- "Opening looks at 1, 7, 6, 8", and by Point 4 of 02 at "12, blank, in the place of 8".
pub record OpeningNumbers (S : Scheme) : Type 0 where
  -- 1, as above.
  pub open_1 : (key : List ℕ) (pack place : ℕ) (block : List ℕ) → (IsKey key → ⊥) → of_opening S key pack place block ≡ 1
  -- 7, as above.
  pub open_7 : (key : List ℕ) (pack place : ℕ) (block : List ℕ) → IsKey key → (length block ≡ 512 → ⊥) → of_opening S key pack place block ≡ 7
  -- 6, as above.
  pub open_6 : (key : List ℕ) (pack place : ℕ) (block : List ℕ) → IsKey key → length block ≡ 512 → 65535 < place → of_opening S key pack place block ≡ 6
  -- 8: opened block fails its check, and some lent byte is not zero.
  pub open_8 : (key : List ℕ) (pack place : ℕ) (block : List ℕ) → IsKey key → length block ≡ 512 → place ≤ 65535
      → passes pack place (deciphered_block S key pack place block) ≡ false → (block ≡ replicate 512 0 → ⊥) → of_opening S key pack place block ≡ 8
  -- 12: opened block fails its check, and all 512 lent bytes are zero.
  pub open_12 : (key : List ℕ) (pack place : ℕ) (block : List ℕ) → IsKey key → length block ≡ 512 → place ≤ 65535
      → passes pack place (deciphered_block S key pack place block) ≡ false → block ≡ replicate 512 0 → of_opening S key pack place block ≡ 12
  -- Else the work is done, and u is returned beside the number.
  pub open_done : (key : List ℕ) (pack place : ℕ) (block : List ℕ) → IsKey key → length block ≡ 512 → place ≤ 65535
      → passes pack place (deciphered_block S key pack place block) ≡ true
      → (of_opening S key pack place block ≡ 0) × (values_of_opening (answer_of_opening S key pack place block) ≡ used (deciphered_block S key pack place block) ∷ [])

pub record Demand1 : Type 0 where
  -- ---- The numbers of HCH's calls, and of sealing and opening by HCH.
  pub hch_numbers : MessageNumbers of_hch 16 3
  pub hch_sealing : SealingNumbers hch
  pub hch_opening : OpeningNumbers hch
  -- 17 bytes has a last block of 1 byte.
  pub hch_17 : (message : List ℕ) → length message ≡ 17 → length (behind_first message) ≡ 1
  -- ---- "Numbers 1 to 8 come from the library and 9 from the program".
  -- 9: line not understood.
  pub line_9 : (line : List ℕ) → request_of line ≡ Unknown → answer line ≡ refusal 9
  -- No other line is answered so.
  pub line_9_only : (line : List ℕ) → answer line ≡ refusal 9 → request_of line ≡ Unknown
  -- A line that is understood is answered as HCH's call answers.
  pub line_enciphered : (line key tweak message : List ℕ) → request_of line ≡ Encipher key tweak message
      → answer line ≡ reply (of_hch key tweak message) (enciphered key tweak message)
  pub line_deciphered : (line key tweak message : List ℕ) → request_of line ≡ Decipher key tweak message
      → answer line ≡ reply (of_hch key tweak message) (deciphered key tweak message)
  -- The library's numbers are 1 to 8 and, by 02, "All new numbers, here and later, come from the library", 10 to 13.
  pub library_numbers : (why : Refusal) → (0 < refusal_number why) × (refusal_number why ≤ 13) × (refusal_number why ≡ 9 → ⊥)
  -- ---- "Each leaves the lent bytes unchanged and returns its number alone".
  -- The lent bytes are left by every number but 0.
  pub refused_left : (number : ℕ) (work lent : List ℕ) → 0 < number → left_by number work lent ≡ lent
  -- A refusal is its number, and no value stands beside it, in the calls on messages and sealing and in opening.
  pub refused_alone : (why : Refusal) → let answer : Answer = Err why in (number_of answer ≡ refusal_number why) × (values_of answer ≡ [])
  pub not_opened_alone : (why : Refusal) → let answer : Opened = Err why in (number_of answer ≡ refusal_number why) × (values_of_opening answer ≡ [])
  -- A call that was done leaves its work. The calls on messages and sealing then return nothing beside 0.
  pub done_left : (work lent : List ℕ) → left_by 0 work lent ≡ work
  pub done_alone : let answer : Answer = Ok tt in (number_of answer ≡ 0) × (values_of answer ≡ [])
