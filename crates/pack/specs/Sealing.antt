-- Sealing by a scheme S: what it writes, and what it answers.
use Rattle.std.specs.Prelude.{ℕ, ◌≤◌, not, List, [], ◌∷◌, ltb, eqb, length}
use Rattle.strings.specs.Bytes.{Bytes}
use Rattle.strings.specs.Cipher.{Scheme}
use Rattle.strings.specs.Call.{Answer, Tests, looks_at}
use Rattle.strings.specs.declared.refusal.Refusal.TheVariants.{KeyLength, PayloadTooLong, PlaceTooHigh, BlockLength}
use Rattle.layout.specs.Layout.{plain_block, tweak}

-- 01, "Within the limits are payloads of 0 to 496 bytes, every 64-bit pack number and places from 0 to 65,535".
pub record WithinLimits (payload : List ℕ) (place : ℕ) : Type 0 where
  pub payload_bytes : Bytes payload
  pub payload_length : length payload ≤ 496
  pub place_limit : place ≤ 65535

-- 01, "Sealing looks at 1, 7, 5, 6": behind the key at 7, 5, 6.
abbrev pub tests_behind_key : (payload : List ℕ) (place : ℕ) (block : List ℕ) → Tests
tests_behind_key payload place block =
    (not (eqb (length block) 512), BlockLength)
    ∷ (ltb 496 (length payload), PayloadTooLong)
    ∷ (ltb 65535 place, PlaceTooHigh)
    ∷ []

module _ (S : Scheme) where
  -- 01, "the block that sealing writes for them is their plain block, as laid out above, enciphered under that key and their tweak".
  unfoldable pub seal : (key payload : List ℕ) (pack place : ℕ) → List ℕ
  seal key payload pack place = S.encipher key (tweak pack place) (plain_block payload pack place)

  -- And at the key first.
  abbrev pub tests : (key payload : List ℕ) (place : ℕ) (block : List ℕ) → Tests
  tests key payload place block = (not (S.is_key key), KeyLength) ∷ tests_behind_key payload place block

  abbrev pub answer_of : (key payload : List ℕ) (place : ℕ) (block : List ℕ) → Answer
  answer_of key payload place block = looks_at (tests key payload place block)
