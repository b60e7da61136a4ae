-- Opening by a scheme S: what it answers, and what that means.
use Rattle.std.specs.Prelude.{ℕ, ◌≤◌, ◌≡◌, Bool, true, cond, not, ◌&&◌, List, [], ◌∷◌, ◌⊎◌, ltb, eqb, length, take, replicate, Result, Ok, Err}
use Rattle.strings.specs.Bytes.{Bytes, equal}
use Rattle.strings.specs.Cipher.{Scheme}
use Rattle.strings.specs.One.{OneString}
use Rattle.strings.specs.Call.{Answer, number_of, Tests, looks_at, left_by}
use Rattle.strings.specs.declared.refusal.Refusal.{Refusal}
use Rattle.strings.specs.declared.refusal.Refusal.TheVariants.{KeyLength, PlaceTooHigh, BlockLength, CheckFailed, Blank}
use Rattle.layout.specs.Layout.{tweak, used, payload_of, passes, is_zero}
use Rattle.pack.specs.Sealing.{seal}

-- What opening answers: u, the length of the payload, or why the block was not opened.
abbrev pub Opened : Type 0
Opened = Result ℕ Refusal

-- What a call returns beside its number: u where the block was opened; a refusal returns its number alone.
abbrev pub values_of : Opened → List ℕ
values_of (Ok u) = u ∷ []
values_of (Err why) = []

-- The answer by the tests, with u where none of them holds.
abbrev pub returning : ℕ → Answer → Opened
returning u (Ok a) = Ok u
returning u (Err why) = Err why

-- 02, Point 4, "12, blank, in the place of 8": why a block that fails its check is refused.
abbrev pub failure : List ℕ → Refusal
failure C = cond (is_zero C) Blank CheckFailed

-- 01, "Opening looks at 1, 7, 6, 8": between the key and the check at 7 and 6.
abbrev pub tests_between : (place : ℕ) (C : List ℕ) → Tests
tests_between place C =
    (not (eqb (length C) 512), BlockLength)
    ∷ (ltb 65535 place, PlaceTooHigh)
    ∷ []

module _ (S : Scheme) where
  -- The lent block C deciphered: a plain block, where it passes its check.
  unfoldable pub deciphered_block : (key : List ℕ) (pack place : ℕ) (C : List ℕ) → List ℕ
  deciphered_block key pack place C = S.decipher key (tweak pack place) C

  -- At the key first, and at the check last; number 12 stands in the place of 8.
  abbrev pub tests : (key : List ℕ) (pack place : ℕ) (C : List ℕ) → Tests
  tests key pack place C =
      (not (S.is_key key), KeyLength)
      ∷ (not (eqb (length C) 512), BlockLength)
      ∷ (ltb 65535 place, PlaceTooHigh)
      ∷ (not (passes pack place (deciphered_block key pack place C)), failure C)
      ∷ []

  abbrev pub answer_of : (key : List ℕ) (pack place : ℕ) (C : List ℕ) → Opened
  answer_of key pack place C = returning (used (deciphered_block key pack place C)) (looks_at (tests key pack place C))

  -- 01, "A block opens to a payload, pack and place, under a key, when opening it with that key, pack and place is not refused, returns the
  -- payload's length as u and leaves the payload from byte 0 on".
  unfoldable pub opens_to : (key payload : List ℕ) (pack place : ℕ) (C : List ℕ) → Bool
  opens_to key payload pack place C =
      let answer = answer_of key pack place C in
      let left = left_by (number_of answer) (deciphered_block key pack place C) C in
      eqb (number_of answer) 0 && equal (values_of answer) (length payload ∷ []) && equal (take (length payload) left) payload

  -- Demand 3: exactly one 512-byte block opens to the payload, pack and place, and it is C; counted over all of them, there is 1.
  abbrev pub OneBlock : (key payload : List ℕ) (pack place : ℕ) (C : List ℕ) → Type 0
  OneBlock key payload pack place C = OneString 512 (opens_to key payload pack place) C

  -- 01, "no payload of 0 to 496 bytes seals to these 512 bytes".
  abbrev pub NoPayload : (key : List ℕ) (pack place : ℕ) (C : List ℕ) → Type 0
  NoPayload key pack place C = (payload : List ℕ) → Bytes payload → length payload ≤ 496 → seal S key payload pack place ≡ C → ⊥

  -- What numbers 8 and 12 mean.
  pub record Unopened (number : ℕ) (key : List ℕ) (pack place : ℕ) (C : List ℕ) : Type 0 where
    -- 02, Point 4, "no payload seals to the block exactly when it is answered with 8 or blank".
    pub eight_or_twelve : ((number ≡ 8) ⊎ (number ≡ 12) → NoPayload key pack place C) × (NoPayload key pack place C → (number ≡ 8) ⊎ (number ≡ 12))
    -- Blank is answered exactly when, besides, all 512 bytes are zero.
    pub twelve : (number ≡ 12 → NoPayload key pack place C × (C ≡ replicate 512 0)) × (NoPayload key pack place C → C ≡ replicate 512 0 → number ≡ 12)

  -- This holds "where 1, 7 and 6 do not apply".
  abbrev pub UnopenedMeaning : (number : ℕ) (key : List ℕ) (pack place : ℕ) (C : List ℕ) → Type 0
  UnopenedMeaning number key pack place C = S.is_key key ≡ true → length C ≡ 512 → place ≤ 65535 → Unopened number key pack place C

  -- What a number means when C was to be opened and B is left.
  pub record Meaning (number : ℕ) (key : List ℕ) (pack place : ℕ) (C B : List ℕ) : Type 0 where
    -- Where C was opened, the payload that is left has at most 496 bytes, it seals to C, and no other block opens to it.
    pub used_limit : number ≡ 0 → used B ≤ 496
    pub sealed : number ≡ 0 → seal S key (payload_of B) pack place ≡ C
    pub one_block : number ≡ 0 → OneBlock key (payload_of B) pack place C
    -- Where C was not opened, by 8 or 12, no payload seals to it.
    pub unopened : UnopenedMeaning number key pack place C
