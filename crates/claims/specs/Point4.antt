-- Point 4 of 02, "A row that was never saved", sentence by sentence. proofs/Point4.antt has one value of the record. How the check and the lent
-- bytes decide between 8 and 12 is in Demand1.antt, `open_8` and `open_12` of OpeningNumbers.
use Rattle.std.specs.Prelude.{ℕ, ◌+◌, ◌-◌, ◌≤◌, ◌<◌, ◌≡◌, true, List, [], ◌∷◌, ◌++◌, replicate}
use Rattle.strings.specs.Bytes.{Bytes, OfLength}
use Rattle.strings.specs.Call.{number_of, left_by}
use Rattle.strings.specs.Cipher.{Scheme}
use Rattle.layout.specs.Layout.{used, passes}
use Rattle.layout.specs.Finding.{part}
use Rattle.hch.specs.Hch.{hch}
use Rattle.pack.specs.Opening.{values_of, deciphered_block, answer_of}
use Rattle.runs.specs.Opening.{number_of as number_of_run, values_of as values_of_run, answer_of as answer_of_run}
use Rattle.claims.specs.Demand1.{IsKey, of_opening}
use Rattle.claims.specs.Point2.{of_opening as of_run, of_block, Lent, EightOrTwelve, NoneSealsTo, NoneSeals, EarlierOpen}

-- 512 zeros; and for the examples, with a last byte of 1.
abbrev pub zeros : List ℕ
zeros = replicate 512 0

abbrev pub damaged : List ℕ
damaged = replicate 511 0 ++ (1 ∷ [])

-- A scheme for the examples, which leaves every message as it is.
abbrev pub unchanged : Scheme
unchanged = record { is_key = λ key. true; encipher = λ key tweak message. message; decipher = λ key tweak message. message }

pub record Point4 : Type 0 where
  -- ---- "A zero block that passes its check is opened as any other."
  pub zero_opened : (key : List ℕ) (pack place : ℕ) → IsKey key → place ≤ 65535 → passes pack place (deciphered_block hch key pack place zeros) ≡ true
      → (of_opening hch key pack place zeros ≡ 0) × (values_of (answer_of hch key pack place zeros) ≡ used (deciphered_block hch key pack place zeros) ∷ [])
      × (left_by (of_opening hch key pack place zeros) (deciphered_block hch key pack place zeros) zeros ≡ deciphered_block hch key pack place zeros)
  -- ---- "Where 1, 7 and 6 do not apply, no payload seals to the block exactly when it is answered with 8 or blank."
  pub eight_or_twelve : (key : List ℕ) (pack place : ℕ) (C : List ℕ) → IsKey key → OfLength 512 C → place ≤ 65535
      → (EightOrTwelve (of_opening hch key pack place C) → NoneSealsTo key pack place C) × (NoneSealsTo key pack place C → EightOrTwelve (of_opening hch key pack place C))
  -- "If the check fails and all 512 lent bytes are zero, the slot is called blank": it is answered with 12 exactly when no payload seals to it and it is zero.
  pub twelve : (key : List ℕ) (pack place : ℕ) (C : List ℕ) → IsKey key → OfLength 512 C → place ≤ 65535
      → (of_opening hch key pack place C ≡ 12 → NoneSealsTo key pack place C × (C ≡ zeros))
      × (NoneSealsTo key pack place C → C ≡ zeros → of_opening hch key pack place C ≡ 12)
  -- With either, the lent bytes are left as they were.
  pub unopened_left : (key : List ℕ) (pack place : ℕ) (C : List ℕ) → EightOrTwelve (of_opening hch key pack place C)
      → left_by (of_opening hch key pack place C) (deciphered_block hch key pack place C) C ≡ C
  -- ---- "a run gives the number of its first block that will not open".
  -- A number m, not 0, and the place of block i are answered exactly if block i by itself is answered with m and each block before it opens.
  pub run_number : (key : List ℕ) (n pack first : ℕ) (lengths run : List ℕ) → Lent key n lengths run → Bytes run → first + n - 1 ≤ 65535 → (i : ℕ) → i < n
      → (m : ℕ) → 0 < m
      → (of_run key pack first lengths run ≡ m → values_of_run (answer_of_run hch key pack first lengths run) ≡ (first + i) ∷ []
      → (of_block key pack first run i ≡ m) × EarlierOpen key pack first run i)
      × (of_block key pack first run i ≡ m → EarlierOpen key pack first run i
      → (of_run key pack first lengths run ≡ m) × (values_of_run (answer_of_run hch key pack first lengths run) ≡ (first + i) ∷ []))
  -- So 12 and the place of block i are answered exactly if, besides what Point2.antt says of 8 or 12, block i is zero.
  pub run_twelve : (key : List ℕ) (n pack first : ℕ) (lengths run : List ℕ) → Lent key n lengths run → Bytes run → first + n - 1 ≤ 65535 → (i : ℕ) → i < n
      → (of_run key pack first lengths run ≡ 12 → values_of_run (answer_of_run hch key pack first lengths run) ≡ (first + i) ∷ []
      → NoneSeals key pack first run i × EarlierOpen key pack first run i × (part i run ≡ zeros))
      × (NoneSeals key pack first run i → EarlierOpen key pack first run i → part i run ≡ zeros
      → (of_run key pack first lengths run ≡ 12) × (values_of_run (answer_of_run hch key pack first lengths run) ≡ (first + i) ∷ []))
  -- ---- Examples, with nothing enciphered. By 01's P13 zeros are the plain block of an empty payload, pack 0, place 0, and are opened; for pack 1 they are blank,
  -- and with a last byte of 1 they are answered with 8.
  pub zeros_opened : (number_of (answer_of unchanged [] 0 0 zeros) ≡ 0) × (values_of (answer_of unchanged [] 0 0 zeros) ≡ 0 ∷ [])
  pub zeros_blank : number_of (answer_of unchanged [] 1 0 zeros) ≡ 12
  pub one_byte : number_of (answer_of unchanged [] 1 0 damaged) ≡ 8
  -- Of a run of both, for the places 3 and 4, the first decides.
  pub damaged_first : let answer = answer_of_run unchanged [] 1 3 (0 ∷ 0 ∷ []) (damaged ++ zeros) in (number_of_run answer ≡ 8) × (values_of_run answer ≡ 3 ∷ [])
  pub zeros_first : let answer = answer_of_run unchanged [] 1 3 (0 ∷ 0 ∷ []) (zeros ++ damaged) in (number_of_run answer ≡ 12) × (values_of_run answer ≡ 3 ∷ [])
