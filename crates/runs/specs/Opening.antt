-- Opening a run by a scheme S: what it answers, what it leaves, and what that means.
use Rattle.std.specs.Prelude.{ℕ, zero, suc, ◌+◌, ◌*◌, ◌≤◌, ◌<◌, ◌≡◌, Bool, true, false, not, ◌&&◌, List, [], ◌∷◌, ◌++◌, ◌⊎◌, ltb, eqb, length, take, replicate, ⊤, Result, Ok, Err}
use Rattle.strings.specs.Bytes.{equal}
use Rattle.strings.specs.Cipher.{Scheme}
use Rattle.strings.specs.One.{OneString}
use Rattle.strings.specs.Call.{Answer, refusal_number, number_of as number_of_block, Tests, looks_at, left_by}
use Rattle.strings.specs.declared.refusal.Refusal.TheVariants.{KeyLength, PlaceTooHigh, PackLength, ListLength}
use Rattle.layout.specs.Layout.{used}
use Rattle.layout.specs.Finding.{block_count, is_pack, part}
use Rattle.pack.specs.Opening.{Opened, deciphered_block, answer_of as answer_of_block, NoPayload}
use Rattle.runs.specs.Run.{blockwise, last_place}
use Rattle.runs.specs.Sealing.{some_over, payload_at, sealed_run}
use Rattle.runs.specs.NotOpened.{why_of, places_of}
use Rattle.runs.specs.declared.opening.NotOpened.{NotOpened}
use Rattle.runs.specs.declared.opening.NotOpened.TheVariants.{Refused, Failed}

-- What opening a run answers.
abbrev pub RunOpened : Type 0
RunOpened = Result ⊤ NotOpened

-- The number, 0 for a call that was done, and what a call returns beside it: the place of the block that would not open.
abbrev pub number_of : RunOpened → ℕ
number_of (Ok a) = 0
number_of (Err e) = refusal_number (why_of e)

abbrev pub values_of : RunOpened → List ℕ
values_of (Ok a) = []
values_of (Err e) = places_of e

-- The number n, with the place of block i.
abbrev pub NumberAt : (answer : RunOpened) (n first i : ℕ) → Type 0
NumberAt answer n first i = (number_of answer ≡ n) × (values_of answer ≡ (first + i) ∷ [])

-- What the app's out parameter holds after a call: the place of the block that would not open, or what it held before.
abbrev pub failed_place : RunOpened → (lent : ℕ) → ℕ
failed_place (Ok a) lent = lent
failed_place (Err (Refused why)) lent = lent
failed_place (Err (Failed why place)) lent = place

-- The answer after one block more: a block is opened only where those before it have opened.
abbrev pub next : RunOpened → Opened → (place : ℕ) → RunOpened
next (Ok a) (Ok u) place = Ok tt
next (Ok a) (Err why) place = Err (Failed why place)
next (Err e) opened place = Err e

-- The answer by the tests, and by the blocks where none of them holds.
abbrev pub after : Answer → RunOpened → RunOpened
after (Ok a) opened = opened
after (Err why) opened = Err (Refused why)

-- The lengths of n payloads.
unfoldable pub lengths_of : (payload : ℕ → List ℕ) (n : ℕ) → List ℕ
lengths_of payload zero = []
lengths_of payload (suc n) = lengths_of payload n ++ (length (payload n) ∷ [])

-- Whether n blocks begin with their payloads.
unfoldable pub begin_with : (payload : ℕ → List ℕ) (n : ℕ) (run : List ℕ) → Bool
begin_with payload zero run = true
begin_with payload (suc n) run = begin_with payload n run && equal (take (length (payload n)) (part n run)) (payload n)

-- 02, "opening at 1, 10, 11, 6, 8": behind the key; 8, and 12 in its place, is that of a block.
abbrev pub tests_behind_key : (first : ℕ) (lengths run : List ℕ) → Tests
tests_behind_key first lengths run =
    (not (is_pack run), PackLength)
    ∷ (not (eqb (length lengths) (block_count run)), ListLength)
    ∷ (ltb 65535 (last_place first run), PlaceTooHigh)
    ∷ []

module _ (S : Scheme) where
  -- The run opened and the lengths of its payloads, by the one-block definitions.
  unfoldable pub deciphered_run : (key : List ℕ) (pack first : ℕ) (run : List ℕ) → List ℕ
  deciphered_run key pack first run = blockwise (λ i C. deciphered_block S key pack (first + i) C) (block_count run) run

  unfoldable pub used_lengths : (key : List ℕ) (pack first : ℕ) (run : List ℕ) → List ℕ
  used_lengths key pack first run = blockwise (λ i C. used (deciphered_block S key pack (first + i) C) ∷ []) (block_count run) run

  -- The first n blocks, opened in turn by the one-block call.
  unfoldable pub in_turn : (key : List ℕ) (pack first n : ℕ) (run : List ℕ) → RunOpened
  in_turn key pack first zero run = Ok tt
  in_turn key pack first (suc n) run = next (in_turn key pack first n run) (answer_of_block S key pack (first + n) (part n run)) (first + n)

  -- The key is looked at first.
  abbrev pub tests : (key : List ℕ) (first : ℕ) (lengths run : List ℕ) → Tests
  tests key first lengths run = (not (S.is_key key), KeyLength) ∷ tests_behind_key first lengths run

  abbrev pub answer_of : (key : List ℕ) (pack first : ℕ) (lengths run : List ℕ) → RunOpened
  answer_of key pack first lengths run = after (looks_at (tests key first lengths run)) (in_turn key pack first (block_count run) run)

  -- What the call leaves of the run and of the list.
  abbrev pub run_left : (key : List ℕ) (pack first : ℕ) (lengths run : List ℕ) → List ℕ
  run_left key pack first lengths run = left_by (number_of (answer_of key pack first lengths run)) (deciphered_run key pack first run) run

  abbrev pub list_left : (key : List ℕ) (pack first : ℕ) (lengths run : List ℕ) → List ℕ
  list_left key pack first lengths run = left_by (number_of (answer_of key pack first lengths run)) (used_lengths key pack first run) lengths

  -- A run opens to n payloads, a pack and a first place, under a key, when opening it with that key, pack and first place is not refused, leaves the
  -- payloads' lengths in the list and each payload at the front of its block.
  unfoldable pub opens_to : (key : List ℕ) (n : ℕ) (payload : ℕ → List ℕ) (pack first : ℕ) (C : List ℕ) → Bool
  opens_to key n payload pack first C =
      let lent : List ℕ = replicate n 0 in
      eqb (number_of (answer_of key pack first lent C)) 0 && equal (list_left key pack first lent C) (lengths_of payload n)
      && begin_with payload n (run_left key pack first lent C)

  -- 02, "The counting rule of demand 3 now also speaks of runs": exactly one run of n blocks opens to the payloads, and it is C; counted, there is 1.
  abbrev pub OneRun : (key : List ℕ) (n : ℕ) (payload : ℕ → List ℕ) (pack first : ℕ) (C : List ℕ) → Type 0
  OneRun key n payload pack first C = OneString (512 * n) (opens_to key n payload pack first) C

  -- The number that the one-block call answers for block i; that it opens it; and that it opens each block before block i.
  abbrev pub block_number : (key : List ℕ) (pack first : ℕ) (run : List ℕ) (i : ℕ) → ℕ
  block_number key pack first run i = number_of_block (answer_of_block S key pack (first + i) (part i run))

  abbrev pub BlockOpens : (key : List ℕ) (pack first : ℕ) (run : List ℕ) (i : ℕ) → Type 0
  BlockOpens key pack first run i = block_number key pack first run i ≡ 0

  abbrev pub EarlierOpen : (key : List ℕ) (pack first : ℕ) (run : List ℕ) (i : ℕ) → Type 0
  EarlierOpen key pack first run i = (j : ℕ) → j < i → BlockOpens key pack first run j

  -- Each block before block i opens, and block i is answered with n.
  abbrev pub FirstNumber : (n : ℕ) (key : List ℕ) (pack first : ℕ) (run : List ℕ) (i : ℕ) → Type 0
  FirstNumber n key pack first run i = (block_number key pack first run i ≡ n) × EarlierOpen key pack first run i

  -- Each block before block i opens, and no payload seals to block i.
  abbrev pub FirstToFail : (key : List ℕ) (pack first : ℕ) (run : List ℕ) (i : ℕ) → Type 0
  FirstToFail key pack first run i = NoPayload S key pack (first + i) (part i run) × EarlierOpen key pack first run i

  -- 02, "the answer adds the smallest failing place": what an answer with the place of block i means.
  pub record Unopened (answer : RunOpened) (key : List ℕ) (pack first : ℕ) (run : List ℕ) (i : ℕ) : Type 0 where
    -- 02, Point 4, "a run gives the number of its first block that will not open".
    pub first_number : (n : ℕ) → 0 < n
        → (NumberAt answer n first i → FirstNumber n key pack first run i) × (FirstNumber n key pack first run i → NumberAt answer n first i)
    -- So 8 or 12 is answered exactly if block i is the first that no payload seals to.
    pub eight_or_twelve : (NumberAt answer 8 first i ⊎ NumberAt answer 12 first i → FirstToFail key pack first run i)
        × (FirstToFail key pack first run i → NumberAt answer 8 first i ⊎ NumberAt answer 12 first i)
    -- And 12 exactly if, besides, all of its 512 bytes are zero.
    pub twelve : (NumberAt answer 12 first i → FirstToFail key pack first run i × (part i run ≡ replicate 512 0))
        × (FirstToFail key pack first run i → part i run ≡ replicate 512 0 → NumberAt answer 12 first i)

  -- This holds for each block i of the run, where 1, 10, 11 and 6 do not apply.
  abbrev pub UnopenedMeaning : (answer : RunOpened) (key : List ℕ) (pack first : ℕ) (lengths run : List ℕ) → Type 0
  UnopenedMeaning answer key pack first lengths run =
      S.is_key key ≡ true → is_pack run ≡ true → length lengths ≡ block_count run → last_place first run ≤ 65535 → (i : ℕ) → i < block_count run
      → Unopened answer key pack first run i

  -- What an answer means when the list and C were lent, and `lengths'` and B are left.
  pub record Meaning (answer : RunOpened) (key : List ℕ) (pack first : ℕ) (lengths C lengths' B : List ℕ) : Type 0 where
    -- Where C was opened, the list has lengths of at most 496 bytes, the payloads that are left seal to C, and no other run opens to them.
    pub used_limit : number_of answer ≡ 0 → some_over 496 lengths' ≡ false
    pub sealed : number_of answer ≡ 0 → sealed_run S key pack first lengths' B ≡ C
    pub one_run : number_of answer ≡ 0 → OneRun key (block_count C) (payload_at lengths' B) pack first C
    -- Where a block would not open, the first such block is told, by its number and its place.
    pub unopened : UnopenedMeaning answer key pack first lengths C
