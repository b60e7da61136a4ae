-- Point 2 of 02, "Seal and open a shelf of blocks in one call", sentence by sentence. proofs/Point2.antt has one value of the record.
use Rattle.std.specs.Prelude.{Ok, Err, ℕ, ◌+◌, ◌-◌, ◌*◌, ◌^◌, ◌≤◌, ◌<◌, ◌≡◌, List, [], ◌∷◌, ◌⊎◌, length, get_or, take, replicate}
use Rattle.strings.specs.Bytes.{Bytes, OfLength, bytes}
use Rattle.strings.specs.Call.{number_of, left_by}
use Rattle.strings.specs.One.{ExactlyOne, count}
use Rattle.strings.specs.declared.refusal.Refusal.{Refusal}
use Rattle.layout.specs.Finding.{block_count, part, with_part}
use Rattle.hch.specs.Hch.{hch}
use Rattle.pack.specs.Sealing.{seal, answer_of as answer_of_block_sealing}
use Rattle.pack.specs.Opening.{values_of as values_of_block, deciphered_block, answer_of as answer_of_block_opening}
use Rattle.runs.specs.Run.{one_by_one, OrderOf}
use Rattle.runs.specs.Sealing.{sealed_run, answer_of as answer_of_sealing}
use Rattle.runs.specs.Opening.{number_of as number_of_opening, values_of, failed_place, deciphered_run, used_lengths, lengths_of, answer_of as answer_of_opening, run_left, list_left, opens_to}
use Rattle.runs.specs.Theorems.{Runs}
use Rattle.runs.specs.declared.opening.NotOpened.TheVariants.{Refused, Failed}
use Rattle.claims.specs.Demand1.{IsKey}
use Rattle.claims.specs.Point1.{IsPack}

-- The number of each call, and that of the one-block call for block i.
abbrev pub of_sealing : (key : List ℕ) (first : ℕ) (lengths run : List ℕ) → ℕ
of_sealing key first lengths run = number_of (answer_of_sealing hch key first lengths run)

abbrev pub of_opening : (key : List ℕ) (pack first : ℕ) (lengths run : List ℕ) → ℕ
of_opening key pack first lengths run = number_of_opening (answer_of_opening hch key pack first lengths run)

abbrev pub of_block : (key : List ℕ) (pack first : ℕ) (run : List ℕ) (i : ℕ) → ℕ
of_block key pack first run i = number_of (answer_of_block_opening hch key pack (first + i) (part i run))

-- What is lent passes the tests up to number 11: a key, n blocks, and a list as long.
abbrev pub Lent : (key : List ℕ) (n : ℕ) (lengths run : List ℕ) → Type 0
Lent key n lengths run = IsKey key × IsPack n run × (length lengths ≡ n)

-- No entry of a list of n lengths is over 496.
abbrev pub NoneOver : (n : ℕ) (lengths : List ℕ) → Type 0
NoneOver n lengths = (i : ℕ) → i < n → get_or lengths i 0 ≤ 496

-- The number of a block that no payload seals to, by Point 4 of 02.
abbrev pub EightOrTwelve : ℕ → Type 0
EightOrTwelve number = (number ≡ 8) ⊎ (number ≡ 12)

-- No payload of 0 to 496 bytes seals to the block C, and none to block i of a run.
abbrev pub NoneSealsTo : (key : List ℕ) (pack place : ℕ) (C : List ℕ) → Type 0
NoneSealsTo key pack place C = (payload : List ℕ) → Bytes payload → length payload ≤ 496 → seal hch key payload pack place ≡ C → ⊥

abbrev pub NoneSeals : (key : List ℕ) (pack first : ℕ) (run : List ℕ) (i : ℕ) → Type 0
NoneSeals key pack first run i = NoneSealsTo key pack (first + i) (part i run)

-- Each block before block i opens.
abbrev pub EarlierOpen : (key : List ℕ) (pack first : ℕ) (run : List ℕ) (i : ℕ) → Type 0
EarlierOpen key pack first run i = (j : ℕ) → j < i → of_block key pack first run j ≡ 0

-- n payloads, and places from `first` on, within the limits.
abbrev pub Payloads : (n : ℕ) (payload : ℕ → List ℕ) (first : ℕ) → Type 0
Payloads n payload first =
    (1 ≤ n) × (n ≤ 128) × ((i : ℕ) → i < n → Bytes (payload i)) × ((i : ℕ) → i < n → length (payload i) ≤ 496) × (first + n - 1 ≤ 65535)

pub record Point2 : Type 0 where
  -- ---- "Sealing looks at 1, 10, 11, 5, 6": a number does not go by what is looked at after it.
  -- 1: key not 16 or 32 bytes.
  pub seal_1 : (key : List ℕ) (first : ℕ) (lengths run : List ℕ) → (IsKey key → ⊥) → of_sealing key first lengths run ≡ 1
  -- 10: the run is not 1 to 128 whole blocks.
  pub seal_10 : (key : List ℕ) (first : ℕ) (lengths run : List ℕ) → IsKey key → ((n : ℕ) → IsPack n run → ⊥) → of_sealing key first lengths run ≡ 10
  -- "11, the list is not as long as the run".
  pub seal_11 : (key : List ℕ) (n first : ℕ) (lengths run : List ℕ) → IsKey key → IsPack n run → (length lengths ≡ n → ⊥) → of_sealing key first lengths run ≡ 11
  -- 5: an entry of the list is over 496.
  pub seal_5 : (key : List ℕ) (n first : ℕ) (lengths run : List ℕ) → Lent key n lengths run → (i : ℕ) → i < n → 496 < get_or lengths i 0
      → of_sealing key first lengths run ≡ 5
  -- "number 6 is for a last place over 65,535".
  pub seal_6 : (key : List ℕ) (n first : ℕ) (lengths run : List ℕ) → Lent key n lengths run → NoneOver n lengths → 65535 < first + n - 1
      → of_sealing key first lengths run ≡ 6
  -- Else the work is done: a last place of 65,535 is sealed.
  pub seal_done : (key : List ℕ) (n first : ℕ) (lengths run : List ℕ) → Lent key n lengths run → NoneOver n lengths
      → first + n - 1 ≤ 65535 → of_sealing key first lengths run ≡ 0
  -- ---- "opening at 1, 10, 11, 6, 8".
  -- 1, 10, 11 and 6, as above.
  pub open_1 : (key : List ℕ) (pack first : ℕ) (lengths run : List ℕ) → (IsKey key → ⊥) → of_opening key pack first lengths run ≡ 1
  pub open_10 : (key : List ℕ) (pack first : ℕ) (lengths run : List ℕ) → IsKey key → ((n : ℕ) → IsPack n run → ⊥) → of_opening key pack first lengths run ≡ 10
  pub open_11 : (key : List ℕ) (n pack first : ℕ) (lengths run : List ℕ) → IsKey key → IsPack n run → (length lengths ≡ n → ⊥)
      → of_opening key pack first lengths run ≡ 11
  pub open_6 : (key : List ℕ) (n pack first : ℕ) (lengths run : List ℕ) → Lent key n lengths run → 65535 < first + n - 1
      → of_opening key pack first lengths run ≡ 6
  -- 8, or 12 by Point 4 of 02: a block will not open. "the answer adds the smallest failing place": one of the two and the place of block i are answered exactly if
  -- no payload seals to it and each block before it opens.
  pub open_8_or_12 : (key : List ℕ) (n pack first : ℕ) (lengths run : List ℕ) → Lent key n lengths run → Bytes run → first + n - 1 ≤ 65535 → (i : ℕ) → i < n
      → (EightOrTwelve (of_opening key pack first lengths run) → values_of (answer_of_opening hch key pack first lengths run) ≡ (first + i) ∷ []
      → NoneSeals key pack first run i × EarlierOpen key pack first run i)
      × (NoneSeals key pack first run i → EarlierOpen key pack first run i
      → EightOrTwelve (of_opening key pack first lengths run) × (values_of (answer_of_opening hch key pack first lengths run) ≡ (first + i) ∷ []))
  -- Else the work is done: each block opens.
  pub open_done : (key : List ℕ) (n pack first : ℕ) (lengths run : List ℕ) → Lent key n lengths run → first + n - 1 ≤ 65535
      → ((i : ℕ) → i < n → of_block key pack first run i ≡ 0) → of_opening key pack first lengths run ≡ 0
  -- No other answer comes with a place, and the app's number is written with a place alone.
  pub no_place : (values_of (Ok tt) ≡ []) × ((why : Refusal) → values_of (Err (Refused why)) ≡ [])
  pub place_written : (lent : ℕ) → (failed_place (Ok tt) lent ≡ lent) × ((why : Refusal) → failed_place (Err (Refused why)) lent ≡ lent)
      × ((why : Refusal) (place : ℕ) → failed_place (Err (Failed why place)) lent ≡ place)
  -- "If one block will not open, the whole run and the list stay unchanged", as with every other number.
  pub unopened_left : (key : List ℕ) (pack first : ℕ) (lengths run : List ℕ) → 0 < of_opening key pack first lengths run
      → (run_left hch key pack first lengths run ≡ run) × (list_left hch key pack first lengths run ≡ lengths)
  -- ---- "The bytes and lengths after a call that was done are those of the one-block calls made one by one".
  -- An order of n blocks has each number below n once: 2, 0, 1 is one of three.
  pub an_order : OrderOf 3 (2 ∷ 0 ∷ 1 ∷ [])
  -- "each payload stands at the front of its block, as long as the list says": where sealing a run is done, sealing each payload into its block is.
  pub sealed_each : (key : List ℕ) (first : ℕ) (lengths run : List ℕ) → IsKey key → of_sealing key first lengths run ≡ 0 → (i : ℕ) → i < block_count run
      → number_of (answer_of_block_sealing hch key (take (get_or lengths i 0) (part i run)) (first + i) (part i run)) ≡ 0
  -- And the run is what these calls leave, in any order of the blocks.
  pub sealed_one_by_one : (key : List ℕ) (pack first : ℕ) (lengths run : List ℕ) → IsKey key → Bytes run
      → of_sealing key first lengths run ≡ 0 → (order : List ℕ) → OrderOf (block_count run) order
      → one_by_one (λ i B. let payload = take (get_or lengths i 0) B in
      left_by (number_of (answer_of_block_sealing hch key payload (first + i) B)) (seal hch key payload pack (first + i)) B) order run
      ≡ sealed_run hch key pack first lengths run
  -- Where opening a run is done, opening each block is, and the list has the length that it returns.
  pub opened_each : (key : List ℕ) (pack first : ℕ) (lengths run : List ℕ) → IsKey key → Bytes run
      → of_opening key pack first lengths run ≡ 0 → (i : ℕ) → i < block_count run
      → (of_block key pack first run i ≡ 0)
      × (values_of_block (answer_of_block_opening hch key pack (first + i) (part i run)) ≡ get_or (used_lengths hch key pack first run) i 0 ∷ [])
  -- And the run is what these calls leave, in any order of the blocks.
  pub opened_one_by_one : (key : List ℕ) (pack first : ℕ) (lengths run : List ℕ) → IsKey key → Bytes run
      → of_opening key pack first lengths run ≡ 0 → (order : List ℕ) → OrderOf (block_count run) order
      → one_by_one (λ i C. left_by (number_of (answer_of_block_opening hch key pack (first + i) C)) (deciphered_block hch key pack (first + i) C) C) order run
      ≡ deciphered_run hch key pack first run
  -- ---- "If a run opens, and still opens after one block's bytes are changed, that change does not alter what the others open to."
  pub others_open : (key : List ℕ) (pack first : ℕ) (lengths run : List ℕ) → IsKey key → Bytes run → of_opening key pack first lengths run ≡ 0
      → (i : ℕ) (block : List ℕ) → i < block_count run → length block ≡ 512 → Bytes block
      → of_opening key pack first lengths (with_part i block run) ≡ 0 → (j : ℕ) → j < block_count run → (j ≡ i → ⊥)
      → (part j (run_left hch key pack first lengths (with_part i block run)) ≡ part j (run_left hch key pack first lengths run))
      × (get_or (list_left hch key pack first lengths (with_part i block run)) j 0 ≡ get_or (list_left hch key pack first lengths run) j 0)
  -- ---- "The counting rule of demand 3 now also speaks of runs of a stated number of blocks."
  -- Exactly one run of n blocks opens to n payloads, a pack and a first place: the one that sealing writes, whatever the run held behind the payloads.
  pub one_run : (key : List ℕ) (n : ℕ) (payload : ℕ → List ℕ) (pack first : ℕ) → IsKey key → Payloads n payload first
      → (run : List ℕ) → length run ≡ 512 * n → ((i : ℕ) → i < n → take (length (payload i)) (part i run) ≡ payload i)
      → ExactlyOne (OfLength (512 * n)) (opens_to hch key n payload pack first) (sealed_run hch key pack first (lengths_of payload n) run)
  -- Counted over all runs of n blocks, there is 1.
  pub one_run_counted : (key : List ℕ) (n : ℕ) (payload : ℕ → List ℕ) (pack first : ℕ) → IsKey key → Payloads n payload first
      → count (λ v. opens_to hch key n payload pack first (bytes (512 * n) v)) (256 ^ (512 * n)) ≡ 1
  -- ---- The theorem on runs, over any tweakable cipher of 512 bytes, holds for HCH.
  pub hch_runs : (key : List ℕ) → IsKey key → Runs hch key
  -- ---- Examples. Nothing at all is no run; two blocks have no list of one length; 497 is refused, and a last place of 65,536; so is a first place at the top of
  -- 32 bits.
  pub numbers : let key : List ℕ = replicate 16 0 in
      let run : List ℕ = replicate 1024 0 in
      (of_sealing key 0 [] [] ≡ 10) × (of_sealing key 65535 (497 ∷ []) run ≡ 11) × (of_sealing key 65535 (496 ∷ 497 ∷ []) run ≡ 5)
      × (of_sealing key 65535 (496 ∷ 496 ∷ []) run ≡ 6) × (of_sealing key 65534 (496 ∷ 496 ∷ []) run ≡ 0) × (of_opening key 0 4294967295 (0 ∷ 0 ∷ []) run ≡ 6)
