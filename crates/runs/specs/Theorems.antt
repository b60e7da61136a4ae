-- The theorems of this crate, each by name. One value of this record, proofs/Theorems.antt, proves them all.
use Rattle.std.specs.Prelude.{ℕ, ◌+◌, ◌-◌, ◌*◌, ◌≤◌, ◌<◌, ◌≡◌, true, List, [], ◌∷◌, ◌++◌, length, get_or, take, replicate}
use Rattle.strings.specs.Bytes.{Bytes}
use Rattle.strings.specs.Cipher.{TweakableCipher, Scheme}
use Rattle.strings.specs.Call.{number_of as number_of_block, left_by}
use Rattle.layout.specs.Finding.{block_count, part, with_part}
use Rattle.pack.specs.Sealing.{seal, answer_of as answer_of_block_sealing}
use Rattle.pack.specs.Opening.{values_of as values_of_block, deciphered_block, answer_of as answer_of_block}
use Rattle.runs.specs.Run.{blockwise, one_by_one, OrderOf}
use Rattle.runs.specs.Sealing.{payload_at, sealed_run, answer_of as answer_of_sealing}
use Rattle.runs.specs.Opening.{number_of, deciphered_run, used_lengths, answer_of, run_left, list_left, lengths_of, OneRun, UnopenedMeaning}

-- What the one-block calls for block i leave of it.
abbrev pub sealing_call : (S : Scheme) (key : List ℕ) (pack first : ℕ) (lengths : List ℕ) (i : ℕ) (B : List ℕ) → List ℕ
sealing_call S key pack first lengths i B =
    let payload = take (get_or lengths i 0) B in
    left_by (number_of_block (answer_of_block_sealing S key payload (first + i) B)) (seal S key payload pack (first + i)) B

abbrev pub opening_call : (S : Scheme) (key : List ℕ) (pack first : ℕ) (i : ℕ) (C : List ℕ) → List ℕ
opening_call S key pack first i C = left_by (number_of_block (answer_of_block S key pack (first + i) C)) (deciphered_block S key pack (first + i) C) C

-- Payloads 0 to n - 1 and the places from `first` on are within the limits.
pub record WithinLimits (n : ℕ) (payload : ℕ → List ℕ) (first : ℕ) : Type 0 where
  pub at_least : 1 ≤ n
  pub at_most : n ≤ 128
  pub payload_bytes : (i : ℕ) → i < n → Bytes (payload i)
  pub payload_length : (i : ℕ) → i < n → length (payload i) ≤ 496
  pub place_limit : first + n ≤ 65536

-- A run of n blocks of which each begins with its payload, whatever stands behind that.
pub record Holds (n : ℕ) (payload : ℕ → List ℕ) (run : List ℕ) : Type 0 where
  pub run_length : length run ≡ 512 * n
  pub in_front : (i : ℕ) → i < n → take (length (payload i)) (part i run) ≡ payload i

-- One such run: zeros stand behind each payload.
abbrev pub laid_out : (n : ℕ) (payload : ℕ → List ℕ) → List ℕ
laid_out n payload = blockwise (λ i B. payload i ++ replicate (512 - length (payload i)) 0) n []

-- Of runs, by the scheme S under a key.
pub record Runs (S : Scheme) (key : List ℕ) : Type 0 where
  -- Where sealing a run is done, each one-block call is, and the run is what they leave, made one by one in any order of the blocks.
  pub sealed_each : (first : ℕ) (lengths run : List ℕ) → number_of_block (answer_of_sealing S key first lengths run) ≡ 0
      → (i : ℕ) → i < block_count run → number_of_block (answer_of_block_sealing S key (payload_at lengths run i) (first + i) (part i run)) ≡ 0
  pub sealed_one_by_one : (pack first : ℕ) (lengths run : List ℕ) → Bytes run → number_of_block (answer_of_sealing S key first lengths run) ≡ 0
      → (order : List ℕ) → OrderOf (block_count run) order → one_by_one (sealing_call S key pack first lengths) order run ≡ sealed_run S key pack first lengths run
  -- Where opening a run is done, each one-block call is and returns the length that stands in the list, and the run is what they leave.
  pub opened_each : (pack first : ℕ) (lengths run : List ℕ) → Bytes run → number_of (answer_of S key pack first lengths run) ≡ 0 → (i : ℕ) → i < block_count run
      → let opened = answer_of_block S key pack (first + i) (part i run) in
      (number_of_block opened ≡ 0) × (values_of_block opened ≡ get_or (used_lengths S key pack first run) i 0 ∷ [])
  pub opened_one_by_one : (pack first : ℕ) (lengths run : List ℕ) → Bytes run → number_of (answer_of S key pack first lengths run) ≡ 0
      → (order : List ℕ) → OrderOf (block_count run) order → one_by_one (opening_call S key pack first) order run ≡ deciphered_run S key pack first run
  -- If a run opens, and still opens with another block i, the other blocks open to what they opened to.
  pub others_open : (pack first : ℕ) (lengths run : List ℕ) → Bytes run → number_of (answer_of S key pack first lengths run) ≡ 0
      → (i : ℕ) (block : List ℕ) → i < block_count run → length block ≡ 512 → Bytes block
      → let changed = with_part i block run in
      number_of (answer_of S key pack first lengths changed) ≡ 0 → (j : ℕ) → j < block_count run → (j ≡ i → ⊥)
      → (part j (run_left S key pack first lengths changed) ≡ part j (run_left S key pack first lengths run))
      × (get_or (list_left S key pack first lengths changed) j 0 ≡ get_or (list_left S key pack first lengths run) j 0)
  -- Exactly one run of n blocks opens to n payloads within the limits: the one that sealing writes, whatever the run held behind the payloads. The count
  -- over all runs of n blocks is 1.
  pub one_run : (n : ℕ) (payload : ℕ → List ℕ) (pack first : ℕ) → WithinLimits n payload first → (run : List ℕ) → Holds n payload run
      → OneRun S key n payload pack first (sealed_run S key pack first (lengths_of payload n) run)
  -- What a number with a place means, and numbers 8 and 12.
  pub unopened : (pack first : ℕ) (lengths run : List ℕ) → Bytes run
      → UnopenedMeaning S (answer_of S key pack first lengths run) key pack first lengths run

pub record Theorems : Type 0 where
  -- There is a run that holds n payloads within the limits.
  pub laid_out_lem : (n : ℕ) (payload : ℕ → List ℕ) (first : ℕ) → WithinLimits n payload first → Holds n payload (laid_out n payload)
  -- For every scheme that is, under this key, a tweakable cipher of 512 bytes.
  pub any_cipher : (S : Scheme) (key : List ℕ) → S.is_key key ≡ true → TweakableCipher 16 512 (S.encipher key) (S.decipher key) → Runs S key
