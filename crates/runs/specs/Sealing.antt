-- Sealing a run by a scheme S: what it writes, and what it answers.
use Rattle.std.specs.Prelude.{ℕ, ◌+◌, Bool, true, false, cond, not, List, [], ◌∷◌, ltb, eqb, length, get_or, take}
use Rattle.strings.specs.Cipher.{Scheme}
use Rattle.strings.specs.Call.{Answer, Tests, looks_at}
use Rattle.strings.specs.declared.refusal.Refusal.TheVariants.{KeyLength, PayloadTooLong, PlaceTooHigh, PackLength, ListLength}
use Rattle.layout.specs.Finding.{block_count, is_pack, part}
use Rattle.pack.specs.Sealing.{seal}
use Rattle.runs.specs.Run.{blockwise, last_place}

-- Whether an entry of a list is over a limit.
unfoldable pub some_over : (limit : ℕ) → List ℕ → Bool
some_over limit [] = false
some_over limit (u ∷ lengths) = cond (ltb limit u) true (some_over limit lengths)

-- 02, "each payload stands at the front of its block, as long as the list says".
abbrev pub payload_at : (lengths run : List ℕ) (i : ℕ) → List ℕ
payload_at lengths run i = take (get_or lengths i 0) (part i run)

-- 02, "Sealing looks at 1, 10, 11, 5, 6", "11, the list is not as long as the run", "number 6 is for a last place over 65,535": behind the key.
abbrev pub tests_behind_key : (first : ℕ) (lengths run : List ℕ) → Tests
tests_behind_key first lengths run =
    (not (is_pack run), PackLength)
    ∷ (not (eqb (length lengths) (block_count run)), ListLength)
    ∷ (some_over 496 lengths, PayloadTooLong)
    ∷ (ltb 65535 (last_place first run), PlaceTooHigh)
    ∷ []

module _ (S : Scheme) where
  -- 02, "The bytes … are those of the one-block calls": each block is what sealing its payload writes for its place.
  unfoldable pub sealed_run : (key : List ℕ) (pack first : ℕ) (lengths run : List ℕ) → List ℕ
  sealed_run key pack first lengths run = blockwise (λ i B. seal S key (take (get_or lengths i 0) B) pack (first + i)) (block_count run) run

  -- The key is looked at first.
  abbrev pub tests : (key : List ℕ) (first : ℕ) (lengths run : List ℕ) → Tests
  tests key first lengths run = (not (S.is_key key), KeyLength) ∷ tests_behind_key first lengths run

  abbrev pub answer_of : (key : List ℕ) (first : ℕ) (lengths run : List ℕ) → Answer
  answer_of key first lengths run = looks_at (tests key first lengths run)
