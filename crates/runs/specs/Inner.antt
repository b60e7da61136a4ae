-- What the contracts of inner functions cite: nobody has to believe it.
use Rattle.std.specs.Prelude.{⊤, Result, Ok, Err, ℕ, ◌+◌, ◌-◌, ◌*◌, ◌≤◌, ◌≡◌, false, List, ◌++◌, length, drop}
use Rattle.strings.specs.Call.{left_by}
use Rattle.strings.specs.Cipher.{Scheme}
use Rattle.strings.specs.declared.refusal.Refusal.{Refusal}
use Rattle.layout.specs.Finding.{block_count}
use Rattle.pack.specs.Opening.{deciphered_block}
use Rattle.runs.specs.Run.{blockwise}
use Rattle.runs.specs.Sealing.{some_over}
use Rattle.runs.specs.Opening.{RunOpened, number_of, deciphered_run, in_turn}
use Rattle.runs.specs.declared.opening.NotOpened.TheVariants.{Refused, Failed}

-- What is known of blocks that are to be opened or closed: they are whole, and no place is too high.
pub record InRange (first : ℕ) (run : List ℕ) : Type 0 where
  pub whole : length run ≡ 512 * block_count run
  pub places : first + block_count run ≤ 65536

-- And of blocks that are to be sealed: the list has a length for each, and none is too long.
pub record Sealable (first : ℕ) (lengths run : List ℕ) : Type 0 where
  pub whole : length run ≡ 512 * length lengths
  pub places : first + length lengths ≤ 65536
  pub limit : some_over 496 lengths ≡ false

-- What f makes of the first i blocks, and the others as they were.
unfoldable pub walked : (f : ℕ → List ℕ → List ℕ) (run : List ℕ) (i : ℕ) → List ℕ
walked f run i = blockwise f i run ++ drop (512 * i) run

-- What the blocks answer in turn, where it is told which of them is the first that will not open.
abbrev pub at_place : (first : ℕ) → Result ⊤ (ℕ × Refusal) → RunOpened
at_place first (Ok a) = Ok tt
at_place first (Err e) = Err (Failed e.1 (first + e.0))

-- How many blocks an answer leaves open, of n from `first` on.
abbrev pub opened_blocks : (n first : ℕ) → RunOpened → ℕ
opened_blocks n first (Ok a) = n
opened_blocks n first (Err (Refused why)) = 0
opened_blocks n first (Err (Failed why place)) = place - first

-- What the blocks of C answer in turn, and B, where those before the first that will not open are opened.
pub record OpensInTurn (S : Scheme) (key : List ℕ) (pack first : ℕ) (C : List ℕ) (answer : RunOpened) (B : List ℕ) : Type 0 where
  pub answered : answer ≡ in_turn S key pack first (block_count C) C
  pub left : B ≡ walked (λ i C. deciphered_block S key pack (first + i) C) C (opened_blocks (block_count C) first answer)

-- The same answer, and B, where all of them are opened or none.
pub record OpensBlocks (S : Scheme) (key : List ℕ) (pack first : ℕ) (C : List ℕ) (answer : RunOpened) (B : List ℕ) : Type 0 where
  pub in_turn_lem : answer ≡ in_turn S key pack first (block_count C) C
  pub left : B ≡ left_by (number_of answer) (deciphered_run S key pack first C) C
