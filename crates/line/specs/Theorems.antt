-- The theorem of this crate, by name. One value of this record, proofs/Theorems.antt, proves it.
use Rattle.std.specs.Prelude.{ℕ, ◌≡◌, Option, List, ◌++◌, length}
use Rattle.line.specs.Input.{answers, answers_so_far, last_answer, Run}

pub record Theorems : Type 0 where
  -- However the input was cut into chunks: what was written up to there is the answers to the lines that have ended, and with the answer to the last
  -- line, if it lacks its line feed, it is the answer to the whole input.
  pub in_chunks : {line₀ input written line : List ℕ} {kept : Option ℕ} → length line₀ ≡ 8300 → Run line₀ input written line kept
      → (written ≡ answers_so_far input) × (written ++ last_answer line kept ≡ answers input)
