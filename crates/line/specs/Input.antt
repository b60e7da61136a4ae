-- A whole input and its answers, and an input that arrives in chunks. A line feed is 10.
use Rattle.std.specs.Prelude.{ℕ, zero, suc, Option, None, Some, take}
use mathlib.Core.List.{List, [], ◌∷◌, ◌++◌, flat_map}
use Rattle.text.specs.Part.{split}
use Rattle.line.specs.Line.{answer}
use Rattle.line.specs.Inner.{kept_answer, Stepped}
use Rattle.line.specs.declared.input.Step.{Step}

-- The lines among the parts of an input between its line feeds. What stands behind the last line feed is a line too, which lacks its own, but "after a
-- final line feed no further line follows".
unfoldable pub lines_of : List (List ℕ) → List (List ℕ)
lines_of [] = []
lines_of ([] ∷ []) = []
lines_of ((x ∷ xs) ∷ []) = (x ∷ xs) ∷ []
lines_of (part ∷ next ∷ parts) = part ∷ lines_of (next ∷ parts)

-- Those that have ended with a line feed.
unfoldable pub ended_of : List (List ℕ) → List (List ℕ)
ended_of [] = []
ended_of (part ∷ []) = []
ended_of (part ∷ next ∷ parts) = part ∷ ended_of (next ∷ parts)

-- What `boardline` writes for a whole input: the answer to each of its lines.
unfoldable pub answers : List ℕ → List ℕ
answers input = flat_map answer (lines_of (split 10 input))

-- What it has written when it has read so much: the answers to the lines that have ended.
unfoldable pub answers_so_far : List ℕ → List ℕ
answers_so_far input = flat_map answer (ended_of (split 10 input))

-- ---- in chunks. That what is written comes to `answers` is the theorem `in_chunks`.

-- A run of calls of `next` from the beginning, each on any bytes at all and each as its contract, `Stepped`, has it: the input that they have used up,
-- what they have written, and what is kept of the line under way. `line₀` may hold any bytes.
pub data Run (line₀ : List ℕ) : (input written line : List ℕ) → Option ℕ → Type 0 where
  begin : Run line₀ [] [] line₀ (Some 0)
  call : {input written line rest out line' out' : List ℕ} {kept kept' : Option ℕ} {step : Step} → Run line₀ input written line kept
      → Stepped line kept rest out step line' kept' out'
      → Run line₀ (input ++ take step.used rest) (written ++ take step.written out') line' kept'

-- What `last` writes at the end of the input: the answer to a last line that lacks its line feed.
unfoldable pub last_answer : List ℕ → Option ℕ → List ℕ
last_answer line (Some zero) = []
last_answer line (Some (suc n)) = kept_answer line (Some (suc n))
last_answer line None = kept_answer line None
