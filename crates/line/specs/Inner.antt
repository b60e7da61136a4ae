-- What the contracts of inner functions cite: nobody has to believe it.
use Rattle.std.specs.Prelude.{ℕ, suc, true, ◌+◌, ◌*◌, ◌≤◌, ◌<◌, ◌≡◌, Bool, cond, Option, None, Some, Result, Ok, Err, List, [], ◌∷◌, ◌++◌, ltb, leb, eqb, length, take, drop}
use Rattle.strings.specs.Call.{refusal_number}
use Rattle.text.specs.Inner.{before, line_with, kept_with}
use Rattle.text.specs.Hex.{is_hex, unhex}
use Rattle.text.specs.Part.{split}
use Rattle.line.specs.Line.{Request, Unknown, requested, refusal, reply_to, answer, Written}
use Rattle.line.specs.declared.answering.NoResult.{NoResult}
use Rattle.line.specs.declared.answering.NoResult.TheVariants.{NotUnderstood, Refused}
use Rattle.line.specs.declared.answering.Command.{Command}
use Rattle.line.specs.declared.answering.Command.TheVariants.{Encipher, Decipher}
use Rattle.line.specs.declared.input.Step.{Step}

-- ---- one line

-- The number of a line that has no result.
abbrev pub number_of : NoResult → ℕ
number_of NotUnderstood = 9
number_of (Refused why) = refusal_number why

-- The character of a command.
abbrev pub character : Command → ℕ
character Encipher = 69
character Decipher = 68

-- The command that a character names.
abbrev pub command_of : ℕ → Result Command NoResult
command_of c = cond (eqb c 69) (Ok Encipher) (cond (eqb c 68) (Ok Decipher) (Err NotUnderstood))

-- The field at the front of `fields`, which a space ends, is n bytes at the front of `room` in hexadecimal.
pub record Field (fields : List ℕ) (n : ℕ) (room : List ℕ) : Type 0 where
  pub parts : split 32 fields ≡ before 32 fields ∷ split 32 (drop (2 * n + 1) fields)
  pub within : 2 * n < length fields
  pub digits : is_hex (before 32 fields) ≡ true
  pub decoded : take n room ≡ unhex (before 32 fields)
  pub fits : n ≤ length room

-- What `read_field` promises: that, or that a line which goes on so behind its command, and one field more or none, is not understood.
abbrev pub FieldRead : (fields : List ℕ) → Result ℕ NoResult → (room : List ℕ) → Type 0
FieldRead fields (Ok n) room = Field fields n room
FieldRead fields (Err why) room =
    (why ≡ NotUnderstood) × ((command : List ℕ) (front : List (List ℕ)) → length front ≤ 1 → requested (command ∷ front ++ split 32 fields) ≡ Unknown)

-- What a function promises that writes the answer to what was asked where it is a result: where there is none it says why, and `out` is as it was.
abbrev pub Answered : Request → Result ℕ NoResult → (out left : List ℕ) → Type 0
Answered request (Ok n) out left = Written (reply_to request) n out left
Answered request (Err why) out left = (reply_to request ≡ refusal (number_of why)) × (left ≡ out)

-- ---- in chunks. Of the line under way its characters are kept, in `line`, and how many they are, or that the line is too long. A call is lent `rest`,
-- what is left of a chunk, and goes on with the line up to its line feed, or up to the end of the chunk.

-- Whether the line ends in the chunk.
unfoldable pub ends_in : List ℕ → Bool
ends_in rest = ltb (length (before 10 rest)) (length rest)

-- How many bytes of the chunk a call uses up, the line feed among them.
unfoldable pub used_by : List ℕ → ℕ
used_by rest = cond (ends_in rest) (suc (length (before 10 rest))) (length rest)

-- The line as it is then kept: its characters, and how many they are.
unfoldable pub kept_line : List ℕ → Option ℕ → List ℕ → List ℕ
kept_line line kept rest = line_with line kept (before 10 rest)

unfoldable pub kept_of : List ℕ → Option ℕ → List ℕ → Option ℕ
kept_of line kept rest = kept_with line kept (before 10 rest)

-- How many characters of the line under way are kept after the call: a new line begins where one has ended.
unfoldable pub kept_after : List ℕ → Option ℕ → List ℕ → Option ℕ
kept_after line kept rest = cond (ends_in rest) (Some 0) (kept_of line kept rest)

-- The answer to a line that is kept.
unfoldable pub kept_answer : List ℕ → Option ℕ → List ℕ
kept_answer line (Some n) = cond (leb n (length line)) (answer (take n line)) (refusal 9)
kept_answer line None = refusal 9

-- What a call writes: the answer to the line if it has ended.
unfoldable pub answer_after : List ℕ → Option ℕ → List ℕ → List ℕ
answer_after line kept rest = cond (ends_in rest) (kept_answer (kept_line line kept rest) (kept_of line kept rest)) []

-- What a call of `next` promises, by what it answers, `step`, and leaves of the line under way and in `out`.
pub record Stepped (line : List ℕ) (kept : Option ℕ) (rest out : List ℕ) (step : Step) (line' : List ℕ) (kept' : Option ℕ) (out' : List ℕ) : Type 0 where
  pub used : step.used ≡ used_by rest
  pub keeps : kept' ≡ kept_after line kept rest
  pub collected : line' ≡ kept_line line kept rest
  pub answered : Written (answer_after line kept rest) step.written out out'
