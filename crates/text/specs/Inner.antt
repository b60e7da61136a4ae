-- What the contracts of inner functions cite: nobody has to believe it.
use Rattle.std.specs.Prelude.{ℕ, ◌+◌, ◌*◌, ◌/◌, min, Bool, false, cond, ◌&&◌, Option, None, Some, List, [], ◌∷◌, ◌++◌, ltb, leb, eqb, length, take, drop}
use Rattle.strings.specs.Inner.{overwrite}
use Rattle.text.specs.Hex.{hex, is_hex, unhex}

-- The part of xs in front of the first b, all of xs where there is none.
unfoldable pub before : ℕ → List ℕ → List ℕ
before b [] = []
before b (x ∷ xs) = cond (eqb x b) [] (x ∷ before b xs)

-- How many whole bytes have room in `out`, two characters each.
unfoldable pub fitting : List ℕ → List ℕ → ℕ
fitting bytes out = min (length bytes) (length out / 2)

-- What `encode` leaves in `out`: their digits, and then what stood there.
unfoldable pub encoded_in : List ℕ → List ℕ → List ℕ
encoded_in bytes out = hex (take (fitting bytes out) bytes) ++ drop (2 * fitting bytes out) out

-- What `decode` answers: how many bytes it wrote, or none where the text is not hexadecimal or `out` is too short for it.
unfoldable pub decoded_of : List ℕ → List ℕ → Option ℕ
decoded_of text out = cond (is_hex text && leb (length text / 2) (length out)) (Some (length text / 2)) None

-- What `decode` leaves in `out` with that answer.
unfoldable pub decoded_in : Option ℕ → List ℕ → List ℕ → List ℕ
decoded_in (Some n) text out = unhex text ++ drop n out
decoded_in None text out = out

-- What `decode_field` answers: as `decode` does for what stands in front of the first b, and that there is no field where there is no b.
unfoldable pub field_of : ℕ → List ℕ → List ℕ → Option ℕ
field_of b text out = cond (ltb (length (before b text)) (length text)) (decoded_of (before b text) out) None

-- ---- a line under way: `kept` is how many characters it has, or none where it is too long

-- What `append` leaves in `line`: `more` behind the characters that are kept, as far as there is room.
unfoldable pub line_with : List ℕ → Option ℕ → List ℕ → List ℕ
line_with line (Some n) more = overwrite n more line
line_with line None more = line

-- What is then kept, where there is room for all of it.
unfoldable pub kept_with : List ℕ → Option ℕ → List ℕ → Option ℕ
kept_with line (Some n) more = cond (leb (n + length more) (length line)) (Some (n + length more)) None
kept_with line None more = None

-- The line that is kept: none where it is too long, or where `line` has fewer characters than are said to be kept.
abbrev pub line_of : List ℕ → Option ℕ → Option (List ℕ)
line_of line (Some n) = cond (leb n (length line)) (Some (take n line)) None
line_of line None = None

-- Whether it is the empty line.
abbrev pub is_empty : Option ℕ → Bool
is_empty (Some n) = eqb n 0
is_empty None = false
