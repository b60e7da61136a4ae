-- Point 1 of 02: where a block stands in a pack, and what finding answers.
use Rattle.std.specs.Prelude.{ℕ, zero, suc, ◌+◌, ◌*◌, ◌/◌, ◌%◌, ◌<◌, ◌≡◌, Bool, not, ◌&&◌, List, [], ◌∷◌, ◌++◌, leb, eqb, length, get_or, take, drop}
use Rattle.std.specs.Borrow.{Bor}
use Rattle.strings.specs.Call.{number_of, Answer, Tests, looks_at, left_by}
use Rattle.strings.specs.declared.refusal.Refusal.TheVariants.{PackLength, PlaceTooHigh}

-- How many whole blocks of 512 bytes a string has: n, where it is a pack.
abbrev pub block_count : List ℕ → ℕ
block_count pack = length pack / 512

-- 02, "1 to 128 whole blocks".
unfoldable pub is_pack : List ℕ → Bool
is_pack pack = eqb (length pack % 512) 0 && leb 1 (block_count pack) && leb (block_count pack) 128

-- 02, "the block of place p begins at byte 512 times p".
abbrev pub start : ℕ → ℕ
start place = 512 * place

-- That block, as a part of the pack.
unfoldable pub part : (place : ℕ) (pack : List ℕ) → List ℕ
part place pack = take 512 (drop (start place) pack)

-- The parts of the places 0 to n - 1, one after the other.
unfoldable pub parts : (n : ℕ) (pack : List ℕ) → List ℕ
parts zero pack = []
parts (suc n) pack = parts n pack ++ part n pack

-- The pack with another block in that place.
unfoldable pub with_part : (place : ℕ) (block pack : List ℕ) → List ℕ
with_part place block pack = take (start place) pack ++ (block ++ drop (start (suc place)) pack)

-- 02, "10, the lent pack is not 1 to 128 whole blocks, looked at first; a place at or past n is number 6, looked at next".
unfoldable pub tests : (place : ℕ) (pack : List ℕ) → Tests
tests place pack =
    (not (is_pack pack), PackLength)
    ∷ (leb (block_count pack) place, PlaceTooHigh)
    ∷ []

abbrev pub answer_of : (place : ℕ) (pack : List ℕ) → Answer
answer_of place pack = looks_at (tests place pack)

-- 02, "the caller gets that part of the lent pack. A refused find gives the empty part".
abbrev pub found : (place : ℕ) (pack : List ℕ) → List ℕ
found place pack = left_by (number_of (answer_of place pack)) (part place pack) []

-- ---- "copies nothing": the part's bytes are the pack's own.

-- Where byte i of a lent slice stands in memory.
abbrev pub address : Bor (List ℕ) → ℕ → ℕ × ℕ
address s i = (s.ref_ptr.0, s.ref_ptr.1 + i)

-- Where finding is not refused, the part begins where the pack has the first byte of the block.
abbrev pub BeginsAt : (place : ℕ) (pack r : Bor (List ℕ)) → Type 0
BeginsAt place pack r = number_of (answer_of place pack.now) ≡ 0 → r.ref_ptr ≡ address pack (start place)

-- In a memory, which has a byte at each address, the slice s holds the string t.
pub record Holds (memory : ℕ × ℕ → ℕ) (s : Bor (List ℕ)) (t : List ℕ) : Type 0 where
  pub same_length : length t ≡ length s.now
  pub same_bytes : (i : ℕ) → i < length t → memory (address s i) ≡ get_or t i 0

-- No byte of r stands there.
abbrev pub Outside : Bor (List ℕ) → ℕ × ℕ → Type 0
Outside r there = (j : ℕ) → j < length r.now → address r j ≡ there → ⊥

-- The pack's bytes outside r are what they were when it was lent.
abbrev pub SameOutside : (memory : ℕ × ℕ → ℕ) (pack r : Bor (List ℕ)) → Type 0
SameOutside memory pack r = (i : ℕ) → i < length pack.now → Outside r (address pack i) → memory (address pack i) ≡ get_or pack.now i 0

-- What the pack is after the part r was written to: once r holds `block`, and if the bytes outside r are what they were, it is the lent pack with that block
-- in its place. Where finding was refused, r has no byte, and every byte of the pack is outside it.
abbrev pub Written : (place : ℕ) (pack r : Bor (List ℕ)) → Type 0
Written place pack r = (memory : ℕ × ℕ → ℕ) (block : List ℕ) → Holds memory r block → SameOutside memory pack r
    → Holds memory pack (left_by (number_of (answer_of place pack.now)) (with_part place block pack.now) pack.now)
