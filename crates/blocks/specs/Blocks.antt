-- Blocks. A block is a number below 2 ^ 128: its 16 bytes read first byte highest, so that binary digit i is the coefficient of the
-- power i of x.
use Rattle.std.specs.Prelude.{ℕ, zero, suc, ◌+◌, ◌-◌, ◌/◌, ◌%◌, ◌^◌, ◌<◌, List, [], ◌∷◌, ◌++◌, length, take, drop, replicate}
use Rattle.strings.specs.Bytes.{number, bytes}

abbrev pub IsBlock : ℕ → Type 0
IsBlock b = b < 2 ^ 128

-- 01, "bin(l) is l as a 16-byte big-endian number": as a block it is l itself, cut where 16 bytes do not hold it.
unfoldable pub bin : ℕ → ℕ
bin l = l % 2 ^ 128

-- 01, "Padding appends zero bytes up to 16".
unfoldable pub pad : List ℕ → List ℕ
pad s = s ++ replicate (16 - length s) 0

-- The first block of a string, padded where the string is shorter.
unfoldable pub first_block : List ℕ → ℕ
first_block s = number (pad (take 16 s))

-- The first m blocks of a string.
unfoldable pub cut : ℕ → List ℕ → List ℕ
cut zero s = []
cut (suc m) s = first_block s ∷ cut m (drop 16 s)

-- The blocks of a string, the last padded: 01's P_1 to P_m, "where the last may hold 1 to 16 bytes".
unfoldable pub blocks : List ℕ → List ℕ
blocks s = cut ((length s + 15) / 16) s

-- Blocks as a string, 16 bytes each.
unfoldable pub string : List ℕ → List ℕ
string [] = []
string (b ∷ bs) = bytes 16 b ++ string bs
