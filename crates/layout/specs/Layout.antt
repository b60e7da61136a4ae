-- The 512-byte block of 01, sentence by sentence, and when a block is zero, from Point 4 of 02. Numbers are big-endian: `bytes n a` is a in n bytes.
use Rattle.std.specs.Prelude.{ℕ, ◌-◌, Bool, ◌&&◌, List, ◌++◌, leb, length, take, drop, replicate}
use Rattle.strings.specs.Bytes.{number, bytes, equal}

-- 01, "Bytes 496 to 511 and the zero filling are the block's own check": all that stands behind a payload of u bytes.
unfoldable pub check : (u pack place : ℕ) → List ℕ
check u pack place =
    -- u to 495: the filling, zeros
    replicate (496 - u) 0
    -- 496 to 503: the pack number
    ++ bytes 8 pack
    -- 504 to 507: the place
    ++ bytes 4 place
    -- 508 to 509: u
    ++ bytes 2 u
    -- 510 to 511: zeros
    ++ replicate 2 0

-- 01, "A plain block has, at bytes 0 to 495, the payload of u bytes and then zeros", and so on.
unfoldable pub plain_block : (payload : List ℕ) (pack place : ℕ) → List ℕ
plain_block payload pack place = payload ++ check (length payload) pack place

-- 01, "The tweak is the pack number in 8 bytes, four zero bytes, and the place in 4 bytes".
unfoldable pub tweak : (pack place : ℕ) → List ℕ
tweak pack place = bytes 8 pack ++ replicate 4 0 ++ bytes 4 place

-- u, where it stands in a plain block.
unfoldable pub used : List ℕ → ℕ
used B = number (take 2 (drop 508 B))

-- The payload that a plain block begins with: its first u bytes.
abbrev pub payload_of : List ℕ → List ℕ
payload_of B = take (used B) B

-- 01, "compares all of the check with the pack and place that it was given (a u over 496 fails)".
unfoldable pub passes : (pack place : ℕ) → List ℕ → Bool
passes pack place B = leb (used B) 496 && equal (drop (used B) B) (check (used B) pack place)

-- 02, Point 4, "all 512 lent bytes are zero".
unfoldable pub is_zero : List ℕ → Bool
is_zero C = equal C (replicate 512 0)
