-- Bytes that are compared, from the last on.
-- Assumes nothing.
use Prim.Native.Nat.{ℕ, ◌+◌, ◌/◌, ◌%◌, ◌^◌, ◌<◌}
use mathlib.Core.Path.{◌≡◌}
use mathlib.Core.Bool.{Bool, ◌&&◌}
use mathlib.Core.List.{List}
use native.Mathlib.Numerals.{add-one}
use native.Mathlib.Omega.{arith}
use lib.Bits.{bit_or, bit_xor, or_comm, or_add_and, and_le_l, and_le_r, xor_add_and}
use lib.Dec.{eqb}
use lib.ListN.{length, get_or, drop}
use lib.Seq.{drop-cons}
use Rattle.std.proofs.lemmas.Grind.{common_steps}
use Rattle.strings.specs.Bytes.{bytes, equal}

-- Differences are gathered by `or`: there is none where no byte differs.
none_differ : (c d : ℕ) → eqb (bit_or c d) 0 ≡ (eqb c 0 && eqb d 0)
none_differ c d = grind (arith, common_steps, or_add_and, and_le_l, and_le_r)

-- Four parts, each compared by itself.
pub none_of_four : (a b c d : ℕ) {p q r s : Bool} → eqb a 0 ≡ p → eqb b 0 ≡ q → eqb c 0 ≡ r → eqb d 0 ≡ s
    → eqb (bit_or (bit_or (bit_or a b) c) d) 0 ≡ (p && q && r && s)
none_of_four a b c d e f g h = rw (none_differ (bit_or (bit_or a b) c) d, none_differ (bit_or a b) c, none_differ a b, e, f, g, h)

differ_by : (a b : ℕ) → eqb (bit_xor a b) 0 ≡ eqb a b
differ_by a b = grind (arith, common_steps, xor_add_and, and_le_l, and_le_r)

-- Comparing a number's bytes: the next byte.
pub differ_next : (s : List ℕ) (k n w d : ℕ) → k < length s → eqb d 0 ≡ equal (drop (k + 1) s) (bytes n w)
    → eqb (bit_or d (bit_xor (get_or s k 0) (w / 256 ^ n % 256))) 0 ≡ equal (drop k s) (bytes (n + 1) w)
unfolding bytes equal
differ_next s k n w d l h =
    let byte = w / 256 ^ n % 256 in
    rw (or_comm d (bit_xor (get_or s k 0) byte), none_differ, differ_by, h, add-one n, drop-cons s k 0 l, add-one k)
