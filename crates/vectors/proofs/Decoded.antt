-- The bytes of a field have room where `text` says how many they are, and a field in front of a space is within its line.
-- Assumes nothing.
use Rattle.std.proofs.Common.{◌≡◌, Some, ℕ, ◌*◌, ◌≤◌, ◌<◌, List, length}
use Rattle.text.specs.Inner.{decoded_of, field_of}
use Rattle.text.proofs.Digits.{decoded_is, field_is}

pub decoded_fits : (s out : List ℕ) (n : ℕ) → decoded_of s out ≡ Some n → n ≤ length out
decoded_fits s out n e = (decoded_is s out n e).2

pub field_fits : (b : ℕ) (s out : List ℕ) (n : ℕ) → field_of b s out ≡ Some n → n ≤ length out
field_fits b s out n e = (field_is b s out n e).3

pub field_ends : (b : ℕ) (s out : List ℕ) (n : ℕ) → field_of b s out ≡ Some n → 2 * n < length s
field_ends b s out n e = (field_is b s out n e).2

-- The three, for a function that reads a field.
pub ruleset decoded = (decoded_fits, field_fits, field_ends)
