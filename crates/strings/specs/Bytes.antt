-- Byte strings. A byte string is a list of numbers below 256.
use Rattle.std.specs.Prelude.{ℕ, zero, suc, ◌+◌, ◌*◌, ◌/◌, ◌%◌, ◌^◌, ◌<◌, ◌≡◌, Bool, true, false, ◌&&◌, List, [], ◌∷◌, eqb, length, get_or}

-- Every entry is below n.
abbrev pub Below : ℕ → List ℕ → Type 0
Below n s = (i : ℕ) → get_or s i 0 < n

-- Every entry is a byte.
abbrev pub Bytes : List ℕ → Type 0
Bytes = Below 256

-- A string of n bytes.
abbrev pub OfLength : ℕ → List ℕ → Type 0
OfLength n s = (length s ≡ n) × Bytes s

-- The number of a byte string, first byte highest.
unfoldable pub number : List ℕ → ℕ
number [] = 0
number (b ∷ s) = b * 256 ^ length s + number s

-- A number as n bytes, first byte highest. What lies above n bytes is cut.
unfoldable pub bytes : ℕ → ℕ → List ℕ
bytes zero a = []
bytes (suc n) a = a / 256 ^ n % 256 ∷ bytes n a

-- Whether two strings are the same.
unfoldable pub equal : List ℕ → List ℕ → Bool
equal [] [] = true
equal [] (b ∷ t) = false
equal (a ∷ s) [] = false
equal (a ∷ s) (b ∷ t) = eqb a b && equal s t
