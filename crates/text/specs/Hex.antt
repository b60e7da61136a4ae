-- Lower-case hexadecimal: a byte is two digits, the high one first.
use Rattle.std.specs.Prelude.{ℕ, ◌+◌, ◌-◌, ◌*◌, ◌/◌, ◌%◌, Bool, true, cond, ◌&&◌, ◌||◌, List, [], ◌∷◌, ltb, leb, eqb, length}

-- The character of a number below 16: `0` is 48, and `a`, for ten, is 97.
unfoldable pub digit : ℕ → ℕ
digit n = cond (ltb n 10) (48 + n) (87 + n)

-- Whether c is one of `0` to `9` or `a` to `f`.
unfoldable pub is_digit : ℕ → Bool
is_digit c = leb 48 c && leb c 57 || leb 97 c && leb c 102

-- The number that a digit stands for.
unfoldable pub value : ℕ → ℕ
value c = cond (leb c 57) (c - 48) (c - 87)

-- Bytes as text.
unfoldable pub hex : List ℕ → List ℕ
hex [] = []
hex (b ∷ bs) = digit (b / 16) ∷ digit (b % 16) ∷ hex bs

-- Whether each character is a digit.
unfoldable pub all_digits : List ℕ → Bool
all_digits [] = true
all_digits (c ∷ s) = is_digit c && all_digits s

-- Whether s is an even number of digits.
unfoldable pub is_hex : List ℕ → Bool
is_hex s = eqb (length s % 2) 0 && all_digits s

-- Text as bytes, two digits each.
unfoldable pub unhex : List ℕ → List ℕ
unhex [] = []
unhex (c ∷ []) = []
unhex (c ∷ d ∷ s) = (value c * 16 + value d) ∷ unhex s
