-- One line of `boardline` and its answer. 01, "For the app, and at the desk". A character is a byte: a space is 32, `E` is 69 and `D` is 68.
use Rattle.std.specs.Prelude.{ℕ, zero, suc, ◌+◌, ◌/◌, ◌%◌, ◌≡◌, cond, ◌&&◌, List, [], ◌∷◌, ◌++◌, leb, ltb, eqb, length, drop}
use Rattle.text.specs.Hex.{hex, is_hex, unhex}
use Rattle.text.specs.Part.{split}
use Rattle.hch.specs.Hch.{enciphered, deciphered}
use Rattle.strings.specs.Call.{number_of}
use Rattle.hch.specs.Call.{answer_of}

-- What a line asks for.
pub data Request : Type 0 where
  Encipher Decipher : (key tweak message : List ℕ) → Request
  Unknown : Request

-- `E` enciphers and `D` deciphers; there is no other command.
unfoldable pub commanded : (command key tweak message : List ℕ) → Request
commanded [] key tweak message = Unknown
commanded (c ∷ []) key tweak message = cond (eqb c 69) (Encipher key tweak message) (cond (eqb c 68) (Decipher key tweak message) Unknown)
commanded (c ∷ d ∷ more) key tweak message = Unknown

-- "A line is `E` or `D`, a space, the key, a space, the tweak, a space, the data, each written in lower-case hexadecimal, two digits a byte; each may
-- be empty": four fields.
unfoldable pub requested : List (List ℕ) → Request
requested [] = Unknown
requested (command ∷ []) = Unknown
requested (command ∷ key ∷ []) = Unknown
requested (command ∷ key ∷ tweak ∷ []) = Unknown
requested (command ∷ key ∷ tweak ∷ message ∷ []) =
    cond (is_hex key && is_hex tweak && is_hex message) (commanded command (unhex key) (unhex tweak) (unhex message)) Unknown
requested (command ∷ key ∷ tweak ∷ message ∷ more ∷ rest) = Unknown

-- "It is at most 8,300 characters before its line feed. All else, an empty line too, is number 9." The fields stand between the spaces.
unfoldable pub request_of : List ℕ → Request
request_of line = cond (leb (length line) 8300) (requested (split 32 line)) Unknown

-- The last k decimal digits of a number, the most significant first. The character `0` is 48.
abbrev pub last_digits : ℕ → ℕ → List ℕ
last_digits zero n = []
last_digits (suc k) n = last_digits k (n / 10) ++ (48 + n % 10) ∷ []

-- A number below 100 in decimal.
unfoldable pub decimal : ℕ → List ℕ
decimal n = last_digits (cond (ltb n 10) 1 2) n

-- "`no `, the number in decimal, and a line feed".
unfoldable pub refusal : ℕ → List ℕ
refusal n = 110 ∷ 111 ∷ 32 ∷ decimal n ++ 10 ∷ []

-- "The result in the same digits", and a line feed: where the number is 0 the call was done, and left these bytes.
unfoldable pub reply : ℕ → List ℕ → List ℕ
reply zero work = hex work ++ 10 ∷ []
reply (suc n) work = refusal (suc n)

-- The answer to what was asked, as the library's calls have it.
unfoldable pub reply_to : Request → List ℕ
reply_to (Encipher key tweak message) = reply (number_of (answer_of key tweak message)) (enciphered key tweak message)
reply_to (Decipher key tweak message) = reply (number_of (answer_of key tweak message)) (deciphered key tweak message)
reply_to Unknown = refusal 9

-- The answer, with its line feed, to a line of any content and length, which is taken without its own.
unfoldable pub answer : List ℕ → List ℕ
answer line = reply_to (request_of line)

-- What a function that writes an answer promises: how many bytes it wrote, and what is then left in `out`, those bytes and behind them what stood there.
pub record Written (bytes : List ℕ) (count : ℕ) (out left : List ℕ) : Type 0 where
  pub counted : count ≡ length bytes
  pub written : left ≡ bytes ++ drop (length bytes) out
