-- The two calls: what they answer.
use Rattle.std.specs.Prelude.{ℕ, List}
use Rattle.strings.specs.Call.{Answer, Tests, looks_at}
use Rattle.strings.specs.Message as Message
use Rattle.strings.specs.declared.refusal.Refusal.TheVariants.{TooShort}
use Rattle.hch.specs.Hch.{hch}

-- What is looked at behind the key: 01's numbers 2, 3, data under 16 bytes, and 4.
abbrev pub tests_behind_key : (tweak message : List ℕ) → Tests
tests_behind_key = Message.tests_behind_key 16 TooShort

-- 01, "HCH looks at 1, 2, 3, 4 in this order".
abbrev pub tests : (key tweak message : List ℕ) → Tests
tests key tweak message = Message.tests hch 16 TooShort key tweak message

abbrev pub answer_of : (key tweak message : List ℕ) → Answer
answer_of key tweak message = looks_at (tests key tweak message)

-- Under a key that was expanded before, the tests behind it decide.
abbrev pub answer_behind_key : (tweak message : List ℕ) → Answer
answer_behind_key tweak message = looks_at (tests_behind_key tweak message)

-- Where the call was done, enciphering and deciphering under this key and tweak are a cipher of n bytes and its inverse.
abbrev pub IsCipher : (number : ℕ) (key tweak : List ℕ) (n : ℕ) → Type 0
IsCipher = Message.IsCipher hch

-- Demand 3: where the call was done, exactly one message of the length of C enciphers to C, and it is P.
abbrev pub OnePlaintext : (number : ℕ) (key tweak C P : List ℕ) → Type 0
OnePlaintext = Message.OnePlaintext hch
