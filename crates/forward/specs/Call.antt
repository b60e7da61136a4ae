-- The two calls: what they answer.
use Rattle.std.specs.Prelude.{ℕ, List}
use Rattle.strings.specs.Call.{Answer, Tests, looks_at}
use Rattle.strings.specs.Message as Message
use Rattle.strings.specs.declared.refusal.Refusal.TheVariants.{ForwardTooShort}
use Rattle.forward.specs.Forward.{forward}

-- What is looked at behind the key: 2, 13, data under 33 bytes, and 4.
abbrev pub tests_behind_key : (tweak message : List ℕ) → Tests
tests_behind_key = Message.tests_behind_key 33 ForwardTooShort

-- 02, Point 5, "13, data under 33 bytes for this scheme; it stands where 3 stood in the order": 1, 2, 13, 4.
abbrev pub tests : (key tweak message : List ℕ) → Tests
tests key tweak message = Message.tests forward 33 ForwardTooShort key tweak message

abbrev pub answer_of : (key tweak message : List ℕ) → Answer
answer_of key tweak message = looks_at (tests key tweak message)

-- Under a key that was expanded before, the tests behind it decide.
abbrev pub answer_behind_key : (tweak message : List ℕ) → Answer
answer_behind_key tweak message = looks_at (tests_behind_key tweak message)
