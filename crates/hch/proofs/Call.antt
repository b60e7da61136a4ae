-- What a call looks at first, and what one that is done tells of what was lent.
-- Assumes nothing.
use Prim.Native.Nat.{ℕ}
use mathlib.Core.Path.{◌≡◌}
use mathlib.Core.List.{List}
use Rattle.std.specs.Prelude.{cond, Err}
use Rattle.strings.specs.Call.{number_of}
use Rattle.strings.specs.declared.refusal.Refusal.TheVariants.{KeyLength, TooShort}
use Rattle.strings.proofs.OnMessages as Messages
use Rattle.hch.specs.Hch.{hch}
use Rattle.hch.specs.Call.{answer_of, answer_behind_key}

pub key_first : (key tweak message : List ℕ) → answer_of key tweak message ≡ cond (hch.is_key key) (answer_behind_key tweak message) (Err KeyLength)
key_first key tweak message = Messages.key_first 16 TooShort tweak message hch key

pub admitted : (key tweak message : List ℕ) → number_of (answer_of key tweak message) ≡ 0 → Messages.Admitted 16 tweak message
admitted key tweak message = Messages.admitted 16 TooShort tweak message hch key
