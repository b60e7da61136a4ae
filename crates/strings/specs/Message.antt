-- The calls of a scheme on a message, both ways: what they look at, and what it means that they were done. A scheme takes messages of `least` bytes
-- or more, and `short` is why it refuses one that has fewer.
use Rattle.std.specs.Prelude.{ℕ, ◌≡◌, not, List, [], ◌∷◌, ltb, eqb, length}
use Rattle.strings.specs.Cipher.{Cipher, Scheme}
use Rattle.strings.specs.One.{OnePreimage}
use Rattle.strings.specs.Call.{Tests}
use Rattle.strings.specs.declared.refusal.Refusal.{Refusal}
use Rattle.strings.specs.declared.refusal.Refusal.TheVariants.{KeyLength, TweakLength, TooLong}

module _ (least : ℕ) (short : Refusal) where
  -- What is looked at behind the key, in this order.
  abbrev pub tests_behind_key : (tweak message : List ℕ) → Tests
  tests_behind_key tweak message =
      (not (eqb (length tweak) 16), TweakLength)
      ∷ (ltb (length message) least, short)
      ∷ (ltb 4096 (length message), TooLong)
      ∷ []

module _ (S : Scheme) where
  -- The key is looked at first.
  abbrev pub tests : (least : ℕ) (short : Refusal) (key tweak message : List ℕ) → Tests
  tests least short key tweak message = (not (S.is_key key), KeyLength) ∷ tests_behind_key least short tweak message

  -- Where the call was done, enciphering and deciphering under this key and tweak are a cipher of n bytes and its inverse.
  abbrev pub IsCipher : (number : ℕ) (key tweak : List ℕ) (n : ℕ) → Type 0
  IsCipher number key tweak n = number ≡ 0 → Cipher n (S.encipher key tweak) (S.decipher key tweak)

  -- Demand 3: where the call was done, exactly one message of the length of C enciphers to C, and it is P.
  abbrev pub OnePlaintext : (number : ℕ) (key tweak C P : List ℕ) → Type 0
  OnePlaintext number key tweak C P = number ≡ 0 → OnePreimage (length C) (S.encipher key tweak) C P
