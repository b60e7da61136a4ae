-- What a scheme over AES has to show, so that its calls, and what stands above them, are written once.
use Rattle.std.specs.Prelude.{ℕ, ◌≤◌, ◌≡◌, true, List, []}
use Rattle.strings.specs.Cipher.{TweakableCipher, Scheme, Same}
use Rattle.primitives.specs.Aes.{is_key}
use Rattle.primitives.specs.Expanded.{expanded_key}
use Rattle.primitives.specs.declared.aes.ExpandedKey.{ExpandedKey}

-- The scheme S, and the same under a key that was expanded before, for messages of `least` bytes or more.
pub record SchemeLaws (S : Scheme) (under : ExpandedKey → Scheme) (least : ℕ) : Type 0 where
  -- Its keys are AES's; under an expanded key no key is looked at.
  pub keys : (key : List ℕ) → S.is_key key ≡ is_key key
  pub any_key : (expanded : ExpandedKey) (key : List ℕ) → (under expanded).is_key key ≡ true
  -- Under what is made of a key it is the scheme under the key.
  pub same : (key : List ℕ) → S.is_key key ≡ true → Same (under (expanded_key key)) [] S key
  -- It is a tweakable cipher of each length that it takes, under any expanded key.
  pub cipher : (expanded : ExpandedKey) (n : ℕ) → least ≤ n → TweakableCipher 16 n ((under expanded).encipher []) ((under expanded).decipher [])
  -- It takes blocks of 512 bytes.
  pub takes_blocks : least ≤ 512
