-- HCH under a key that was expanded before.
use Rattle.std.specs.Prelude.{ℕ, true, List, []}
use Rattle.strings.specs.Cipher.{Scheme}
use Rattle.strings.specs.Message.{IsCipher}
use Rattle.primitives.specs.Expanded.{under}
use Rattle.primitives.specs.declared.aes.ExpandedKey.{ExpandedKey}
use Rattle.hch.specs.Hch.{enciphered_by, deciphered_by}

-- With any expanded key. The key is in the scheme: every string is taken for one, and none is looked at.
abbrev pub hch_under : ExpandedKey → Scheme
hch_under expanded = record { is_key = λ key. true; encipher = λ key. enciphered_by (under expanded); decipher = λ key. deciphered_by (under expanded) }

-- Where the call was done, HCH under this expanded key and tweak is a cipher of n bytes.
abbrev pub IsCipherUnder : (number : ℕ) (expanded : ExpandedKey) (tweak : List ℕ) (n : ℕ) → Type 0
IsCipherUnder number expanded tweak n = IsCipher (hch_under expanded) number [] tweak n
