-- What the contracts of inner functions cite: nobody has to believe it.
use Rattle.std.specs.Prelude.{ℕ, ◌≡◌, cond, List, eqb, length}
use Rattle.strings.specs.Call.{number_of, left_by}
use Rattle.strings.specs.Cipher.{Cipher, Scheme}
use Rattle.layout.specs.Layout.{tweak}
use Rattle.pack.specs.Opening.{Opened, deciphered_block, answer_of, Meaning}

-- What f makes of a block of 512 bytes; a string of another length stays as it is.
unfoldable pub on_block : (f : List ℕ → List ℕ) → List ℕ → List ℕ
on_block f B = cond (eqb (length B) 512) (f B) B

-- Under this key, and the tweak of this pack and place, the scheme is a cipher of 512 bytes.
abbrev pub CipherAt : (S : Scheme) (key : List ℕ) (pack place : ℕ) → Type 0
CipherAt S key pack place = Cipher 512 (S.encipher key (tweak pack place)) (S.decipher key (tweak pack place))

-- What opening promises: C was lent, `answer` is returned and B is left.
pub record Opens (S : Scheme) (key : List ℕ) (pack place : ℕ) (C : List ℕ) (answer : Opened) (B : List ℕ) : Type 0 where
  pub answered : answer ≡ answer_of S key pack place C
  pub left : B ≡ left_by (number_of answer) (deciphered_block S key pack place C) C
  pub meaning : Meaning S (number_of answer) key pack place C B
