-- Two schemes that do the same under their keys seal and open alike.
-- Assumes nothing.
use Prim.Native.Nat.{ℕ}
use mathlib.Core.Path.{◌≡◌, ap}
use mathlib.Core.List.{List}
use Rattle.strings.specs.Cipher.{TweakableCipher, Scheme, Same}
use Rattle.layout.specs.Layout.{plain_block, tweak}
use Rattle.pack.specs.Sealing.{seal}
use Rattle.pack.specs.Opening.{deciphered_block, answer_of}

module _ {S S' : Scheme} {key key' : List ℕ} (same : Same S key S' key') where
  pub same_cipher : (t n : ℕ) → TweakableCipher t n (S.encipher key) (S.decipher key) → TweakableCipher t n (S'.encipher key') (S'.decipher key')
  same_cipher t n cipher = rw (same.enciphers, same.deciphers) at cipher

  pub same_seal : (payload : List ℕ) (pack place : ℕ) → seal S key payload pack place ≡ seal S' key' payload pack place
  unfolding seal
  same_seal payload pack place = ap (λ (f : List ℕ → List ℕ → List ℕ). f (tweak pack place) (plain_block payload pack place)) same.enciphers

  pub same_deciphered : (pack place : ℕ) (C : List ℕ) → deciphered_block S key pack place C ≡ deciphered_block S' key' pack place C
  unfolding deciphered_block
  same_deciphered pack place C = ap (λ (f : List ℕ → List ℕ → List ℕ). f (tweak pack place) C) same.deciphers

  pub same_answer : (pack place : ℕ) (C : List ℕ) → answer_of S key pack place C ≡ answer_of S' key' pack place C
  same_answer pack place C = rw (same.takes, same_deciphered pack place C)
