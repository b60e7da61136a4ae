-- Permutations with their inverses, and ciphers of strings.
use Rattle.std.specs.Prelude.{ℕ, ◌≡◌, Bool, List}
use Rattle.strings.specs.Bytes.{OfLength}

-- f and g keep what has P, and each undoes the other there.
pub record Permutation {A : Type 0} (P : A → Type 0) (f g : A → A) : Type 0 where
  pub keeps : (a : A) → P a → P (f a)
  pub inverse_keeps : (a : A) → P a → P (g a)
  pub undone : (a : A) → P a → g (f a) ≡ a
  pub undoes : (a : A) → P a → f (g a) ≡ a

-- A cipher of n bytes and its inverse: each makes strings of n bytes from strings of n bytes and undoes the other.
abbrev pub Cipher : ℕ → (List ℕ → List ℕ) → (List ℕ → List ℕ) → Type 0
Cipher n f g = Permutation (OfLength n) f g

-- A tweakable cipher of n bytes: a cipher and its inverse for each tweak of t bytes.
abbrev pub TweakableCipher : (t n : ℕ) (E D : List ℕ → List ℕ → List ℕ) → Type 0
TweakableCipher t n E D = (T : List ℕ) → OfLength t T → Cipher n (E T) (D T)

-- A tweakable enciphering scheme: which strings are its keys, and what it makes of a message under a key and a tweak, both ways.
pub record Scheme : Type 0 where
  pub is_key : List ℕ → Bool
  pub encipher : (key tweak message : List ℕ) → List ℕ
  pub decipher : (key tweak message : List ℕ) → List ℕ

-- Two schemes, each with a key of its own, that take the key alike and do the same under it.
pub record Same (S : Scheme) (key : List ℕ) (S' : Scheme) (key' : List ℕ) : Type 0 where
  pub takes : S.is_key key ≡ S'.is_key key'
  pub enciphers : S.encipher key ≡ S'.encipher key'
  pub deciphers : S.decipher key ≡ S'.decipher key'
