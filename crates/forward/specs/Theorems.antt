-- The theorems of this crate, each by name. One value of this record, proofs/Theorems.antt, proves them all.
use Rattle.std.specs.Prelude.{ℕ, ◌+◌, ◌*◌, ◌%◌, ◌^◌, ◌≤◌, ◌≡◌, true, List, [], ◌∷◌}
use Rattle.strings.specs.Bytes.{Below, OfLength}
use Rattle.strings.specs.One.{OnePreimage}
use Rattle.strings.specs.Cipher.{Cipher, TweakableCipher, Same}
use Rattle.blocks.specs.Blocks.{IsBlock}
use Rattle.blocks.specs.BlockField.{times_x, ◌·◌, power_sum}
use Rattle.primitives.specs.Expanded.{expanded_key}
use Rattle.forward.specs.Forward.{Feistel, swapped_feistel, encipher, decipher, Parts, Poly, enciphered, deciphered, forward, forward_by}
use Rattle.forward.specs.Expanded.{forward_under}

-- A function from blocks to blocks, invertible or not.
abbrev pub BlockFunction : (ℕ → ℕ) → Type 0
BlockFunction E = (a : ℕ) → IsBlock a → IsBlock (E a)

-- For an example: the function that makes 2 a + 1 of a, cut to 128 digits, and what a program written apart from this one makes of 50 bytes by it.
abbrev pub example_function : ℕ → ℕ
example_function a = (2 * a + 1) % 2 ^ 128

abbrev pub example_tweak : ℕ
example_tweak = 0x000102030405060708090a0b0c0d0e0f

abbrev pub example_plaintext : List ℕ
example_plaintext = 1 ∷ 2 ∷ 3 ∷ 4 ∷ 5 ∷ 6 ∷ 7 ∷ 8 ∷ 9 ∷ 10 ∷ 11 ∷ 12 ∷ 13 ∷ 14 ∷ 15 ∷ 16 ∷ 17 ∷ 18 ∷ 19 ∷ 20 ∷ 21 ∷ 22 ∷ 23 ∷ 24 ∷ 25 ∷ 26 ∷ 27 ∷ 28 ∷ 29 ∷ 30 ∷ 31 ∷ 32 ∷ 33 ∷ 34 ∷ 35 ∷ 36 ∷ 37 ∷ 38 ∷ 39 ∷ 40 ∷ 41 ∷ 42 ∷ 43 ∷ 44 ∷ 45 ∷ 46 ∷ 47 ∷ 48 ∷ 49 ∷ 50 ∷ []

abbrev pub example_ciphertext : List ℕ
example_ciphertext = 226 ∷ 221 ∷ 58 ∷ 154 ∷ 135 ∷ 32 ∷ 173 ∷ 112 ∷ 209 ∷ 189 ∷ 155 ∷ 162 ∷ 172 ∷ 60 ∷ 117 ∷ 34 ∷ 143 ∷ 203 ∷ 200 ∷ 56 ∷ 76 ∷ 233 ∷ 23 ∷ 50 ∷ 9 ∷ 194 ∷ 72 ∷ 232 ∷ 121 ∷ 135 ∷ 201 ∷ 42 ∷ 219 ∷ 39 ∷ 246 ∷ 89 ∷ 178 ∷ 189 ∷ 67 ∷ 181 ∷ 249 ∷ 189 ∷ 253 ∷ 193 ∷ 198 ∷ 17 ∷ 1 ∷ 127 ∷ 203 ∷ 47 ∷ []

pub record Theorems : Type 0 where
  -- Table 2's caption: for every function E, every hash and all blocks, swapping the blocks undoes the Feistel construction.
  pub feistel_undone : (E : ℕ → ℕ) (h : ℕ → List ℕ → ℕ) (τ' A₁ A₂ : ℕ)
      → let B = Feistel E h τ' A₁ A₂ in swapped_feistel E h τ' B.0 B.1 ≡ (A₁, A₂)
  -- For every function E from blocks to blocks, invertible or not, every step by x and every hash that keep blocks, every tweak and every n from 33 on: both ways
  -- keep the messages of n bytes, and each undoes the other.
  pub scheme_cipher : (E times_x : ℕ → ℕ) (h : ℕ → List ℕ → ℕ) → Parts E times_x h → (T n : ℕ) → IsBlock T → 33 ≤ n
      → Cipher n (encipher E times_x h T) (decipher E times_x h T)
  -- And exactly one message of n bytes enciphers to each, deciphering gives it, and the count is 1.
  pub scheme_one_plaintext : (E times_x : ℕ → ℕ) (h : ℕ → List ℕ → ℕ) → Parts E times_x h → (T n : ℕ) → IsBlock T → 33 ≤ n
      → (C : List ℕ) → OfLength n C → OnePreimage n (encipher E times_x h T) C (decipher E times_x h T C)
  -- The hash of the scheme is the paper's: τ times Poly.
  pub polynomial_hash : (τ : ℕ) (Xs : List ℕ) → IsBlock τ → Below (2 ^ 128) Xs → τ · Poly τ Xs ≡ power_sum τ Xs
  -- 01's step by x and polynomial hashing serve every function in the place of AES.
  pub own_parts : (E : ℕ → ℕ) → BlockFunction E → Parts E times_x power_sum
  pub function_cipher : (E : ℕ → ℕ) → BlockFunction E → (n : ℕ) → 33 ≤ n
      → TweakableCipher 16 n ((forward_by E).encipher []) ((forward_by E).decipher [])
  -- Worked out by the checker with a function that has no inverse: 50 bytes, whose last block has 2, enciphered and deciphered.
  pub example_enciphered : encipher example_function times_x power_sum example_tweak example_plaintext ≡ example_ciphertext
  pub example_deciphered : decipher example_function times_x power_sum example_tweak example_ciphertext ≡ example_plaintext
  -- AES's encryption is one of them: the scheme, for every key and every tweak of 16 bytes.
  pub forward_cipher : (key : List ℕ) (n : ℕ) → 33 ≤ n → TweakableCipher 16 n (enciphered key) (deciphered key)
  pub one_plaintext : (key tweak : List ℕ) (n : ℕ) → OfLength 16 tweak → 33 ≤ n
      → (C : List ℕ) → OfLength n C → OnePreimage n (enciphered key tweak) C (deciphered key tweak C)
  -- The scheme under what is made of a key, of either length, is the scheme under the key.
  pub same_expanded : (key : List ℕ) → forward.is_key key ≡ true → Same (forward_under (expanded_key key)) [] forward key
