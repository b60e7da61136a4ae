-- The encryption-only scheme of Sarkar, source document 000, in its form TES[MCTR, h, KeyDef1], over any function E from blocks to blocks, any step by x and
-- any hash h of a key and a list of blocks. A block is a number below 2 ^ 128 and a message P is a string of bytes, 33 or more; the paper's n is 128. The bodies
-- of the paper's Tables 1 and 2 are lost in our text: docs/DECISIONS.md says which of its lines give each step back.
use Rattle.std.specs.Prelude.{ℕ, ◌*◌, ◌^◌, true, List, [], ◌∷◌, ◌++◌, length, take, drop}
use Rattle.strings.specs.Xor.{◌⊕◌}
use Rattle.strings.specs.Bytes.{Below, number, bytes}
use Rattle.strings.specs.Cipher.{Scheme}
use Rattle.blocks.specs.Blocks.{blocks, string, IsBlock, bin}
use Rattle.blocks.specs.BlockField.{times_x, ◌·◌, power_sum}
use Rattle.blocks.specs.Field.{power}
use Rattle.blocks.specs.Counter.{masked, φ}
use Rattle.primitives.specs.Aes.{is_key, aes}

-- What stands behind the first two blocks of a message: the bytes of P₃, …, Pₘ.
abbrev pub behind_two : List ℕ → List ℕ
behind_two P = drop 32 P

-- Table 3, KeyDef1, line by line: the hash key (τ, τ', β₁, β₂), from the tweak T and the length l in bits.
pub record HashKey : Type 0 where
  pub τ : ℕ
  pub τ' : ℕ
  pub β₁ : ℕ
  pub β₂ : ℕ

module _ (E times_x : ℕ → ℕ) where
  unfoldable pub KeyDef1 : (T l : ℕ) → HashKey
  KeyDef1 T l =
      -- 1. γ = E(T)
      let γ = E T in
      -- 2. β₁ = E(γ ⊕ bin(l))
      let β₁ = E (γ ⊕ bin l) in
      -- 3. β₂ = φ with β₁ at 1
      let β₂ = φ times_x β₁ 1 in
      -- 4. τ = γ
      let τ = γ in
      -- 5. τ' = E(φ with β₁ at 2)
      let τ' = E (φ times_x β₁ 2) in
      record { τ = τ; τ' = τ'; β₁ = β₁; β₂ = β₂ }

  -- "Definition of the basic modes of operations", MCTR: block i of the list, from 1 on, gets E(Sᵢ) added, with Sᵢ = φ with β at i - 1, ⊕ S.
  unfoldable pub MCTR : (β S : ℕ) → List ℕ → List ℕ
  MCTR β S Xs = masked (λ i. E (φ times_x β i ⊕ S)) 0 Xs

-- Formula (1): Υ with τ over X₁, X₂, X₃, …, Xₘ.
module _ (h : ℕ → List ℕ → ℕ) where
  unfoldable pub Υ : (τ X₁ X₂ : ℕ) (X₃…Xₘ : List ℕ) → ℕ × ℕ
  Υ τ X₁ X₂ X₃…Xₘ =
      let Z = h τ X₃…Xₘ in
      (X₁ ⊕ Z, X₂ ⊕ Z)

-- Table 2: the four rounds of the Feistel construction, with τ', from A₁, A₂ to B₁, B₂. Section 3.1 names what goes into E.
module _ (E : ℕ → ℕ) (h : ℕ → List ℕ → ℕ) where
  unfoldable pub Feistel : (τ' A₁ A₂ : ℕ) → ℕ × ℕ
  Feistel τ' A₁ A₂ =
      let F₁ = h τ' (A₁ ∷ []) ⊕ A₂ in
      let F₂ = A₁ ⊕ E F₁ in
      let B₂ = F₁ ⊕ E F₂ in
      let B₁ = F₂ ⊕ h τ' (B₂ ∷ []) in
      (B₁, B₂)

  -- Its caption: "if the two input blocks are swapped then decryption can be done using the encryption module". What comes out is swapped too.
  unfoldable pub swapped_feistel : (τ' B₁ B₂ : ℕ) → ℕ × ℕ
  swapped_feistel τ' B₁ B₂ =
      let A : ℕ × ℕ = Feistel τ' B₂ B₁ in
      (A.1, A.0)

-- Table 1; the numbers of its steps are ours. P₃…Mₘ and the like are lists of blocks, P₃…Pₘ and C₃…Cₘ the bytes behind the first two blocks.
module _ (E times_x : ℕ → ℕ) (h : ℕ → List ℕ → ℕ) where
  unfoldable pub encipher : ℕ → List ℕ → List ℕ
  encipher T P =
      let P₁ = number (take 16 P) in
      let P₂ = number (take 16 (drop 16 P)) in
      let P₃…Pₘ = behind_two P in
      -- 1. The hash key, by KeyDef1
      let k = KeyDef1 E times_x T (8 * length P) in
      -- 2. Mₘ = pad(Pₘ); A₁, A₂ = Υ with τ over P₁ ⊕ β₁, P₂ ⊕ β₁, P₃, …, Pₘ₋₁, Mₘ
      let P₃…Mₘ = blocks P₃…Pₘ in
      let A : ℕ × ℕ = Υ h k.τ (P₁ ⊕ k.β₁) (P₂ ⊕ k.β₁) P₃…Mₘ in
      -- 3. B₁, B₂ = Feistel with τ' over A₁, A₂
      let B : ℕ × ℕ = Feistel E h k.τ' A.0 A.1 in
      -- 4. M = A₁ ⊕ A₂ ⊕ B₁ ⊕ B₂; C₃, …, Cₘ₋₁, Dₘ = MCTR with β₁ and M over P₃, …, Pₘ₋₁, Mₘ
      let M = A.0 ⊕ A.1 ⊕ B.0 ⊕ B.1 in
      let C₃…Dₘ = MCTR E times_x k.β₁ M P₃…Mₘ in
      -- Cₘ = drop(Dₘ), to the length of Pₘ; Uₘ = pad(Cₘ)
      let C₃…Cₘ = take (length P₃…Pₘ) (string C₃…Dₘ) in
      let C₃…Uₘ = blocks C₃…Cₘ in
      -- 5. C₁, C₂ = Υ with τ over B₁ ⊕ β₂, B₂ ⊕ β₂, C₃, …, Cₘ₋₁, Uₘ
      let C : ℕ × ℕ = Υ h k.τ (B.0 ⊕ k.β₂) (B.1 ⊕ k.β₂) C₃…Uₘ in
      (bytes 16 C.0 ++ bytes 16 C.1) ++ C₃…Cₘ

  unfoldable pub decipher : ℕ → List ℕ → List ℕ
  decipher T C =
      let C₁ = number (take 16 C) in
      let C₂ = number (take 16 (drop 16 C)) in
      let C₃…Cₘ = behind_two C in
      -- 1. The hash key, by KeyDef1
      let k = KeyDef1 E times_x T (8 * length C) in
      -- 2. Uₘ = pad(Cₘ); B₁, B₂ = Υ with τ over C₁ ⊕ β₂, C₂ ⊕ β₂, C₃, …, Cₘ₋₁, Uₘ
      let C₃…Uₘ = blocks C₃…Cₘ in
      let B : ℕ × ℕ = Υ h k.τ (C₁ ⊕ k.β₂) (C₂ ⊕ k.β₂) C₃…Uₘ in
      -- 3. A₁, A₂ = the Feistel with τ' over B₁, B₂, its blocks swapped
      let A : ℕ × ℕ = swapped_feistel E h k.τ' B.0 B.1 in
      -- 4. M = A₁ ⊕ A₂ ⊕ B₁ ⊕ B₂; P₃, …, Pₘ₋₁, Vₘ = MCTR with β₁ and M over C₃, …, Cₘ₋₁, Uₘ
      let M = A.0 ⊕ A.1 ⊕ B.0 ⊕ B.1 in
      let P₃…Vₘ = MCTR E times_x k.β₁ M C₃…Uₘ in
      -- Pₘ = drop(Vₘ), to the length of Cₘ; Mₘ = pad(Pₘ)
      let P₃…Pₘ = take (length C₃…Cₘ) (string P₃…Vₘ) in
      let P₃…Mₘ = blocks P₃…Pₘ in
      -- 5. P₁, P₂ = Υ with τ over A₁ ⊕ β₁, A₂ ⊕ β₁, P₃, …, Pₘ₋₁, Mₘ
      let P : ℕ × ℕ = Υ h k.τ (A.0 ⊕ k.β₁) (A.1 ⊕ k.β₁) P₃…Mₘ in
      (bytes 16 P.0 ++ bytes 16 P.1) ++ P₃…Pₘ

-- What the theorems ask of the parts: that they keep blocks. E need not be invertible.
pub record Parts (E times_x : ℕ → ℕ) (h : ℕ → List ℕ → ℕ) : Type 0 where
  pub function_keeps : (a : ℕ) → IsBlock a → IsBlock (E a)
  pub step_keeps : (a : ℕ) → IsBlock a → IsBlock (times_x a)
  pub hash_keeps : (τ : ℕ) (Xs : List ℕ) → IsBlock τ → Below (2 ^ 128) Xs → IsBlock (h τ Xs)

-- "Usual polynomial hashing", Poly with τ over X₁, …, Xₘ: τ ^ (m - 1) X₁ ⊕ … ⊕ τ Xₘ₋₁ ⊕ Xₘ. The hash is τ times this. By the theorem `polynomial_hash` that is
-- X₁ τ ^ m ⊕ … ⊕ Xₘ τ, `power_sum` of the blocks' BlockField.antt.
unfoldable pub Poly : ℕ → List ℕ → ℕ
Poly τ [] = 0
Poly τ (X ∷ Xs) = power 1 ◌·◌ τ (length Xs) · X ⊕ Poly τ Xs

-- ---- with 01's field, polynomial hashing, and any function E

unfoldable pub enciphered_by : (ℕ → ℕ) → List ℕ → List ℕ → List ℕ
enciphered_by E tweak P = encipher E times_x power_sum (number tweak) P

unfoldable pub deciphered_by : (ℕ → ℕ) → List ℕ → List ℕ → List ℕ
deciphered_by E tweak C = decipher E times_x power_sum (number tweak) C

-- ---- with AES's encryption under the key

unfoldable pub enciphered : List ℕ → List ℕ → List ℕ → List ℕ
enciphered key = enciphered_by (aes key).E

unfoldable pub deciphered : List ℕ → List ℕ → List ℕ → List ℕ
deciphered key = deciphered_by (aes key).E

abbrev pub forward : Scheme
forward = record { is_key = is_key; encipher = enciphered; decipher = deciphered }

-- With any function E from blocks to blocks in the place of AES. The function is in the scheme: every string is taken for a key, and none is looked at.
abbrev pub forward_by : (ℕ → ℕ) → Scheme
forward_by E = record { is_key = λ key. true; encipher = λ key. enciphered_by E; decipher = λ key. deciphered_by E }
