-- The scheme is a cipher of n bytes for every n from 32 on: each direction is one pass, and the passes undo each other.
-- Assumes nothing.
use Prim.Native.Nat.{ℕ, zero, suc, ◌-◌, ◌*◌, ◌^◌, ◌≤◌}
use mathlib.Core.Path.{◌≡◌, ap}
use mathlib.Core.List.{List, [], ◌∷◌}
use native.Mathlib.Omega.{arith}
use lib.ListN.{length, take, drop}
use lib.Pow.{pow_pos}
use lib.Seq.{take-add, take-take, drop_at, length-take-le}
use Rattle.strings.specs.Xor.{◌⊕◌}
use Rattle.strings.specs.Bytes.{Below, OfLength, number}
use Rattle.strings.specs.Cipher.{Permutation, Cipher}
use Rattle.blocks.specs.Blocks.{blocks, IsBlock, bin}
use Rattle.blocks.specs.Counter.{masked_bytes, φ}
use Rattle.strings.proofs.Xor.{xor_assoc, xor_comm, xor_below, xor_cancel_right, xor_laws}
use Rattle.strings.proofs.Pass.{pair, pass, pass_cipher}
use Rattle.strings.proofs.Permutations.{agreeing}
use Rattle.blocks.proofs.Blocks.{bin_below, blocks_below}
use Rattle.blocks.proofs.Counter.{counter_cipher}
use Rattle.blocks.proofs.Fronts.{one_block, two_blocks}
use Rattle.forward.specs.Forward.{HashKey, KeyDef1, MCTR, Υ, Feistel, swapped_feistel, encipher, decipher, Parts}
use Rattle.forward.specs.Inner.{mctr_bytes, from_m}

-- ---- the Feistel construction

-- Swapping the blocks undoes it, and is undone by it.
module _ (E : ℕ → ℕ) (h : ℕ → List ℕ → ℕ) (τ' : ℕ) where
  pub feistel_undone : (A₁ A₂ : ℕ) → let B = Feistel E h τ' A₁ A₂ in swapped_feistel E h τ' B.0 B.1 ≡ (A₁, A₂)
  unfolding Feistel swapped_feistel
  feistel_undone A₁ A₂ =
      let F₁ : ℕ = h τ' (A₁ ∷ []) ⊕ A₂ in
      let F₂ : ℕ = A₁ ⊕ E F₁ in
      let B₂ : ℕ = F₁ ⊕ E F₂ in
      let second : h τ' (B₂ ∷ []) ⊕ (F₂ ⊕ h τ' (B₂ ∷ [])) ≡ F₂ = rw (xor_comm (h τ' (B₂ ∷ [])) (F₂ ⊕ h τ' (B₂ ∷ []))) (xor_cancel_right F₂ (h τ' (B₂ ∷ []))) in
      rw (second, xor_cancel_right F₁ (E F₂), xor_cancel_right A₁ (E F₁), xor_comm (h τ' (A₁ ∷ [])) A₂, xor_cancel_right A₂ (h τ' (A₁ ∷ [])))

  feistel_undoes : (B₁ B₂ : ℕ) → let A = swapped_feistel E h τ' B₁ B₂ in Feistel E h τ' A.0 A.1 ≡ (B₁, B₂)
  unfolding swapped_feistel
  feistel_undoes B₁ B₂ = ap (λ (p : ℕ × ℕ). (p.1, p.0)) (feistel_undone B₂ B₁)

-- Two blocks, and the construction on them.
abbrev AreBlocks : ℕ × ℕ → Type 0
AreBlocks p = IsBlock p.0 × IsBlock p.1

module _ {E times_x : ℕ → ℕ} {h : ℕ → List ℕ → ℕ} (parts : Parts E times_x h) {τ' : ℕ} (hτ' : IsBlock τ') where
  one_below : (X : ℕ) → IsBlock X → Below (2 ^ 128) (X ∷ [])
  one_below X hX zero = hX
  one_below X hX (suc i) = pow_pos 128

  feistel_below : (A₁ A₂ : ℕ) → IsBlock A₁ → IsBlock A₂ → AreBlocks (Feistel E h τ' A₁ A₂)
  unfolding Feistel
  feistel_below A₁ A₂ h₁ h₂ =
      let hashed : (X : ℕ) → IsBlock X → IsBlock (h τ' (X ∷ [])) = λ X hX. parts.hash_keeps τ' (X ∷ []) hτ' (one_below X hX) in
      let F₁ : ℕ = h τ' (A₁ ∷ []) ⊕ A₂ in
      let hF₁ : IsBlock F₁ = xor_below 128 (hashed A₁ h₁) h₂ in
      let F₂ : ℕ = A₁ ⊕ E F₁ in
      let hF₂ : IsBlock F₂ = xor_below 128 h₁ (parts.function_keeps F₁ hF₁) in
      let B₂ : ℕ = F₁ ⊕ E F₂ in
      let hB₂ : IsBlock B₂ = xor_below 128 hF₁ (parts.function_keeps F₂ hF₂) in
      (xor_below 128 hF₂ (hashed B₂ hB₂), hB₂)

  feistel_permutation : Permutation AreBlocks (λ A. Feistel E h τ' A.0 A.1) (λ B. swapped_feistel E h τ' B.0 B.1)
  unfolding swapped_feistel
  feistel_permutation = record {
    keeps = λ A k. feistel_below A.0 A.1 k.0 k.1;
    inverse_keeps = λ B k.
        let A = feistel_below B.1 B.0 k.1 k.0 in
        (A.1, A.0);
    undone = λ A k. feistel_undone E h τ' A.0 A.1;
    undoes = λ B k. feistel_undoes E h τ' B.0 B.1;
  }

-- ---- each direction is one pass

-- The counter step is its own inverse.
mctr_cipher : (E times_x : ℕ → ℕ) (β S n : ℕ) → Cipher n (mctr_bytes E times_x β S) (mctr_bytes E times_x β S)
unfolding mctr_bytes
mctr_cipher E times_x β S n = counter_cipher (λ i. E (φ times_x β i ⊕ S)) 0 n

-- Formula (1) adds to both blocks the hash of the others, and β was added before.
unfoldable others : (h : ℕ → List ℕ → ℕ) (τ β : ℕ) → List ℕ → ℕ × ℕ
others h τ β s =
    let Z = β ⊕ h τ (blocks s) in
    (Z, Z)

hashed : (h : ℕ → List ℕ → ℕ) (τ β X₁ X₂ : ℕ) (s : List ℕ)
    → let Z = β ⊕ h τ (blocks s) in Υ h τ (X₁ ⊕ β) (X₂ ⊕ β) (blocks s) ≡ (X₁ ⊕ Z, X₂ ⊕ Z)
unfolding Υ
hashed h τ β X₁ X₂ s = rw (xor_assoc X₁ β (h τ (blocks s)), xor_assoc X₂ β (h τ (blocks s)))

-- The first two blocks of a string.
first_two : (s : List ℕ) → 32 ≤ length s → (take 16 (take 32 s) ≡ take 16 s) × (drop 16 (take 32 s) ≡ take 16 (drop 16 s))
first_two s l =
    let front : length (take 16 s) ≡ 16 = length-take-le 16 s (omega (arith, l)) in
    (take-take 16 32 s (omega arith), rw (take-add 16 16 s) (drop_at (take 16 s) (take 16 (drop 16 s)) 16 front))

-- From the first hash on: F is the Feistel or its swapped form, and the two keys are β₁ and β₂, or β₂ and β₁.
one_pass : (E times_x : ℕ → ℕ) (h : ℕ → List ℕ → ℕ) (F : ℕ → ℕ → ℕ × ℕ) (τ β₁ β β' : ℕ) (s : List ℕ) → 32 ≤ length s
    → let A = Υ h τ (number (take 16 s) ⊕ β) (number (take 16 (drop 16 s)) ⊕ β) (blocks (drop 32 s)) in
    let B = F A.0 A.1 in
    from_m E times_x h τ β₁ β' (A.0 ⊕ A.1 ⊕ B.0 ⊕ B.1) B (drop 32 s)
    ≡ pass two_blocks (λ A. F A.0 A.1) (others h τ β) (others h τ β') (λ p. mctr_bytes E times_x β₁ (p.0 ⊕ p.1)) s
unfolding from_m pass others two_blocks pair one_block
one_pass E times_x h F τ β₁ β β' s l =
    let y : List ℕ = drop 32 s in
    let X₁ : ℕ = number (take 16 s) in
    let X₂ : ℕ = number (take 16 (drop 16 s)) in
    let Z : ℕ = h τ (blocks y) in
    let A : ℕ × ℕ = (X₁ ⊕ (β ⊕ Z), X₂ ⊕ (β ⊕ Z)) in
    let B : ℕ × ℕ = F A.0 A.1 in
    let M : A.0 ⊕ A.1 ⊕ B.0 ⊕ B.1 ≡ A.0 ⊕ B.0 ⊕ (A.1 ⊕ B.1) = simp xor_laws in
    rw ((first_two s l).0, (first_two s l).1, hashed h τ β X₁ X₂ y, M, hashed h τ β' B.0 B.1 (mctr_bytes E times_x β₁ (A.0 ⊕ B.0 ⊕ (A.1 ⊕ B.1)) y))

encipher_pass : (E times_x : ℕ → ℕ) (h : ℕ → List ℕ → ℕ) (T : ℕ) (s : List ℕ) → 32 ≤ length s
    → let K = KeyDef1 E times_x T (8 * length s) in
    encipher E times_x h T s
    ≡ pass two_blocks (λ A. Feistel E h K.τ' A.0 A.1) (others h K.τ K.β₁) (others h K.τ K.β₂) (λ p. mctr_bytes E times_x K.β₁ (p.0 ⊕ p.1)) s
unfolding encipher from_m mctr_bytes masked_bytes MCTR
encipher_pass E times_x h T s =
    let K = KeyDef1 E times_x T (8 * length s) in
    one_pass E times_x h (Feistel E h K.τ') K.τ K.β₁ K.β₁ K.β₂ s

decipher_pass : (E times_x : ℕ → ℕ) (h : ℕ → List ℕ → ℕ) (T : ℕ) (s : List ℕ) → 32 ≤ length s
    → let K = KeyDef1 E times_x T (8 * length s) in
    decipher E times_x h T s
    ≡ pass two_blocks (λ B. swapped_feistel E h K.τ' B.0 B.1) (others h K.τ K.β₂) (others h K.τ K.β₁) (λ p. mctr_bytes E times_x K.β₁ (p.0 ⊕ p.1)) s
unfolding decipher from_m mctr_bytes masked_bytes MCTR
decipher_pass E times_x h T s l =
    let K = KeyDef1 E times_x T (8 * length s) in
    let B : ℕ × ℕ = Υ h K.τ (number (take 16 s) ⊕ K.β₂) (number (take 16 (drop 16 s)) ⊕ K.β₂) (blocks (drop 32 s)) in
    let A : ℕ × ℕ = swapped_feistel E h K.τ' B.0 B.1 in
    let M : A.0 ⊕ A.1 ⊕ B.0 ⊕ B.1 ≡ B.0 ⊕ B.1 ⊕ A.0 ⊕ A.1 = simp xor_laws in
    rw M (one_pass E times_x h (swapped_feistel E h K.τ') K.τ K.β₁ K.β₂ K.β₁ s l)

-- ---- the passes undo each other
module _ {E times_x : ℕ → ℕ} {h : ℕ → List ℕ → ℕ} (parts : Parts E times_x h) (T n : ℕ) (hT : IsBlock T) where
  -- The hash key consists of blocks.
  record KeyBelow (K : HashKey) : Type 0 where
    τ_below : IsBlock K.τ
    τ'_below : IsBlock K.τ'
    β₁_below : IsBlock K.β₁
    β₂_below : IsBlock K.β₂

  key_below : KeyBelow (KeyDef1 E times_x T (8 * n))
  unfolding KeyDef1 φ
  key_below =
      let keeps = parts.function_keeps in
      let hγ : IsBlock (E T) = keeps T hT in
      let hβ : IsBlock (E (E T ⊕ bin (8 * n))) = keeps (E T ⊕ bin (8 * n)) (xor_below 128 hγ (bin_below (8 * n))) in
      let hxβ = parts.step_keeps (E (E T ⊕ bin (8 * n))) hβ in
      record {
        τ_below = hγ;
        τ'_below = keeps (times_x (times_x (E (E T ⊕ bin (8 * n))))) (parts.step_keeps (times_x (E (E T ⊕ bin (8 * n)))) hxβ);
        β₁_below = hβ;
        β₂_below = hxβ;
      }

  others_below : (τ β : ℕ) → IsBlock τ → IsBlock β → (s : List ℕ) → OfLength (n - 32) s → AreBlocks (others h τ β s)
  unfolding others
  others_below τ β hτ hβ s k =
      let Z = xor_below 128 hβ (parts.hash_keeps τ (blocks s) hτ (blocks_below s k.1)) in
      (Z, Z)

  pub scheme_cipher : 32 ≤ n → Cipher n (encipher E times_x h T) (decipher E times_x h T)
  scheme_cipher l =
      let K = KeyDef1 E times_x T (8 * n) in
      let b = key_below in
      agreeing
      (λ s k. rw k.0 at (encipher_pass E times_x h T s (rw k.0 l)))
      (λ s k. rw k.0 at (decipher_pass E times_x h T s (rw k.0 l)))
      (pass_cipher two_blocks l
      (others_below K.τ K.β₁ b.τ_below b.β₁_below)
      (others_below K.τ K.β₂ b.τ_below b.β₂_below)
      (λ p. mctr_cipher E times_x K.β₁ (p.0 ⊕ p.1) (n - 32))
      (feistel_permutation parts b.τ'_below))
