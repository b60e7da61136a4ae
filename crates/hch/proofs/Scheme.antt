-- HCH is a cipher of n bytes for every n from 16 on: each direction is one pass, and the passes undo each other.
-- Assumes nothing.
use Prim.Native.Nat.{ℕ, ◌-◌, ◌*◌, ◌≤◌}
use mathlib.Core.Path.{◌≡◌}
use mathlib.Core.List.{List}
use lib.ListN.{length, take, drop}
use Rattle.strings.specs.Xor.{◌⊕◌}
use Rattle.strings.specs.Bytes.{OfLength, number}
use Rattle.blocks.specs.Blocks.{blocks, IsBlock, bin}
use Rattle.strings.specs.Cipher.{Cipher}
use Rattle.blocks.specs.Counter.{masked_bytes}
use Rattle.strings.proofs.Xor.{xor_assoc, xor_comm, xor_below}
use Rattle.blocks.proofs.Blocks.{bin_below, blocks_below}
use Rattle.blocks.proofs.Counter.{counter_cipher}
use Rattle.blocks.proofs.Fronts.{one_block}
use Rattle.strings.proofs.Pass.{pass, pass_cipher}
use Rattle.strings.proofs.Permutations.{agreeing}
use Rattle.hch.specs.Hch.{length_block, H, Ctr, encipher, decipher, Parts}
use Rattle.hch.specs.Inner.{ctr_bytes, from_i}

-- The counter step is its own inverse.
ctr_cipher : (E : ℕ → ℕ) (S n : ℕ) → Cipher n (ctr_bytes E S) (ctr_bytes E S)
unfolding ctr_bytes
ctr_cipher E S n = counter_cipher (λ i. E (S ⊕ bin i)) 1 n

-- A hash is its first block, and the sum of the others with the key.
unfoldable others : (sum : ℕ → List ℕ → ℕ) → ℕ → ℕ → List ℕ → ℕ
others sum R Q s = Q ⊕ sum R (blocks s)

first_first : (sum : ℕ → List ℕ → ℕ) (R Q A₁ : ℕ) (s : List ℕ) → H sum R Q A₁ (blocks s) ≡ A₁ ⊕ others sum R Q s
unfolding H others
first_first sum R Q A₁ s = rw (xor_comm Q A₁, xor_assoc)

-- From the first hash on, either direction is one pass: F is E or D, and the two keys of the hashes are Q and xQ, or xQ and Q.
one_pass : (E F : ℕ → ℕ) (sum : ℕ → List ℕ → ℕ) (R Q Q' : ℕ) (s : List ℕ)
    → let a = H sum R Q (number (take 16 s)) (blocks (drop 16 s)) in
    from_i E sum R Q' (a ⊕ F a) (F a) (drop 16 s) ≡ pass one_block F (others sum R Q) (others sum R Q') (λ I. ctr_bytes E (E I)) s
unfolding from_i pass one_block
one_pass E F sum R Q Q' s =
    let a : ℕ = number (take 16 s) ⊕ others sum R Q (drop 16 s) in
    rw (first_first sum R Q (number (take 16 s)) (drop 16 s), first_first sum R Q' (F a) (ctr_bytes E (E (a ⊕ F a)) (drop 16 s)))

encipher_pass : (E times_x : ℕ → ℕ) (sum : ℕ → List ℕ → ℕ) (T : ℕ) (s : List ℕ)
    → let Q = E (E T ⊕ length_block (length s)) in
    encipher E times_x sum T s ≡ pass one_block E (others sum (E T) Q) (others sum (E T) (times_x Q)) (λ I. ctr_bytes E (E I)) s
unfolding encipher from_i ctr_bytes masked_bytes Ctr
encipher_pass E times_x sum T s =
    let Q = E (E T ⊕ length_block (length s)) in
    one_pass E E sum (E T) Q (times_x Q) s

decipher_pass : (E D times_x : ℕ → ℕ) (sum : ℕ → List ℕ → ℕ) (T : ℕ) (s : List ℕ)
    → let Q = E (E T ⊕ length_block (length s)) in
    decipher E D times_x sum T s ≡ pass one_block D (others sum (E T) (times_x Q)) (others sum (E T) Q) (λ I. ctr_bytes E (E I)) s
unfolding decipher from_i ctr_bytes masked_bytes Ctr
decipher_pass E D times_x sum T s =
    let Q = E (E T ⊕ length_block (length s)) in
    let U₁ : ℕ = H sum (E T) (times_x Q) (number (take 16 s)) (blocks (drop 16 s)) in
    rw (xor_comm (D U₁) U₁) (one_pass E D sum (E T) (times_x Q) Q s)

-- The passes undo each other.
module _ {E D times_x : ℕ → ℕ} {sum : ℕ → List ℕ → ℕ} (parts : Parts E D times_x sum) (T n : ℕ) (hT : IsBlock T) where
  keeps : (a : ℕ) → IsBlock a → IsBlock (E a)
  keeps = parts.permutation.keeps

  others_below : (q : ℕ) → IsBlock q → (s : List ℕ) → OfLength (n - 16) s → IsBlock (others sum (E T) q s)
  unfolding others
  others_below q hq s h = xor_below 128 hq (parts.sum_keeps (E T) (blocks s) (keeps T hT) (blocks_below s h.1))

  key_below : IsBlock (E (E T ⊕ length_block n))
  key_below = keeps (E T ⊕ length_block n) (xor_below 128 (keeps T hT) (bin_below (8 * n)))

  pub scheme_cipher : 16 ≤ n → Cipher n (encipher E times_x sum T) (decipher E D times_x sum T)
  scheme_cipher l =
      let Q = E (E T ⊕ length_block n) in
      agreeing
      (λ s h. rw h.0 at (encipher_pass E times_x sum T s))
      (λ s h. rw h.0 at (decipher_pass E D times_x sum T s))
      (pass_cipher one_block l (others_below Q key_below) (others_below (times_x Q) (parts.step_keeps Q key_below))
      (λ I. ctr_cipher E (E I) (n - 16)) parts.permutation)
