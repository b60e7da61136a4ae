-- Horner's rule gives the sum of blocks times powers, in every commutative ring of blocks, and takes one block or two at a time.
-- Assumes nothing.
use mathlib.Core.Path.{◌≡◌, sym, ap, ◌∙◌}
use mathlib.Core.List.{List, [], ◌∷◌}
use Prim.Native.Nat.{ℕ, zero, suc, ◌+◌, ◌^◌, ◌<◌}
use native.Mathlib.Omega.{arith}
use lib.ListN.{length, drop, length-drop}
use lib.Pow.{pow_pos}
use lib.Seq.{drop-drop}
use Rattle.strings.specs.Xor.{◌⊕◌}
use Rattle.strings.specs.Bytes.{Below}
use Rattle.blocks.specs.Blocks.{first_block, blocks}
use Rattle.blocks.specs.Field.{power, power_sum, Ring}
use Rattle.blocks.specs.Inner.{horner}
use Rattle.strings.proofs.Xor.{xor_assoc, xor_below, xor_zero, xor_zero_left}
use Rattle.blocks.proofs.Blocks.{blocks_cons}

module _ {k one : ℕ} {◌·◌ : ℕ → ℕ → ℕ} (ring : Ring k one ◌·◌) where
  infixl 70 ◌·◌
  pub power_below : (R n : ℕ) → R < 2 ^ k → power one ◌·◌ R n < 2 ^ k
  unfolding power
  power_below R zero h = ring.one_below
  power_below R (suc n) h = ring.below R (power one ◌·◌ R n) h

  pub power_sum_below : (R : ℕ) → R < 2 ^ k → (As : List ℕ) → Below (2 ^ k) As → power_sum one ◌·◌ R As < 2 ^ k
  unfolding power_sum
  power_sum_below R hR [] h = pow_pos k
  power_sum_below R hR (A ∷ As) h =
      xor_below k (ring.below A (power one ◌·◌ R (suc (length As))) (h 0)) (power_sum_below R hR As (λ i. h (suc i)))

  -- what there is gets one power of R for each block that follows
  horner_from : (R : ℕ) → R < 2 ^ k → (sum : ℕ) (As : List ℕ) → sum < 2 ^ k → Below (2 ^ k) As
      → horner ◌·◌ R sum As ≡ sum · power one ◌·◌ R (length As) ⊕ power_sum one ◌·◌ R As
  unfolding horner power_sum power
  horner_from R hR sum [] hs h = sym (xor_zero (sum · one) ∙ ring.one_right sum hs)
  horner_from R hR sum (A ∷ As) hs h =
      let t : ℕ = sum ⊕ A in
      let ht : t < 2 ^ k = xor_below k hs (h 0) in
      let Rⁿ : ℕ = power one ◌·◌ R (length As) in
      horner_from R hR (t · R) As (ring.below t R ht) (λ i. h (suc i))
      ∙ ap (λ (x : ℕ). x ⊕ power_sum one ◌·◌ R As)
      (ring.assoc t R Rⁿ ht hR (power_below R (length As) hR) ∙ ring.add_left sum A (R · Rⁿ))
      ∙ xor_assoc (sum · (R · Rⁿ)) (A · (R · Rⁿ)) (power_sum one ◌·◌ R As)

  pub horner_rule : (R : ℕ) → R < 2 ^ k → (As : List ℕ) → Below (2 ^ k) As → horner ◌·◌ R 0 As ≡ power_sum one ◌·◌ R As
  horner_rule R hR As h =
      let Rⁿ : ℕ = power one ◌·◌ R (length As) in
      horner_from R hR 0 As (pow_pos k) h
      ∙ ap (λ (x : ℕ). x ⊕ power_sum one ◌·◌ R As) (ring.zero_left Rⁿ) ∙ xor_zero_left (power_sum one ◌·◌ R As)

  -- two blocks at once
  pub two_steps : (R A B : ℕ) → R < 2 ^ k → A < 2 ^ k → (A · R ⊕ B) · R ≡ A · (R · R) ⊕ B · R
  two_steps R A B hR hA = ring.add_left (A · R) B R ∙ ap (λ (x : ℕ). x ⊕ B · R) (ring.assoc A R R hA hR hR)

module _ (◌·◌ : ℕ → ℕ → ℕ) where
  infixl 70 ◌·◌
  -- One block of a string more.
  pub horner-next : (R S at : ℕ) (s : List ℕ) → at < length s
      → horner ◌·◌ R S (blocks (drop at s)) ≡ horner ◌·◌ R ((S ⊕ first_block (drop at s)) · R) (blocks (drop (at + 16) s))
  unfolding horner
  horner-next R S at s h = rw (blocks_cons (drop at s) (rw length-drop (omega arith)), drop-drop 16 at s)
