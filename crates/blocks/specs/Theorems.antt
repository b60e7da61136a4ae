-- The theorems of this crate, each by name. One value of this record, proofs/Theorems.antt, proves them all.
use Rattle.std.specs.Prelude.{ℕ, ◌^◌, ◌<◌, ◌≡◌, List}
use Rattle.strings.specs.Bytes.{Below}
use Rattle.blocks.specs.Field.{times_x, product, power, power_sum, Ring}
use Rattle.blocks.specs.BlockField.{◌·◌}
use Rattle.blocks.specs.Inner.{horner}
use Rattle.strings.specs.Cipher.{Cipher}
use Rattle.blocks.specs.Counter.{masked_bytes, φ}

pub record Theorems : Type 0 where
  -- For every width and polynomial the product makes a commutative ring, in which x ^ k is p; 01's blocks and the bytes of AES.
  pub ring : (k p : ℕ) → 0 < k → p < 2 ^ k → Ring k 1 (product k p)
  pub x_to_the_k : (k p : ℕ) → 0 < k → p < 2 ^ k → power 1 (product k p) (times_x k p 1) k ≡ p
  pub ring_of_blocks : Ring 128 1 ◌·◌
  pub ring_of_bytes : Ring 8 1 (product 8 0x1b)
  -- φ_β(i) of source document 000, i steps by x from β on, is the ith power of x times β.
  pub phi_power : (k p : ℕ) → 0 < k → p < 2 ^ k → (β i : ℕ) → β < 2 ^ k → φ (times_x k p) β i ≡ product k p (power 1 (product k p) (times_x k p 1) i) β
  -- Horner's rule gives the sum of blocks times powers, in every such ring.
  pub horner_rule : (k one : ℕ) (◌·◌ : ℕ → ℕ → ℕ) → Ring k one ◌·◌ → (R : ℕ) → R < 2 ^ k → (As : List ℕ) → Below (2 ^ k) As
      → horner ◌·◌ R 0 As ≡ power_sum one ◌·◌ R As
  -- Counter mode is a cipher of n bytes for every n, and its own inverse.
  pub counter_mode : (mask : ℕ → ℕ) (i n : ℕ) → Cipher n (masked_bytes mask i) (masked_bytes mask i)
