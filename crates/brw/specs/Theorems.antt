-- The theorems of this crate, each by name. One value of this record, proofs/Theorems.antt, proves them all.
use Rattle.std.specs.Prelude.{ℕ, ◌+◌, ◌-◌, ◌/◌, ◌^◌, ◌≤◌, ◌≡◌, List, [], ◌∷◌, length, get_or, take, drop}
use Rattle.strings.specs.Xor.{◌⊕◌}
use Rattle.blocks.specs.Blocks.{IsBlock}
use Rattle.blocks.specs.Field.{power}
use Rattle.blocks.specs.BlockField.{◌·◌}
use Rattle.brw.specs.Brw.{largest_power, products, BRW, hash}

-- k is a power of two, not above n, and no power of two that is not above n is larger.
pub record IsLargestPower (n k : ℕ) : Type 0 where
  pub is_power : (j : ℕ) × (k ≡ 2 ^ j)
  pub not_above : k ≤ n
  pub largest : (i : ℕ) → 2 ^ i ≤ n → 2 ^ i ≤ k

module _ (one : ℕ) (◌·◌ : ℕ → ℕ → ℕ) where
  infixl 70 ◌·◌
  -- 02's clauses of a polynomial f of a hash key and blocks, over any product and its one.
  pub record Clauses (f : ℕ → List ℕ → ℕ) : Type 0 where
    pub none : (t : ℕ) → f t [] ≡ 0
    pub one_block : (t X₁ : ℕ) → f t (X₁ ∷ []) ≡ X₁
    pub two_blocks : (t X₁ X₂ : ℕ) → f t (X₁ ∷ X₂ ∷ []) ≡ X₁ · t ⊕ X₂
    pub three_blocks : (t X₁ X₂ X₃ : ℕ) → f t (X₁ ∷ X₂ ∷ X₃ ∷ []) ≡ (t ⊕ X₁) · (power one ◌·◌ t 2 ⊕ X₂) ⊕ X₃
    pub more_blocks : (t : ℕ) (Xs : List ℕ) → 4 ≤ length Xs
        → let k = largest_power (length Xs) in f t Xs ≡ f t (take (k - 1) Xs) · (power one ◌·◌ t k ⊕ get_or Xs (k - 1) 0) ⊕ f t (drop k Xs)

-- And of the number of products that they make.
pub record Counts (f : ℕ → ℕ) : Type 0 where
  pub none : f 0 ≡ 0
  pub one_block : f 1 ≡ 0
  pub two_blocks : f 2 ≡ 1
  pub three_blocks : f 3 ≡ 1
  pub more_blocks : (m : ℕ) → 4 ≤ m → let k = largest_power m in f m ≡ f (k - 1) + 1 + f (m - k)

-- For an example: a hash key, and eleven blocks.
abbrev pub example_key : ℕ
example_key = 0x0123456789abcdeffedcba9876543210

abbrev pub example_blocks : List ℕ
example_blocks = 0x00112233445566778899aabbccddeeff ∷ 0x80000000000000000000000000000000 ∷ 2 ∷ 3 ∷ 0xff0000000000000000 ∷ 5 ∷ 6 ∷ 7 ∷ 8 ∷ 9 ∷ 10 ∷ []

pub record Theorems : Type 0 where
  -- The split is where 02 has it.
  pub largest_power_lem : (n : ℕ) → 1 ≤ n → IsLargestPower n (largest_power n)
  -- For every product and its one, the polynomial has 02's clauses, and the count those of its products.
  pub clauses : (one : ℕ) (◌·◌ : ℕ → ℕ → ℕ) → Clauses one ◌·◌ (BRW one ◌·◌)
  pub counts : Counts products
  -- "Half the number of those blocks, rounded down", for every number of blocks.
  pub products_half : (m : ℕ) → products m ≡ m / 2
  -- The hash is t times the polynomial, and a block; of one block it is their product.
  pub hash_times : (t : ℕ) (Xs : List ℕ) → hash t Xs ≡ t · BRW 1 ◌·◌ t Xs
  pub hash_keeps : (t : ℕ) (Xs : List ℕ) → IsBlock t → IsBlock (hash t Xs)
  pub hash_one : (t X : ℕ) → hash t (X ∷ []) ≡ t · X
  -- Worked out by the checker, and by a program written apart from this one: eleven blocks, which take five products.
  pub example_hash : hash example_key example_blocks ≡ 0x0e3e7ecfc5c9d6c11fea779e786d0ff0
  pub example_products : products (length example_blocks) ≡ 5
