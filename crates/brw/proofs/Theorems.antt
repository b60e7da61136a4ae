-- Every theorem of specs/Theorems.antt.
-- Assumes nothing.
use Prim.Native.Nat.{ℕ}
use mathlib.Core.Path.{◌≡◌, refl}
use mathlib.Core.List.{List, ◌∷◌, []}
use lib.ListN.{length}
use Rattle.strings.specs.Xor.{◌⊕◌}
use Rattle.blocks.specs.Blocks.{IsBlock}
use Rattle.blocks.specs.Field.{times01, times_x, product_n, product, power}
use Rattle.blocks.specs.BlockField.{◌·◌}
use Rattle.blocks.proofs.Ring.{ring_of_blocks}
use Rattle.brw.specs.Brw.{largest_from, largest_power, polynomial, products_within, products, BRW, hash}
use Rattle.brw.specs.Theorems.{Clauses, Counts, example_key, example_blocks, Theorems}
use Rattle.brw.proofs.Largest.{largest}
use Rattle.brw.proofs.Clauses.{more, products_more, products_half}

clauses : (one : ℕ) (◌·◌ : ℕ → ℕ → ℕ) → Clauses one ◌·◌ (BRW one ◌·◌)
unfolding BRW polynomial
clauses one ◌·◌ = record {
  none = λ t. refl;
  one_block = λ t X₁. refl;
  two_blocks = λ t X₁ X₂. refl;
  three_blocks = λ t X₁ X₂ X₃. refl;
  more_blocks = λ t Xs h. more ◌·◌ t (power one ◌·◌ t) Xs h;
}

counts : Counts products
unfolding products products_within
counts = record { none = refl; one_block = refl; two_blocks = refl; three_blocks = refl; more_blocks = products_more }

hash_times : (t : ℕ) (Xs : List ℕ) → hash t Xs ≡ t · BRW 1 ◌·◌ t Xs
unfolding hash
hash_times t Xs = refl

pub hash_keeps : (t : ℕ) (Xs : List ℕ) → IsBlock t → IsBlock (hash t Xs)
unfolding hash
hash_keeps t Xs h = ring_of_blocks.below t (BRW 1 ◌·◌ t Xs) h

pub hash_one : (t X : ℕ) → hash t (X ∷ []) ≡ t · X
unfolding hash BRW polynomial
hash_one t X = refl

example_hash : hash example_key example_blocks ≡ 0x0e3e7ecfc5c9d6c11fea779e786d0ff0
unfolding hash BRW polynomial largest_power largest_from power product product_n times_x times01 ◌⊕◌
example_hash = refl

example_products : products (length example_blocks) ≡ 5
unfolding products products_within largest_power largest_from
example_products = refl

pub theorems : Theorems
theorems = record {
  largest_power_lem = largest;
  clauses = clauses;
  counts = counts;
  products_half = products_half;
  hash_times = hash_times;
  hash_keeps = hash_keeps;
  hash_one = hash_one;
  example_hash = example_hash;
  example_products = example_products;
}
