-- The four rounds, with the product in the place of the hash of one block.
use Prim.Native.Nat.{ℕ}
use mathlib.Core.Path.{◌≡◌}
use mathlib.Core.List.{[], ◌∷◌}
use borrow.Author.Rules.{rules}
use Rattle.blocks.specs.Blocks.{IsBlock}
use Rattle.blocks.specs.BlockField.{◌·◌, power_sum}
use Rattle.blocks.specs.Inner.{value}
use Rattle.blocks.proofs.Halves.{value_below}
use Rattle.forward.specs.Forward.{Feistel}
use Rattle.forward.proofs.LentBytes.{hash_one}
use Rattle.forward.proofs.feistel.Goals as goal

pub returns : goal.returns
unfolding Feistel
returns c =
    let a = c.args in
    -- τ' is a block
    let key_below : IsBlock (value a.tau_prime) = value_below a.tau_prime (search rules) (search rules) in
    let one : (X : ℕ) → power_sum (value a.tau_prime) (X ∷ []) ≡ X · value a.tau_prime =
    λ X. hash_one (value a.tau_prime) X key_below in
    simp (
      c.xor-b1.ensures,
      c.product-2.ensures,
      c.xor-b2.ensures,
      c.encipher-2.ensures,
      c.xor-f2.ensures,
      c.encipher.ensures,
      c.xor-f1.ensures,
      c.product.ensures,
      one,
    )
