-- The four rows of products, each cut to its places, are the carry-less product.
use mathlib.Core.Path.{◌≡◌}
use Prim.Native.Nat.{ℕ}
use borrow.Author.Rules.{rules}
use Rattle.strings.specs.Xor.{◌⊕◌}
use Rattle.polynomials.specs.Inner.{carryless}
use Rattle.polynomials.proofs.Holes.{◌&◌, ones, by_rows, rows_product}
use Rattle.polynomials.proofs.unreduced.words.Goals as goal

pub returns : goal.returns
unfolding ◌&◌ ◌⊕◌ ones
returns c =
    let x : ℕ = c.args.x in
    let y : ℕ = c.args.y in
    let product : by_rows x y ≡ carryless 32 x y = rows_product x y (search rules) (search rules) in
    rw (← product)
