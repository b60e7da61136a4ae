-- What falls out of the low half comes into the high one.
use Prim.Native.Nat.{◌-◌}
use native.Mathlib.Omega.{arith}
use borrow.Author.Rules.{rules}
use Rattle.strings.specs.Xor.{◌⊕◌}
use Rattle.blocks.specs.Inner.{value}
use Rattle.blocks.proofs.Halves.{halves_shifted}
use Rattle.polynomials.proofs.reduction.shifted.Goals as goal

pub returns : goal.returns
unfolding value ◌⊕◌
returns c =
    let args = c.args in
    halves_shifted args.i (64 - args.i) 64 args.a.hi args.a.lo (omega arith) (search rules)
