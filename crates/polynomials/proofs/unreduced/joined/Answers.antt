-- The middle goes across the two halves.
use mathlib.Core.Path.{refl}
use Rattle.strings.specs.Xor.{◌⊕◌}
use Rattle.blocks.specs.Inner.{value}
use Rattle.polynomials.specs.Inner.{karatsuba}
use Rattle.polynomials.proofs.unreduced.joined.Goals as goal

pub returns : goal.returns
unfolding ◌⊕◌ value karatsuba
returns c = refl
