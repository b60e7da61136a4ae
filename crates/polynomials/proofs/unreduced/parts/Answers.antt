-- The words, and the sums of two.
use Rattle.strings.specs.Xor.{◌⊕◌}
use Rattle.polynomials.specs.Inner.{halves_of, both_of, parts}
use Rattle.polynomials.proofs.unreduced.parts.Goals as goal

pub returns : goal.returns
unfolding ◌⊕◌ halves_of both_of parts
returns c =
    rw (
      c.low_half-a0.ensures,
      c.high_half-a1.ensures,
      c.low_half-b0.ensures,
      c.high_half-b1.ensures,
      c.low_half-c0.ensures,
      c.high_half-c1.ensures,
    )
