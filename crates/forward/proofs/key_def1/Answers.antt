-- The five lines of KeyDef1.
use Rattle.blocks.specs.Counter.{φ}
use Rattle.forward.specs.Forward.{KeyDef1}
use Rattle.forward.proofs.key_def1.Goals as goal

pub returns : goal.returns
unfolding KeyDef1 φ
returns c =
    rw (
      c.encipher-tau_prime.ensures,
      c.times_x.ensures,
      c.times_x-beta2.ensures,
      c.encipher-beta1.ensures,
      c.xor_bin.ensures,
      c.encipher-gamma.ensures,
    )
