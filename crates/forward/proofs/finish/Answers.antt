-- The counter step on the part lent, the hash of what is back, and its two writes are Table 1 from M on.
use Prim.Native.Nat.{ℕ}
use mathlib.Core.Path.{ap}
use Rattle.blocks.specs.BlockField.{times_x, power_sum}
use Rattle.blocks.specs.Inner.{value}
use Rattle.primitives.specs.Expanded.{under}
use Rattle.forward.specs.Inner.{values, mctr_bytes}
use Rattle.forward.proofs.LentBytes.{finished}
use Rattle.forward.proofs.finish.Goals as goal

pub returns : goal.returns
unfolding mctr_bytes
returns c =
    let args = c.args in
    simp (
      c.write-2.ensures,
      c.write.ensures,
      ap (λ (p : ℕ × ℕ). p.0) c.hash-front.ensures,
      ap (λ (p : ℕ × ℕ). p.1) c.hash-front.ensures,
      c.modified_counter.ensures,
    )
    (finished (under args.expanded).E times_x power_sum (value args.key.tau) (value args.key.beta1) (value args.beta) (value args.m) (values args.two)
    args.message.now c.requires)
