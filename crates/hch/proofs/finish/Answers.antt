-- The counter step on the part lent, the hash of what is back, and its write are Table II from I on.
use Rattle.blocks.specs.BlockField.{power_sum}
use Rattle.blocks.specs.Inner.{value}
use Rattle.primitives.specs.Expanded.{under}
use Rattle.hch.specs.Inner.{ctr_bytes}
use Rattle.hch.proofs.LentBytes.{finished}
use Rattle.hch.proofs.finish.Goals as goal

pub returns : goal.returns
unfolding ctr_bytes
returns c =
    let args = c.args in
    simp (c.write.ensures, c.hash.ensures, c.counter.ensures, c.encipher-s.ensures)
    (finished (under args.expanded).E power_sum (value args.r) (value args.q) (value args.i) (value args.first) args.message.now c.requires)
