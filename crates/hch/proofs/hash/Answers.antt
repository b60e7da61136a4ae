-- The two sums and the keyed sum of the part behind are formula (1).
use Rattle.strings.proofs.Place.{part_behind}
use Rattle.hch.specs.Hch.{H}
use Rattle.hch.proofs.hash.Goals as goal

pub returns : goal.returns
unfolding H
returns c =
    rw (
      c.xor-2.ensures,
      c.power_sum.ensures,
      c.xor.ensures,
      part_behind 16 c.args.message.now,
    )
