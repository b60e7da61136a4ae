-- β and the hash of the part behind are added to both blocks: formula (1).
use Rattle.strings.proofs.Place.{part_behind}
use Rattle.forward.specs.Forward.{Υ}
use Rattle.forward.proofs.hash.Goals as goal

pub returns : goal.returns
unfolding Υ
returns c =
    rw (
      c.xor-4.ensures,
      c.xor-3.ensures,
      c.xor-2.ensures,
      c.xor.ensures,
      c.power_sum-z.ensures,
      part_behind 32 c.args.message.now,
    )
