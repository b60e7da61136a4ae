-- The calls, one after another, are the right side of Table II.
use Rattle.blocks.specs.BlockField.{times_x, power_sum}
use Rattle.blocks.specs.Inner.{value}
use Rattle.primitives.specs.Expanded.{under}
use Rattle.hch.proofs.LentBytes.{deciphering}
use Rattle.hch.proofs.decipher_message.Goals as goal

pub returns : goal.returns
returns c =
    let cipher = under c.args.expanded in
    simp (
      c.finish.ensures,
      c.xor.ensures,
      c.decipher-m1.ensures,
      c.hash-u1.ensures,
      c.read.ensures,
      c.times_x-xq.ensures,
      c.hash_q-q.ensures,
      c.encipher-r.ensures,
    )
    (deciphering cipher.E cipher.D times_x power_sum (value c.args.tweak) c.args.message.now c.requires.0)
