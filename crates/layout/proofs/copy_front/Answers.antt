-- All of the payload stands there.
use Rattle.std.proofs.Common.{◌≡◌, length, ◌∙◌, zero-add, arith}
use Rattle.strings.proofs.Place.{copied_front}
use Rattle.layout.proofs.copy_front.Goals as goal

pub returns : goal.returns
returns c =
    let all : c.loop-i.i ≡ length c.args.payload.now = omega arith in
    c.loop-i.invariant ∙ rw (zero-add, all) (copied_front c.args.payload.now c.args.block.now c.requires)
