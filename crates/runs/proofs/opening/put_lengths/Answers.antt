-- What is written and what is left to do make the list: one length goes from the one to the other at each turn.
use Prim.Native.Nat.{◌+◌, ◌*◌, ◌≤◌}
use mathlib.Core.Path.{refl, ◌∙◌}
use native.Mathlib.Omega.{arith}
use lib.ListN.{length, length-set}
use Rattle.layout.specs.Layout.{used}
use Rattle.runs.specs.Run.{blockwise}
use Rattle.runs.proofs.Blocks.{lent_part}
use Rattle.runs.proofs.Lists.{filled_next}
use Rattle.runs.proofs.Sizes.{used-at}
use Rattle.runs.proofs.opening.put_lengths.Goals as goal

pub loop-i-init : goal.loop-i-init
unfolding blockwise
loop-i-init c = (refl, refl)

pub overflow_cast-lengths : goal.overflow_cast-lengths
overflow_cast-lengths c =
    let l = c.loop-i in
    let run = c.args.run.now in
    let room : 512 * l.i + 512 ≤ length run = omega (arith, c.requires, c.loop-i-test.true) in
    let read = used-at l.i run (λ k. (c.shared_slice_known-1.given k).fits) room (lent_part l.i run) in
    omega (arith, c.get.ensures, read.1)

pub loop-i-preserved : goal.loop-i-preserved
loop-i-preserved c =
    let l = c.loop-i in
    let run = c.args.run.now in
    let room : 512 * l.i + 512 ≤ length run = omega (arith, c.requires, c.loop-i-test.true) in
    let read = used-at l.i run (λ k. (c.shared_slice_known-1.given k).fits) room (lent_part l.i run) in (
      filled_next used run c.args.lengths.now l.i c.loop-i-test.true l.invariant.0 (c.get.ensures ∙ read.0),
      length-set l.lengths l.i c.get.result ∙ l.invariant.1,
    )
