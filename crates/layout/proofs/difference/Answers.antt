-- The bytes from i on are compared, and `rest` is what lies above them.
use Prim.Native.Nat.{◌+◌, ◌-◌}
use mathlib.Core.Path.{◌≡◌}
use native.Mathlib.Omega.{arith}
use lib.ListN.{length}
use lib.Seq.{drop-length}
use Rattle.strings.specs.Bytes.{bytes, equal}
use Rattle.strings.proofs.Place.{rest_next}
use Rattle.layout.proofs.Comparison.{differ_next}
use Rattle.layout.proofs.difference.Goals as goal

pub loop-i-init : goal.loop-i-init
unfolding bytes equal
loop-i-init c =
    let s = c.args.part.now in
    let none : length s - length s ≡ 0 = omega arith in
    (rw none (omega arith), rw (none, drop-length s))

pub loop-i-preserved : goal.loop-i-preserved
loop-i-preserved c =
    let l = c.loop-i in
    let s = c.args.part.now in
    let back : l.i - 1 + 1 ≡ l.i = omega arith in
    let more : length s - (l.i - 1) ≡ length s - l.i + 1 = omega arith in (
      rw (l.invariant.0, more, rest_next),
      rw (l.invariant.0, more) (differ_next s (l.i - 1) (length s - l.i) c.args.value l.differ (omega arith) (rw back l.invariant.1)),
    )
