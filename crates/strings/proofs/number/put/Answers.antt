-- After each turn the last n - i bytes stand, and `rest` is what lies above them.
use Prim.Native.Nat.{◌+◌, ◌-◌, ◌%◌, ◌≤◌}
use mathlib.Core.Path.{◌≡◌, sym, ◌∙◌}
use native.Mathlib.Omega.{arith}
use lib.ListN.{length, set}
use lib.Seq.{set_out}
use Rattle.strings.specs.Bytes.{bytes}
use Rattle.strings.proofs.Place.{overwrite_nil, overwrite-next, length-overwrite, rest_next}
use Rattle.strings.proofs.number.put.Goals as goal
use Rattle.strings.proofs.number.put.Goals.{then-i-there, else-i-there}

pub loop-i-init : goal.loop-i-init
unfolding bytes
loop-i-init c =
    let a = c.args in
    let none : a.n - a.n ≡ 0 = omega arith in
    (omega arith, rw none (omega arith), rw (none, overwrite_nil (a.at + a.n) a.out.now))

pub loop-i-preserved : goal.loop-i-preserved
loop-i-preserved c =
    let l = c.loop-i in
    let a = c.args in
    let k = a.at + (l.i - 1) in
    let back : k + 1 ≡ a.at + l.i = omega arith in
    let more : a.n - (l.i - 1) ≡ a.n - l.i + 1 = omega arith in
    let stored : c.if-i-there.out ≡ set l.out k (l.rest % 256) =
    elim c.if-i-there.branch [
      | then-i-there w ↦ w.out-is
      | else-i-there w ↦
          let past : length l.out ≤ k = rw (l.invariant.2, length-overwrite) (omega (arith, c.saturating_sub-there.ensures, w.if-i-there.false)) in
          w.out-is ∙ sym (set_out l.out k (l.rest % 256) past)
    ] in (
      omega arith,
      rw (more, l.invariant.1, rest_next),
      rw (stored, more, l.invariant.1, l.invariant.2) (rw back at (overwrite-next k (a.n - l.i) a.value a.out.now)),
    )
