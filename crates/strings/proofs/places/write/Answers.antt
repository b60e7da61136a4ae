-- As many bytes are copied as have room, to the front of the part behind `at`.
use mathlib.Core.Path.{◌≡◌, sym}
use Prim.Native.Nat.{◌+◌, ◌-◌}
use native.Mathlib.Omega.{arith}
use Rattle.strings.proofs.Place.{overwrite-part, overwrite_past}
use Rattle.strings.proofs.places.write.Goals as goal

pub returns-then-at-out : goal.returns-then-at-out
returns-then-at-out c =
    let a = c.args in
    let n = c.min-n.result in
    let width : a.at + n - a.at ≡ n = omega arith in
    rw (width, c.copy_from_slice.ensures.after) (overwrite-part a.at n a.s.now a.out.now c.min-n.ensures)

pub returns-else-at-out : goal.returns-else-at-out
returns-else-at-out c = sym (overwrite_past c.args.at c.args.s.now c.args.out.now c.if-at-out.false)
