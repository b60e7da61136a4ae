-- A call uses up some of what is left of the chunk, and no more.
use mathlib.Core.Path.{◌≡◌}
use mathlib.Core.List.{List}
use Rattle.std.proofs.Common.{rules}
use Prim.Native.Nat.{ℕ, ◌≤◌, ◌<◌}
use native.Mathlib.Omega.{arith}
use lib.ListN.{length, length-take, length-drop}
use Rattle.line.specs.Inner.{used_by}
use Rattle.line.proofs.Used.{used}
use Rattle.boardline.proofs.answer_lines.Goals as goal

uses : (rest : List ℕ) {n : ℕ} → n ≡ used_by rest → 0 < length rest → (0 < n) × (n ≤ length rest)
uses rest e h = rw e (used rest h)

pub slice_bounds-rest-count : goal.slice_bounds-rest-count
slice_bounds-rest-count g c = (uses c.loop-rest.rest.now c.next-step.ensures.used (search rules)).1

pub slice_bounds-rest-start : goal.slice_bounds-rest-start
slice_bounds-rest-start g c = let u = uses c.loop-rest.rest.now c.next-step.ensures.used (search rules) in search rules

pub loop-rest-smaller : goal.loop-rest-smaller
loop-rest-smaller g c =
    let u = uses c.loop-rest.rest.now c.next-step.ensures.used (search rules) in
    simp (length-take, length-drop) (omega (arith, u.0, u.1))
