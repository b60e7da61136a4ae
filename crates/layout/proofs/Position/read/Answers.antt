-- A u over 496 fails; otherwise no part of the check may differ.
use Prim.Native.Nat.{ℕ, ◌+◌, ◌-◌, ◌≤◌}
use mathlib.Core.Path.{◌≡◌, ◌∙◌}
use mathlib.Core.List.{List}
use native.Mathlib.Omega.{arith}
use lib.Dec.{eqb}
use lib.ListN.{length, take, drop, length-drop}
use lib.Seq.{length-take-le}
use Rattle.strings.specs.Bytes.{bytes, equal}
use Rattle.layout.specs.Layout.{used}
use Rattle.layout.proofs.Check.{used_bytes, passes_parts}
use Rattle.layout.proofs.Comparison.{none_of_four}
use Rattle.layout.proofs.Position.read.Goals as goal

-- What the comparison of a part of n bytes tells.
compared : (d i n value : ℕ) (B : List ℕ) → length B ≡ 512 → i + n ≤ 512
    → eqb d 0 ≡ equal (take n (drop i B)) (bytes (length (take n (drop i B))) value) → eqb d 0 ≡ equal (take n (drop i B)) (bytes n value)
compared d i n value B long within h =
    rw (length-take-le n (drop i B) (rw (length-drop, long) (omega (arith, within)))) at h

pub returns : goal.returns
returns c =
    let a = c.args in
    let B = a.block.now in
    let long = c.if-block-ne512.false in
    let u = c.get-u.result in
    let is : u ≡ used B = c.get-u.ensures ∙ used_bytes B (long, λ i. (c.type_inv.block i).fits) in
    let filling = compared _ u (496 - u) 0 B long (omega (arith, c.if-u-gt496.false)) c.difference-filling_differs.ensures in
    let pack = compared _ 496 8 a.self.pack B long (omega arith) c.difference-pack_differs.ensures in
    let place = compared _ 504 4 a.self.place B long (omega arith) c.difference-place_differs.ensures in
    let zeros = compared _ 510 2 0 B long (omega arith) c.difference-zeros_differ.ensures in
    rw (
      c.then_some.ensures,
      none_of_four _ _ _ _ (rw is at filling) pack place zeros,
      passes_parts a.self.pack a.self.place B (long, λ i. (c.type_inv.block i).fits) (rw is at c.if-u-gt496.false),
      is,
    )
