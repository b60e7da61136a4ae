-- The bytes from i on are compared, and `rest` is what lies above them.
use Prim.Native.Nat.{◌-◌, ◌/◌, ◌^◌}
use mathlib.Core.Path.{◌≡◌}
use lib.Dec.{eqb}
use lib.ListN.{length, drop}
use Rattle.strings.specs.Bytes.{bytes, equal}
use Rattle.layout.proofs.difference.Given as goal

abbrev pub invariant-loop-i : goal.invariant-loop-i
invariant-loop-i l =
    (l.rest ≡ l.value / 256 ^ (length l.part - l.i))
    × (eqb l.differ 0 ≡ equal (drop l.i l.part) (bytes (length l.part - l.i) l.value))
