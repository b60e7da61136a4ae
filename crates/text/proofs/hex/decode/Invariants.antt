-- The text is hexadecimal, and the bytes of its first 2 * i characters stand in front of what `out` had from place i on.
use mathlib.Core.Path.{◌≡◌}
use mathlib.Core.Bool.{true}
use mathlib.Core.List.{◌++◌}
use Prim.Native.Nat.{◌*◌}
use lib.ListN.{take, drop}
use Rattle.text.specs.Hex.{is_hex, unhex}
use Rattle.text.proofs.hex.decode.Given as goal

abbrev pub invariant-loop-i : goal.invariant-loop-i
invariant-loop-i l = (is_hex l.text ≡ true) × (l.out ≡ unhex (take (2 * l.i) l.text) ++ drop l.i l.initial.out)
