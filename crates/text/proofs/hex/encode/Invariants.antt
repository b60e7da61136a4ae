-- The digits of the first i bytes stand in front of what `out` had from place 2 * i on.
use mathlib.Core.Path.{◌≡◌}
use mathlib.Core.List.{◌++◌}
use Prim.Native.Nat.{◌*◌}
use lib.ListN.{take, drop}
use Rattle.text.specs.Hex.{hex}
use Rattle.text.proofs.hex.encode.Given as goal

abbrev pub invariant-loop-i : goal.invariant-loop-i
invariant-loop-i l = l.out ≡ hex (take l.i l.bytes) ++ drop (2 * l.i) l.initial.out
