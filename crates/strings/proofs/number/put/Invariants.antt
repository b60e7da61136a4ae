-- After each turn the last n - i bytes stand, and `rest` is what lies above them.
use Prim.Native.Nat.{◌+◌, ◌-◌, ◌/◌, ◌^◌, ◌≤◌}
use mathlib.Core.Path.{◌≡◌}
use Rattle.strings.specs.Bytes.{bytes}
use Rattle.strings.specs.Inner.{overwrite}
use Rattle.strings.proofs.number.put.Given as goal

abbrev pub invariant-loop-i : goal.invariant-loop-i
invariant-loop-i l = (l.i ≤ l.n) × (l.rest ≡ l.value / 256 ^ (l.n - l.i)) × (l.out ≡ overwrite (l.at + l.i) (bytes (l.n - l.i) l.value) l.initial.out)
