-- After i turns `value` is the number of the i bytes from `at` on, 0 past the end, cut to 64 digits.
use Prim.Native.Nat.{◌%◌, ◌^◌, ◌≤◌}
use mathlib.Core.Path.{◌≡◌}
use lib.ListN.{drop}
use Rattle.strings.specs.Bytes.{number}
use Rattle.strings.specs.Inner.{padded}
use Rattle.strings.proofs.number.get.Given as goal

abbrev pub invariant-loop-i : goal.invariant-loop-i
invariant-loop-i l = (l.i ≤ l.n) × (l.value ≡ number (padded l.i (drop l.at l.s)) % 2 ^ 64)
