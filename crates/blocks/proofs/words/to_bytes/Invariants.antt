-- Entry by entry: byte j of its word.
use Prim.Native.Nat.{ℕ, ◌-◌, ◌/◌, ◌%◌}
use mathlib.Core.List.{List}
use lib.ListN.{get_or}
use Rattle.strings.specs.Bytes.{bytes}
use Rattle.strings.proofs.Filled.{Filled}
use Rattle.blocks.proofs.words.to_bytes.Given as goal

abbrev pub entry : List ℕ → ℕ → ℕ
entry w j = get_or (bytes 4 (get_or w (j / 4) 0)) (j % 4) 0

abbrev pub invariant-loop-i : goal.invariant-loop-i
invariant-loop-i l = Filled 16 l.i (entry l.w) l.t

abbrev pub decreases-loop-i : goal.decreases-loop-i
decreases-loop-i l = 16 - l.i
