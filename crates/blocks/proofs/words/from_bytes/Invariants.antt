-- Word by word, from its four bytes.
use Prim.Native.Nat.{ℕ, ◌+◌, ◌-◌, ◌*◌}
use mathlib.Core.List.{List, [], ◌∷◌}
use lib.ListN.{get_or}
use Rattle.strings.specs.Bytes.{number}
use Rattle.strings.proofs.Filled.{Filled}
use Rattle.blocks.proofs.words.from_bytes.Given as goal

abbrev pub entry : List ℕ → ℕ → ℕ
entry s c = number (get_or s (4 * c) 0 ∷ get_or s (4 * c + 1) 0 ∷ get_or s (4 * c + 2) 0 ∷ get_or s (4 * c + 3) 0 ∷ [])

abbrev pub invariant-loop-c : goal.invariant-loop-c
invariant-loop-c l = Filled 4 l.c (entry l.s) l.t

abbrev pub decreases-loop-c : goal.decreases-loop-c
decreases-loop-c l = 4 - l.c
