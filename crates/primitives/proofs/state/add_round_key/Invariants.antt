-- Column by column.
use Rattle.std.proofs.Common.{ℕ, ◌+◌, ◌-◌, ◌*◌, List, get_or}
use Rattle.strings.specs.Xor.{◌⊕◌}
use Rattle.strings.proofs.Filled.{Filled}
use Rattle.primitives.proofs.state.add_round_key.Given as goal

abbrev pub entry : List ℕ → List ℕ → ℕ → ℕ → ℕ
entry w words n j = get_or w j 0 ⊕ get_or words (4 * n + j) 0

abbrev pub invariant-loop-c : goal.invariant-loop-c
invariant-loop-c l = Filled 4 l.c (entry l.w l.words l.n) l.t

abbrev pub decreases-loop-c : goal.decreases-loop-c
decreases-loop-c l = 4 - l.c
