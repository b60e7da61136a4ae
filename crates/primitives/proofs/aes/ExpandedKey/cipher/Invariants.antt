-- Round by round: before round n there are n - 1 done.
use Rattle.std.proofs.Common.{◌≡◌, ℕ, ◌-◌, ◌≤◌, List}
use Rattle.primitives.specs.Aes.{rounds, round_key}
use Rattle.primitives.specs.Inner.{of_columns}
use Rattle.primitives.proofs.aes.ExpandedKey.cipher.Given as goal

abbrev pub invariant-loop-n : goal.invariant-loop-n
invariant-loop-n l = (1 ≤ l.n) × (l.n ≤ l.rounds) × ((p : List ℕ) → of_columns l.initial.t ≡ rounds (round_key l.self.words) 0 p → of_columns l.t ≡ rounds (round_key l.self.words) (l.n - 1) p)
