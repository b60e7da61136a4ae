-- Round by round: what the rounds that are left make of the state is what all of them make of the first one.
use Rattle.std.proofs.Common.{◌≡◌, ◌-◌, ◌≤◌}
use Rattle.primitives.specs.Aes.{inv_rounds, round_key}
use Rattle.primitives.specs.Inner.{of_columns}
use Rattle.primitives.proofs.aes.ExpandedKey.inv_cipher.Given as goal

abbrev pub invariant-loop-n : goal.invariant-loop-n
invariant-loop-n l = (1 ≤ l.n) × (l.n ≤ l.rounds) × (inv_rounds (round_key l.self.words) (l.n - 1) (of_columns l.t) ≡ inv_rounds (round_key l.self.words) (l.rounds - 1) (of_columns l.initial.t))
