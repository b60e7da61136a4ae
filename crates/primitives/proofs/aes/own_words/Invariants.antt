-- Word by word.
use Rattle.std.proofs.Common.{◌-◌, ◌≤◌}
use Rattle.primitives.proofs.Words.{Held}
use Rattle.primitives.proofs.aes.own_words.Given as goal

abbrev pub invariant-loop-i : goal.invariant-loop-i
invariant-loop-i l = (l.i ≤ l.nk) × Held 60 l.nk l.key l.i l.words

abbrev pub decreases-loop-i : goal.decreases-loop-i
decreases-loop-i l = l.nk - l.i
