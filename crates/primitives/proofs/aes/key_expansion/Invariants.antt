-- Word by word.
use Rattle.std.proofs.Common.{◌≡◌, ◌+◌, ◌-◌, ◌*◌, ◌<◌, ◌≤◌, get_or}
use Rattle.primitives.proofs.Words.{Held}
use Rattle.primitives.proofs.aes.key_expansion.Given as goal

abbrev pub invariant-loop-i : goal.invariant-loop-i
invariant-loop-i l = Held 60 l.nk l.key l.i l.words × (l.w ≡ get_or l.words (l.i - 1) 0) × (l.i ≡ l.nk * l.place.j + l.place.m) × (l.place.m < l.nk) × (l.nk ≤ l.i) × (l.i ≤ 4 * (l.nk + 7))

abbrev pub decreases-loop-i : goal.decreases-loop-i
decreases-loop-i l = l.i-end - l.i
