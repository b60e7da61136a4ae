-- What is written and what is left to do make the list: one length goes from the one to the other at each turn.
use mathlib.Core.Path.{◌≡◌}
use mathlib.Core.List.{[], ◌∷◌, ◌++◌}
use lib.ListN.{length, drop}
use Rattle.layout.specs.Layout.{used}
use Rattle.runs.specs.Run.{blockwise}
use Rattle.runs.proofs.opening.put_lengths.Given as goal

abbrev pub invariant-loop-i : goal.invariant-loop-i
invariant-loop-i l = (l.lengths ≡ blockwise (λ j B. used B ∷ []) l.i l.run ++ drop l.i l.initial.lengths) × (length l.lengths ≡ length l.initial.lengths)
