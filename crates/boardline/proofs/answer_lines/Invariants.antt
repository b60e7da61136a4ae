-- Each call uses up some of what is left of the chunk, which is the measure.
use lib.ListN.{length}
use Rattle.boardline.proofs.answer_lines.Given as goal

abbrev pub invariant-loop-rest : goal.invariant-loop-rest
invariant-loop-rest g l = Unit {0}

abbrev pub decreases-loop-rest : goal.decreases-loop-rest
decreases-loop-rest g l = length l.rest
