-- The length of the string.
use lib.ListN.{length}
use Rattle.brw.proofs.evaluation.+evaluate.Given as goal

abbrev pub decreases-evaluate : goal.decreases-evaluate
decreases-evaluate l = length l.s.now
