-- Each turn uses a byte or more: the measure is what is left of the chunk.
use Rattle.std.proofs.Common.{length}
use Rattle.vectors.proofs.lines.Given as goal

abbrev pub decreases-loop-end : goal.decreases-loop-end
decreases-loop-end g l = length l.rest
