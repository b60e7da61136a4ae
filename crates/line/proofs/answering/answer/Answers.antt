-- A line that has no result is refused.
use Rattle.line.specs.Line.{answer}
use Rattle.line.proofs.answering.answer.Goals as goal

pub returns-in-Ok : goal.returns-in-Ok
unfolding answer
returns-in-Ok c = c.in-Ok.ensures

pub returns-in-Err : goal.returns-in-Err
unfolding answer
returns-in-Err c = rw (c.in-Err.ensures.0) (rw c.in-Err.ensures.1 at c.refuse.ensures)
