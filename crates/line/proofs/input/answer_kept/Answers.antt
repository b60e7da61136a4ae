-- What is kept is answered as a line, or refused.
use Rattle.std.proofs.Common.{sym}
use Rattle.line.proofs.Chunks.{kept_line_answer, kept_none_answer}
use Rattle.line.proofs.input.answer_kept.Goals as goal

pub returns-in-Some : goal.returns-in-Some
returns-in-Some c = rw (kept_line_answer c.args.line.now.chars c.args.line.now.kept (sym c.in-Some.ensures)) c.answer.ensures

pub returns-in-None : goal.returns-in-None
returns-in-None c = rw (kept_none_answer c.args.line.now.chars c.args.line.now.kept (sym c.in-None.ensures)) c.refuse.ensures
