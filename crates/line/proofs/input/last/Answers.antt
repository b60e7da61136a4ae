-- There is a last line unless none of its characters is kept.
use mathlib.Core.Path.{refl, sym}
use Rattle.line.proofs.Chunks.{last_none, last_some}
use Rattle.line.proofs.input.last.Goals as goal

pub returns-then-is_empty : goal.returns-then-is_empty
returns-then-is_empty c = rw (last_none c.args.line.now.chars c.args.line.now.kept (sym c.if-is_empty.ensures)) (record { counted = refl; written = refl })

pub returns : goal.returns
returns c = rw (last_some c.args.line.now.chars c.args.line.now.kept (sym c.if-is_empty.ensures)) c.answer_kept.ensures
