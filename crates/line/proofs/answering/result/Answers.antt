-- The tests are those of `request_of`; the fields stand behind the first space.
use Rattle.std.proofs.Common.{rules, refl, sym, get_or, ◌≡◌, ◌∙◌, Err, [], ◌∷◌, drop}
use mathlib.Core.Path.{ap}
use Rattle.text.specs.Part.{split}
use Rattle.strings.proofs.Place.{part_behind}
use Rattle.line.proofs.Requests.{line_short, line_other, line_fields, request_fields, request_long, no_command, command_none, command_some, not_understood}
use Rattle.line.proofs.answering.result.Goals as goal

pub returns-then-line-gt-LONGEST : goal.returns-then-line-gt-LONGEST
returns-then-line-gt-LONGEST c = not_understood _ (request_long c.args.line.now c.if-line-gt-LONGEST.true) refl

pub returns-in_default : goal.returns-in_default
returns-in_default c =
    let line = c.args.line.now in
    not_understood _ (request_fields line c.if-line-gt-LONGEST.false ∙ line_short line c.in_default.len_below) refl

pub returns-in_default-2 : goal.returns-in_default-2
returns-in_default-2 c =
    let line = c.args.line.now in
    not_understood _ (request_fields line c.if-line-gt-LONGEST.false ∙ line_other line c.in_default.len_at_least (search rules)) refl

pub returns-in_err-try_from : goal.returns-in_err-try_from
returns-in_err-try_from c =
    let line = c.args.line.now in
    let none = command_none (get_or line 0 0) c.in_err-try_from.field-0.0 (sym c.try_from.ensures ∙ c.in_err-try_from.was) in
    let why : c.from_residual.result ≡ Err c.in_err-try_from.field-0.0 = search rules in
    let fields = line_fields line c.in-32.len_at_least (search rules) in
    not_understood _ (request_fields line c.if-line-gt-LONGEST.false ∙ fields ∙ no_command (get_or line 0 0 ∷ []) (split 32 (drop 2 line)) none.1) (why ∙ ap Err none.0)

pub returns : goal.returns
returns c =
    let line = c.args.line.now in
    let some = command_some (get_or line 0 0) c.in_ok-try_from.field-0 (sym c.try_from.ensures ∙ c.in_ok-try_from.was) in
    let fields = line_fields line c.in-32.len_at_least (search rules) in
    rw (request_fields line c.if-line-gt-LONGEST.false, fields, some) (rw (part_behind 2 line) at c.read.ensures)
