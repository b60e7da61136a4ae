-- The line goes on with what stands in front of the line feed, and is answered where one is found.
use mathlib.Core.Path.{◌≡◌, refl, sym, ◌∙◌}
use native.Mathlib.Numerals.{add-one}
use lib.Dec.{eqb}
use lib.ListN.{length, take}
use borrow.Author.Tests.{tests, lt-ltb, le-ltb}
use Rattle.std.proofs.Common.{rules}
use Rattle.std.proofs.lemmas.Iterator.{YieldsList-from_slice}
use Rattle.std.proofs.lemmas.Iterator.Search.{position_from_yields_List}
use Rattle.text.specs.Inner.{before}
use Rattle.text.proofs.Parts.{before-take, before_all, place_found, place_none}
use Rattle.line.specs.Inner.{ends_in, used_by, kept_line, kept_of, kept_after, answer_after}
use Rattle.line.proofs.input.next.Goals as goal

pub returns-in_default : goal.returns-in_default
unfolding ends_in used_by kept_line kept_of kept_after answer_after
returns-in_default c =
    let rest = c.args.rest.now in
    let is = position_from_yields_List (λ x. eqb x 10) _ _ c.position.result c.position.ensures.ran (YieldsList-from_slice rest cc) (λ x b q k. search (rules, tests)) in
    let none = place_none 10 rest (sym is ∙ c.in_default.is) in
    let all = before_all 10 rest none in
    let goes_on = le-ltb (length (before 10 rest)) (length rest) none in
    record {
      used = rw goes_on refl;
      keeps = rw (goes_on, all) c.append.ensures.kept_after;
      collected = rw all c.append.ensures.chars_after;
      answered = rw goes_on (record { counted = refl; written = refl });
    }

pub returns : goal.returns
unfolding ends_in used_by kept_line kept_of kept_after answer_after
returns c =
    let rest = c.args.rest.now in
    let end = c.in-Some.end in
    let is = position_from_yields_List (λ x. eqb x 10) _ _ c.position.result c.position.ensures.ran (YieldsList-from_slice rest cc) (λ x b q k. search (rules, tests)) in
    let found = place_found 10 rest end (sym is ∙ c.in-Some.is) in
    let part : take end rest ≡ before 10 rest = rw found.0 (before-take 10 rest) in
    let ends = lt-ltb (length (before 10 rest)) (length rest) found.1 in
    let chars = rw part at c.append-2.ensures.chars_after in
    let kept = rw part at c.append-2.ensures.kept_after in
    record {
      used = rw (ends, found.0) (add-one _);
      keeps = rw ends c.clear.ensures.none_kept;
      collected = c.clear.ensures.chars_kept ∙ chars;
      answered = rw (ends, ← chars, ← kept) c.answer_kept-written.ensures;
    }
