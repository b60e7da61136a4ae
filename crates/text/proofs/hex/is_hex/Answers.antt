-- Where the length is even the characters decide.
use Rattle.std.proofs.Common.{rules, ◌%◌, length}
use borrow.Author.Tests.{eq-eqb, ne_eqb, tests}
use Rattle.std.proofs.lemmas.Iterator.{YieldsList-from_slice}
use Rattle.std.proofs.lemmas.Iterator.Search.{all_from_yields_List}
use Rattle.text.specs.Hex.{is_digit, is_hex}
use Rattle.text.proofs.Digits.{all_digits_is}
use Rattle.text.proofs.hex.is_hex.Goals as goal

pub returns-then-text-eq0 : goal.returns-then-text-eq0
unfolding is_hex
returns-then-text-eq0 c =
    let s = c.args.text.now in
    let all = all_from_yields_List is_digit _ _ c.all.result c.all.ensures.ran (YieldsList-from_slice s cc) (λ x b q k. search (rules, tests)) in
    rw (eq-eqb (length s % 2) 0 c.if-text-eq0.true, all_digits_is s) all

pub returns-else-text-eq0 : goal.returns-else-text-eq0
unfolding is_hex
returns-else-text-eq0 c = rw (ne_eqb (length c.args.text.now % 2) 0 c.if-text-eq0.false) cc
