-- What `decode` is lent is the part in front of the first `end`.
use Rattle.std.proofs.Common.{rules, ◌≡◌, refl, sym, ◌∙◌, take, length}
use borrow.Author.Tests.{tests, lt-ltb, le-ltb}
use lib.Dec.{eqb}
use Rattle.std.proofs.lemmas.Iterator.{YieldsList-from_slice}
use Rattle.std.proofs.lemmas.Iterator.Search.{position_from_yields_List}
use Rattle.text.specs.Inner.{before, field_of, decoded_in}
use Rattle.text.proofs.Parts.{before-take, place_found, place_none}
use Rattle.text.proofs.hex.decode_field.Goals as goal

pub returns-in_err-n : goal.returns-in_err-n
unfolding field_of decoded_in
returns-in_err-n c =
    let s = c.args.text.now in
    let e = c.args.end in
    let is = position_from_yields_List (λ x. eqb x e) _ _ c.position.result c.position.ensures.ran (YieldsList-from_slice s cc) (λ x b q k. search (rules, tests)) in
    let none = place_none e s (sym is ∙ c.in_err-n.was) in
    rw (c.from_residual.ensures, le-ltb (length (before e s)) (length s) none) (record { value = refl; out_after = refl })

pub returns : goal.returns
unfolding field_of
returns c =
    let s = c.args.text.now in
    let e = c.args.end in
    let is = position_from_yields_List (λ x. eqb x e) _ _ c.position.result c.position.ensures.ran (YieldsList-from_slice s cc) (λ x b q k. search (rules, tests)) in
    let found = place_found e s c.in_ok-n.n (sym is ∙ c.in_ok-n.was) in
    let part : take c.in_ok-n.n s ≡ before e s = rw (found.0) (before-take e s) in
    let short = lt-ltb (length (before e s)) (length s) found.1 in
    record { value = rw short (rw part at c.decode.ensures.value); out_after = rw part at c.decode.ensures.out_after }
