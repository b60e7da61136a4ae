-- The test is whether there is room for all of `more`; a number that does not fit is past every end.
use Rattle.std.proofs.Common.{refl, arith, ◌≡◌, ◌+◌, ◌<◌, length}
use Rattle.std.proofs.lemmas.Bool.Decides.{nat_tests}
use borrow.Author.Tests.{lt-leb}
use Rattle.text.specs.Inner.{line_with, kept_with}
use Rattle.text.proofs.part.append.Goals as goal

pub returns-in_err-n : goal.returns-in_err-n
unfolding line_with kept_with
returns-in_err-n c = rw (c.in_err-n.was, c.from_residual.ensures) (record { value = refl; line_after = refl })

pub returns-in_err-end : goal.returns-in_err-end
unfolding line_with kept_with
returns-in_err-end c =
    let e : length c.args.line.now < c.in_ok-n.n + length c.args.more.now = grind arith in
    rw (c.in_ok-n.was, lt-leb _ _ e) (record { value = c.from_residual-in_err-end.ensures; line_after = c.write.ensures })

pub returns : goal.returns
unfolding line_with kept_with
returns c =
    let e : c.in_ok-end.end ≡ c.in_ok-n.n + length c.args.more.now = grind arith in
    rw (c.in_ok-n.was, ← e) (record { value = grind (arith, nat_tests); line_after = c.write.ensures })
