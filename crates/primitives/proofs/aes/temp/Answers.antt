-- At the first of Nk words, in the middle of eight, and elsewhere.
use mathlib.Core.Bool.{and-false}
use Rattle.std.proofs.Common.{arith, le-ltb, lt-ltb, ne_eqb}
use Rattle.strings.specs.Xor.{◌⊕◌}
use Rattle.primitives.proofs.Words.{temp_place}
use Rattle.primitives.proofs.aes.temp.Goals as goal

pub returns-then-place-eq0 : goal.returns-then-place-eq0
unfolding ◌⊕◌
returns-then-place-eq0 c =
    let a = c.args in
    rw (c.round_constant.ensures, c.sub_word.ensures, c.rot_word.ensures, temp_place a.nk a.place.j a.place.m a.before c.requires.3, c.if-place-eq0.true)

pub returns-then-nk-le6 : goal.returns-then-nk-le6
returns-then-nk-le6 c =
    let a = c.args in
    rw (temp_place a.nk a.place.j a.place.m a.before c.requires.3, ne_eqb a.place.m 0 c.if-place-eq0.false, le-ltb 6 a.nk c.if-nk-le6.true)

pub returns-then-place-ne4 : goal.returns-then-place-ne4
returns-then-place-ne4 c =
    let a = c.args in
    rw (temp_place a.nk a.place.j a.place.m a.before c.requires.3, ne_eqb a.place.m 0 c.if-place-eq0.false, ne_eqb a.place.m 4 c.if-place-ne4.true, and-false)

pub returns : goal.returns
returns c =
    let a = c.args in
    rw (
      c.sub_word-2.ensures,
      temp_place a.nk a.place.j a.place.m a.before c.requires.3,
      ne_eqb a.place.m 0 c.if-place-eq0.false,
      lt-ltb 6 a.nk (omega (arith, c.if-nk-le6.false)),
      c.if-place-ne4.false,
    )
