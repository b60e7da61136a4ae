-- What passes its check is opened; what fails it is enciphered again, which gives the lent bytes back.
use mathlib.Core.Path.{◌≡◌, sym, ap, ◌∙◌}
use mathlib.Core.Bool.{true, false}
use mathlib.Core.List.{[]}
use borrow.Author.Tests.{eq-eqb}
use lib.ListN.{length}
use Rattle.std.specs.Prelude.{Ok, Err}
use Rattle.strings.specs.Bytes.{Bytes}
use Rattle.strings.proofs.Refusals.{refusal_leaves}
use Rattle.layout.proofs.Check.{read_passed, read_failed}
use Rattle.pack.specs.Opening.{failure, deciphered_block}
use Rattle.pack.specs.Inner.{on_block}
use Rattle.pack.proofs.OneBlock.{Openable, by_check, given_back, opens}
use Rattle.pack.proofs.opening.open_block.Goals as goal

pub returns-in_default : goal.returns-in_default
unfolding deciphered_block on_block
returns-in_default g c =
    let a = c.args in
    let S = g.S.Scheme.under a.expanded in
    let C = a.block.now in
    let pack = a.position.pack in
    let place = a.position.place in
    let size = c.requires.0 in
    let B = deciphered_block S [] pack place C in
    let o : Openable S [] place C = record { is_key_lem = g.S.Scheme.laws.any_key a.expanded []; block_length = size; place_limit = c.requires.1 } in
    let cipher = c.decipher.ensures.cipher_at size in
    let bytes : Bytes C = λ i. (c.slice_known-1.given i).fits in
    let plain : c.decipher.new.sealed ≡ B = rw (c.decipher.ensures.sealed_after, eq-eqb (length C) 512 size) in
    let long : length B ≡ 512 = (cipher.inverse_keeps C (size, bytes)).0 in
    let failed = read_failed pack place B (sym c.in_default.is ∙ rw plain at c.read.ensures) in
    let left : c.encipher.new.block ≡ C =
    rw (c.encipher.ensures.block_after, plain, eq-eqb (length B) 512 long) (given_back S [] pack place cipher C (size, bytes)) in
    let why : c.failure.result ≡ failure C = rw left at c.failure.ensures in
    opens S [] pack place cipher C _ (Err _) bytes (ap Err why ∙ sym (by_check S [] pack place C o false failed))
    (left ∙ refusal_leaves c.failure.result B C)

pub returns : goal.returns
unfolding deciphered_block on_block
returns g c =
    let a = c.args in
    let S = g.S.Scheme.under a.expanded in
    let C = a.block.now in
    let pack = a.position.pack in
    let place = a.position.place in
    let size = c.requires.0 in
    let B = deciphered_block S [] pack place C in
    let o : Openable S [] place C = record { is_key_lem = g.S.Scheme.laws.any_key a.expanded []; block_length = size; place_limit = c.requires.1 } in
    let cipher = c.decipher.ensures.cipher_at size in
    let bytes : Bytes C = λ i. (c.slice_known-1.given i).fits in
    let plain : c.decipher.new.sealed ≡ B = rw (c.decipher.ensures.sealed_after, eq-eqb (length C) 512 size) in
    let passed = read_passed pack place B c.in-Some.u (sym c.in-Some.is ∙ rw plain at c.read.ensures) in
    opens S [] pack place cipher C _ (Ok _) bytes (rw passed.1 (sym (by_check S [] pack place C o true passed.0))) plain
