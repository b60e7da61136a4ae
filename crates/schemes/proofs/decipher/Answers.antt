-- A cipher sends exactly one message to what was lent.
use Rattle.strings.proofs.OnMessages.{one_plaintext}
use Rattle.schemes.proofs.decipher.Goals as goal

pub returns-clause-one_plaintext : goal.returns-clause-one_plaintext
returns-clause-one_plaintext g c =
    let args = c.args in
    let e = c.decipher_with.ensures in
    one_plaintext g.S.Scheme.scheme args.key.now args.tweak.now args.ciphertext.now c.in_ok-expanded.ensures.same e.cipher e.ciphertext_after (λ i. (c.slice_known-1.given i).fits)
