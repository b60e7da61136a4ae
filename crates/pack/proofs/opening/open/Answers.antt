-- What was made of the key does what the scheme does under it.
use Rattle.std.proofs.Common.{◌∙◌}
use Rattle.layout.specs.Layout.{tweak}
use Rattle.layout.proofs.Check.{tweak_of_length}
use Rattle.pack.proofs.OneBlock.{opens}
use Rattle.pack.proofs.Same.{same_cipher, same_deciphered, same_answer}
use Rattle.pack.proofs.opening.open.Goals as goal

pub returns : goal.returns
returns g c =
    let a = c.args in
    let pack = a.position.pack in
    let place = a.position.place in
    let S = g.S.Scheme.scheme in
    let same = c.in_ok-expanded.ensures.same in
    let cipher = same_cipher same 16 512 (c.in_ok-expanded.ensures.by_index 512 g.S.Scheme.laws.takes_blocks) in
    let e = c.open_with.ensures in
    let opened =
    opens S a.key.now pack place (cipher (tweak pack place) (tweak_of_length pack place)) a.block.now _ _
    (λ i. (c.slice_known-1.given i).fits) (e.value ∙ same_answer same pack place a.block.now) (rw (same_deciphered same pack place a.block.now) at e.block_after) in
    record { value = opened.answered; block_after = opened.left; meaning = opened.meaning }
