-- Where no test holds, the plain block is laid out and enciphered under its tweak.
use Rattle.std.proofs.Common.{◌≡◌, true, sym, ap, ◌∙◌}
use Rattle.std.specs.Prelude.{Ok}
use borrow.Author.Tests.{eq-eqb}
use Rattle.strings.specs.Call.{number_of}
use Rattle.strings.specs.declared.refusal.Refusal.TheVariants.{KeyLength}
use Rattle.strings.proofs.Refusals.{made}
use Rattle.layout.specs.Layout.{plain_block, tweak}
use Rattle.layout.proofs.Check.{both_fit, length_plain, tweak_of_length}
use Rattle.pack.specs.Inner.{on_block}
use Rattle.pack.specs.Sealing.{seal as sealed_by, WithinLimits, answer_of}
use Rattle.pack.proofs.OneBlock.{sealable, one_block}
use Rattle.pack.proofs.Same.{same_cipher}
use Rattle.pack.proofs.sealing.seal.Goals as goal

pub returns : goal.returns
unfolding sealed_by on_block
returns g c =
    let a = c.args in
    let S = g.S.Scheme.scheme in
    let key = a.key.now in
    let payload = a.payload.now in
    let pack = a.position.pack in
    let place = a.position.place in
    let is_key : S.is_key key ≡ true = made _ _ KeyLength c.expand.ensures.value c.in_ok-expanded.was in
    let value : answer_of S key payload place a.block.now ≡ Ok tt = rw is_key (sym c.judge.ensures ∙ c.in_ok-judge.was) in
    let s = sealable S key payload place a.block.now (ap number_of value) in
    let limits : WithinLimits payload place = record {
      payload_bytes = λ i. (c.type_inv.payload i).fits;
      payload_length = s.payload_length;
      place_limit = s.place_limit;
    } in
    let same = c.in_ok-expanded.ensures.same in
    let plain : c.write.new.block ≡ plain_block payload pack place =
    rw (c.write.ensures, both_fit payload a.block.now s.payload_length s.block_length) in
    let size = length_plain payload pack place s.payload_length in
    let left : c.encipher.new.block ≡ sealed_by S key payload pack place =
    rw (c.encipher.ensures.block_after, plain, eq-eqb _ 512 size, same.enciphers) in
    let cipher = same_cipher same 16 512 (c.in_ok-expanded.ensures.by_index 512 g.S.Scheme.laws.takes_blocks) (tweak pack place) (tweak_of_length pack place) in
    record {
      value = sym value;
      block_after = left;
      one_block = λ e. rw left (one_block S key pack place cipher payload s.is_key_lem limits);
    }
