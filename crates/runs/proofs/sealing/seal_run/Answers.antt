-- Where no test holds, the blocks are sealed in turn under what was made of the key.
use Rattle.std.proofs.Common.{◌≡◌, true, sym, ap, ◌∙◌, arith}
use Rattle.std.specs.Prelude.{Ok}
use Rattle.strings.specs.Call.{number_of}
use Rattle.strings.specs.declared.refusal.Refusal.TheVariants.{KeyLength}
use Rattle.strings.proofs.Refusals.{made}
use Rattle.pack.proofs.Same.{same_cipher}
use Rattle.runs.specs.Sealing.{sealed_run, answer_of}
use Rattle.runs.proofs.Limits.{sealable, in_range}
use Rattle.runs.proofs.OneRun.{sealed_one}
use Rattle.runs.proofs.Same.{same_sealed}
use Rattle.runs.proofs.sealing.seal_run.Goals as goal

pub seal_blocks-requires : goal.seal_blocks-requires
seal_blocks-requires g c =
    let a = c.args in
    let S = g.S.Scheme.scheme in
    let is_key : S.is_key a.key.now ≡ true = made _ _ KeyLength c.expand.ensures.value c.in_ok-expanded.was in
    let value : answer_of S a.key.now a.start.place a.lengths.now a.run.now ≡ Ok tt = rw is_key (sym c.judge.ensures ∙ c.in_ok-judge.was) in
    let s = sealable S a.key.now a.start.place a.lengths.now a.run.now (ap number_of value) in
    let r = in_range S a.key.now a.start.place a.lengths.now a.run.now s.0 in
    record {
      whole = omega (arith, r.whole, s.0.list_length);
      places = omega (arith, r.places, s.0.list_length);
      limit = s.1;
    }

pub returns : goal.returns
returns g c =
    let a = c.args in
    let S = g.S.Scheme.scheme in
    let key = a.key.now in
    let lengths = a.lengths.now in
    let run = a.run.now in
    let is_key : S.is_key key ≡ true = made _ _ KeyLength c.expand.ensures.value c.in_ok-expanded.was in
    let value : answer_of S key a.start.place lengths run ≡ Ok tt = rw is_key (sym c.judge.ensures ∙ c.in_ok-judge.was) in
    let same = c.in_ok-expanded.ensures.same in
    let cipher = same_cipher same 16 512 (c.in_ok-expanded.ensures.by_index 512 g.S.Scheme.laws.takes_blocks) in
    let left : c.seal_blocks.new.run ≡ sealed_run S key a.start.pack a.start.place lengths run =
    c.seal_blocks.ensures ∙ same_sealed same a.start.pack a.start.place run lengths in
    record {
      value = sym value;
      run_after = left;
      one_run = λ e. rw left (sealed_one S key cipher a.start.pack a.start.place lengths run (λ i. (c.slice_known-1.given i).fits) (ap number_of value));
    }
