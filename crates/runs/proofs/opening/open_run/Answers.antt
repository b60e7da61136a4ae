-- The key and the tests are passed, so the blocks decide, under what was made of the key; the list is written where all of them opened.
use Prim.Native.Nat.{ℕ, ◌*◌}
use mathlib.Core.Path.{◌≡◌, sym, ap, ◌∙◌}
use mathlib.Core.Bool.{true}
use mathlib.Core.List.{List, [], ◌∷◌}
use lib.ListN.{length}
use Rattle.std.proofs.Common.{rules}
use Rattle.std.specs.Prelude.{Ok, Err}
use Rattle.strings.specs.Bytes.{Bytes}
use Rattle.strings.specs.Call.{number_of as number_of_tests, looks_at, left_by}
use Rattle.strings.specs.Cipher.{Scheme, Same}
use Rattle.strings.specs.declared.refusal.Refusal.TheVariants.{KeyLength}
use Rattle.strings.proofs.Refusals.{made, refusal_leaves}
use Rattle.layout.specs.Layout.{used}
use Rattle.layout.proofs.Parts.{whole_blocks}
use Rattle.layout.specs.Finding.{block_count}
use Rattle.pack.proofs.Same.{same_cipher}
use Rattle.runs.specs.Run.{blockwise}
use Rattle.runs.specs.NotOpened.{why_of}
use Rattle.runs.specs.Opening.{RunOpened, number_of, deciphered_run, used_lengths, tests_behind_key, tests, answer_of}
use Rattle.runs.specs.Inner.{OpensBlocks}
use Rattle.runs.proofs.Limits.{Admitted, openable, no_test_holds, in_range}
use Rattle.runs.proofs.Meaning.{means}
use Rattle.runs.proofs.Same.{same_in_turn, same_deciphered_run}
use Rattle.runs.proofs.Sizes.{left-length, deciphered-length, lengths_read}
use Rattle.runs.proofs.opening.open_run.Goals as goal

-- What the blocks answer and leave under the expanded key is what they do under the key.
module _ {S S' : Scheme} {key key' : List ℕ} (same : Same S key S' key') (pack first : ℕ) (lengths run : List ℕ) (a : Admitted S' key' first lengths run)
    {answer : RunOpened} {B : List ℕ} (o : OpensBlocks S key pack first run answer B) where
  answered : answer ≡ answer_of S' key' pack first lengths run
  answered = rw (no_test_holds S' key' first lengths run a) (o.in_turn_lem ∙ same_in_turn same pack first run (block_count run))

  left : B ≡ left_by (number_of answer) (deciphered_run S' key' pack first run) run
  left = rw (same_deciphered_run same pack first run) at o.left

-- What the tests tell that were passed.
admitted : (S : Scheme) (key : List ℕ) (first : ℕ) (lengths run : List ℕ) → S.is_key key ≡ true → looks_at (tests_behind_key first lengths run) ≡ Ok tt
    → Admitted S key first lengths run
admitted S key first lengths run is_key e =
    let told : looks_at (tests S key first lengths run) ≡ Ok tt = rw is_key e in
    openable S key first lengths run (ap number_of_tests told)

pub open_blocks-opened-requires : goal.open_blocks-opened-requires
open_blocks-opened-requires g c =
    let a = c.args in
    let S = g.S.Scheme.scheme in
    let known = admitted S a.key.now a.start.place a.lengths.now a.run.now (made _ _ KeyLength c.expand.ensures.value c.in_ok-expanded.was)
    (sym c.judge.ensures ∙ c.in_ok-judge.was) in
    in_range S a.key.now a.start.place a.lengths.now a.run.now known

pub returns-in_err-opened : goal.returns-in_err-opened
returns-in_err-opened g c =
    let a = c.args in
    let S = g.S.Scheme.scheme in
    let key = a.key.now in
    let pack = a.start.pack in
    let first = a.start.place in
    let lengths = a.lengths.now in
    let run = a.run.now in
    let known = admitted S key first lengths run (made _ _ KeyLength c.expand.ensures.value c.in_ok-expanded.was) (sym c.judge.ensures ∙ c.in_ok-judge.was) in
    let same = c.in_ok-expanded.ensures.same in
    let cipher = same_cipher same 16 512 (c.in_ok-expanded.ensures.by_index 512 g.S.Scheme.laws.takes_blocks) in
    let answer = c.from_residual-in_err-opened.result in
    let handed : answer ≡ c.open_blocks-opened.result = search rules in
    let refused : c.open_blocks-opened.result ≡ Err c.in_err-opened.field-0.0 = c.in_err-opened.was in
    let o = c.open_blocks-opened.ensures in
    let e = handed ∙ answered same pack first lengths run known o in
    let l : c.open_blocks-opened.new.run ≡ left_by (number_of answer) (deciphered_run S key pack first run) run = rw handed (left same pack first lengths run known o) in
    let list : lengths ≡ left_by (number_of answer) (used_lengths S key pack first run) lengths =
    rw (handed ∙ refused) (refusal_leaves (why_of c.in_err-opened.field-0.0) (used_lengths S key pack first run) lengths) in
    record {
      value = e;
      run_after = l;
      lengths_after = list;
      meaning = means S key cipher pack first run (λ i. (c.slice_known-2-1.given i).fits) lengths e list l;
    }

pub put_lengths-requires : goal.put_lengths-requires
put_lengths-requires g c =
    let a = c.args in
    let S = g.S.Scheme.scheme in
    let pack = a.start.pack in
    let first = a.start.place in
    let lengths = a.lengths.now in
    let run = a.run.now in
    let known = admitted S a.key.now first lengths run (made _ _ KeyLength c.expand.ensures.value c.in_ok-expanded.was) (sym c.judge.ensures ∙ c.in_ok-judge.was) in
    let same = c.in_ok-expanded.ensures.same in
    let cipher = same_cipher same 16 512 (c.in_ok-expanded.ensures.by_index 512 g.S.Scheme.laws.takes_blocks) in
    let opened = deciphered-length S a.key.now cipher pack first run (λ i. (c.slice_known-2-1.given i).fits) in
    let size = left-length (number_of c.open_blocks-opened.result) (512 * block_count run) (deciphered_run S a.key.now pack first run) run opened (sym (whole_blocks run known.is_run)) in
    rw (left same pack first lengths run known c.open_blocks-opened.ensures) (size ∙ ap (λ (n : ℕ). 512 * n) (sym known.list_length))

pub returns : goal.returns
returns g c =
    let a = c.args in
    let S = g.S.Scheme.scheme in
    let key = a.key.now in
    let pack = a.start.pack in
    let first = a.start.place in
    let lengths = a.lengths.now in
    let run = a.run.now in
    let known = admitted S key first lengths run (made _ _ KeyLength c.expand.ensures.value c.in_ok-expanded.was) (sym c.judge.ensures ∙ c.in_ok-judge.was) in
    let same = c.in_ok-expanded.ensures.same in
    let cipher = same_cipher same 16 512 (c.in_ok-expanded.ensures.by_index 512 g.S.Scheme.laws.takes_blocks) in
    let bytes : Bytes run = λ i. (c.slice_known-2-1.given i).fits in
    let o = rw c.in_ok-opened.was at c.open_blocks-opened.ensures in
    let e = answered same pack first lengths run known o in
    let l : c.open_blocks-opened.new.run ≡ deciphered_run S key pack first run = left same pack first lengths run known o in
    let read : blockwise (λ i B. used B ∷ []) (length lengths) (deciphered_run S key pack first run) ≡ used_lengths S key pack first run =
    rw known.list_length (lengths_read S key cipher pack first run bytes) in
    let list : c.put_lengths.new.lengths ≡ used_lengths S key pack first run = rw (c.put_lengths.ensures, l) read in
    record {
      value = e;
      run_after = l;
      lengths_after = list;
      meaning = means S key cipher pack first run bytes lengths e list l;
    }
