-- What an answer of opening a run means: where it was opened, what is left seals to it; where it was not, which block will not open, and by which number.
-- Assumes nothing.
use Prim.Native.Nat.{ℕ, ◌+◌, ◌*◌, ◌<◌}
use mathlib.Core.Path.{◌≡◌, refl, sym, ap, ◌∙◌}
use mathlib.Core.Bool.{false}
use mathlib.Core.Logic.{inl, inr, ⊎_elim}
use mathlib.Core.List.{List, [], ◌∷◌}
use native.Mathlib.Nat.{one-mul}
use native.Mathlib.Omega.{arith}
use lib.ListN.{get_or, take}
use lib.Seq.{take_all}
use Rattle.strings.specs.Bytes.{Bytes}
use Rattle.strings.specs.Call.{refusal_number, number_of as number_of_block, looks_at, left_by}
use Rattle.strings.specs.Cipher.{TweakableCipher, Scheme}
use Rattle.std.specs.Prelude.{Err}
use Rattle.strings.specs.declared.refusal.Refusal.{Refusal}
use Rattle.strings.proofs.Refusals.{refusal_range}
use Rattle.layout.specs.Layout.{used, payload_of}
use Rattle.layout.specs.Finding.{block_count, part}
use Rattle.layout.proofs.Parts.{is_pack_lem, whole_blocks}
use Rattle.pack.specs.Sealing.{seal}
use Rattle.pack.specs.Opening.{deciphered_block, Unopened as BlockUnopened}
use Rattle.pack.proofs.OneBlock.{FromPayload, opened_from, unopened as block_unopened}
use Rattle.runs.specs.Run.{blockwise}
use Rattle.runs.specs.Sealing.{some_over, payload_at, sealed_run}
use Rattle.runs.specs.Opening.{RunOpened, number_of, values_of, deciphered_run, used_lengths, in_turn, tests, answer_of, OneRun, block_number, BlockOpens, NumberAt, FirstNumber, Unopened, UnopenedMeaning, Meaning}
use Rattle.runs.specs.Theorems.{WithinLimits}
use Rattle.runs.specs.declared.opening.NotOpened.TheVariants.{Refused}
use Rattle.runs.proofs.Answers.{FailsAt, AllOpen, in_turn_lem, each_opens, same_block}
use Rattle.runs.proofs.Blocks.{length-blockwise, blockwise_same, blockwise_self}
use Rattle.runs.proofs.Limits.{both_done, Admitted, openable, no_test_holds, in_range}
use Rattle.runs.proofs.Lists.{some_over_lem}
use Rattle.runs.proofs.OneRun.{one_run}
use Rattle.runs.proofs.Sizes.{at, part_of_length, deciphered-part, used-part, deciphered-length}

module _ (S : Scheme) (key : List ℕ) (cipher : TweakableCipher 16 512 (S.encipher key) (S.decipher key)) (pack first : ℕ) (run : List ℕ) (b : Bytes run) where
  -- ---- the number of a block that will not open, and its place

  module _ (lengths : List ℕ) (a : Admitted S key first lengths run) (i : ℕ) (h : i < block_count run) where
    by_blocks : answer_of S key pack first lengths run ≡ in_turn S key pack first (block_count run) run
    by_blocks = rw (no_test_holds S key first lengths run a)

    number_told : (n : ℕ) → 0 < n → NumberAt (answer_of S key pack first lengths run) n first i → FirstNumber S n key pack first run i
    number_told n some e =
        let count = block_count run in
        ⊎_elim (λ (all : AllOpen S key pack first run count). absurd (omega (arith, some, sym (ap number_of (by_blocks ∙ all.answered)) ∙ e.0)))
        (λ (f : FailsAt S key pack first run count).
        let told = by_blocks ∙ f.answered in
        let place : first + f.block ≡ first + i = ap (λ (l : List ℕ). get_or l 0 0) (sym (ap values_of told) ∙ e.1) in
        let same : f.block ≡ i = omega (arith, place) in
        let number : refusal_number f.why ≡ n = sym (ap number_of told) ∙ e.0 in
        let refused : block_number S key pack first run i ≡ n = rw same at (ap number_of_block f.refused ∙ number) in
        (refused, rw same at f.before)) (in_turn_lem S key pack first run count)

    number_answered : (n : ℕ) → 0 < n → FirstNumber S n key pack first run i → NumberAt (answer_of S key pack first lengths run) n first i
    number_answered n some e =
        let count = block_count run in
        let shut : BlockOpens S key pack first run i → ⊥ = λ opens. omega (arith, some, sym e.0 ∙ opens) in
        ⊎_elim (λ (all : AllOpen S key pack first run count). absurd (shut (all.each i h)))
        (λ (f : FailsAt S key pack first run count).
        let same = same_block S key pack first run count f i shut e.1 in
        let told = by_blocks ∙ f.answered in
        let number : refusal_number f.why ≡ n = sym (ap number_of_block f.refused) ∙ rw same e.0 in
        (ap number_of told ∙ number, ap values_of told ∙ ap (λ (k : ℕ). (first + k) ∷ []) same)) (in_turn_lem S key pack first run count)

    of_block_lem : BlockUnopened S (block_number S key pack first run i) key pack (first + i) (part i run)
    of_block_lem =
        let p = part_of_length i run b (omega (arith, h)) in
        block_unopened S key pack (first + i) (at S key cipher pack first (first + i)) (part i run) p.1 a.is_key_lem p.0 (omega (arith, (in_range S key first lengths run a).places, h))

    at_block : Unopened S (answer_of S key pack first lengths run) key pack first run i
    at_block =
        let answer = answer_of S key pack first lengths run in
        let told8 = number_told 8 (omega arith) in
        let told12 = number_told 12 (omega arith) in
        let answered8 = number_answered 8 (omega arith) in
        let answered12 = number_answered 12 (omega arith) in
        record {
          first_number = λ n some. (number_told n some, number_answered n some);
          eight_or_twelve = (
            ⊎_elim (λ (e : NumberAt answer 8 first i). (of_block_lem.eight_or_twelve.0 (inl (told8 e).0), (told8 e).1))
                (λ (e : NumberAt answer 12 first i). (of_block_lem.eight_or_twelve.0 (inr (told12 e).0), (told12 e).1)),
            λ f. ⊎_elim (λ e. inl (answered8 (e, f.1))) (λ e. inr (answered12 (e, f.1))) (of_block_lem.eight_or_twelve.1 f.0),
          );
          twelve = (
            λ e. let zero = of_block_lem.twelve.0 (told12 e).0 in ((zero.0, (told12 e).1), zero.1),
            λ f zero. answered12 (of_block_lem.twelve.1 f.0 zero, f.1),
          );
        }

  pub unopened : (lengths : List ℕ) → UnopenedMeaning S (answer_of S key pack first lengths run) key pack first lengths run
  unopened lengths k whole list last i h =
      let a : Admitted S key first lengths run = record { is_key_lem = k; is_run = whole; list_length = list; last_place_lem = last } in
      at_block lengths a i h

  -- ---- a run that was opened

  module _ (lengths : List ℕ) (e : number_of (answer_of S key pack first lengths run) ≡ 0) where
    parts_done : (number_of (in_turn S key pack first (block_count run) run) ≡ 0) × Admitted S key first lengths run
    parts_done =
        let d = both_done (looks_at (tests S key first lengths run)) (in_turn S key pack first (block_count run) run) e in
        (d.1, openable S key first lengths run d.0)

    pub known : Admitted S key first lengths run
    known = parts_done.1

    pub opens : (i : ℕ) → i < block_count run → BlockOpens S key pack first run i
    opens = each_opens S key pack first run (block_count run) parts_done.0

    from : (i : ℕ) → i < block_count run
        → FromPayload S key pack (first + i) (at S key cipher pack first (first + i)) (part i run) (deciphered_block S key pack (first + i) (part i run))
    from i h = opened_from S key pack (first + i) (at S key cipher pack first (first + i)) (part i run) (part_of_length i run b (omega (arith, h))).1 (opens i h)

    used_limit : some_over 496 (used_lengths S key pack first run) ≡ false
    unfolding used_lengths
    used_limit =
        let size = rw one-mul at (length-blockwise 1 (λ i C. used (deciphered_block S key pack (first + i) C) ∷ []) run (block_count run) (λ i h. refl)) in
        some_over_lem 496 (used_lengths S key pack first run) (λ i h. let below = rw size at h in rw (used-part S key cipher pack first run b i below) (from i below).used_limit)

    -- The payload that is left in block i.
    left_payload : (i : ℕ) → i < block_count run
        → payload_at (used_lengths S key pack first run) (deciphered_run S key pack first run) i ≡ payload_of (deciphered_block S key pack (first + i) (part i run))
    left_payload i h = rw (used-part S key cipher pack first run b i h, deciphered-part S key cipher pack first run b i h)

    seals : blockwise (λ i B. seal S key (payload_at (used_lengths S key pack first run) (deciphered_run S key pack first run) i) pack (first + i)) (block_count run)
        (deciphered_run S key pack first run) ≡ run
    seals =
        let lengths' = used_lengths S key pack first run in
        let B = deciphered_run S key pack first run in
        blockwise_same (λ i C. seal S key (payload_at lengths' B i) pack (first + i)) (λ i C. C) (block_count run) B run
        (λ i h. rw (left_payload i h) (from i h).seals)
        ∙ blockwise_self (block_count run) run ∙ take_all (512 * block_count run) run (omega (arith, sym (whole_blocks run known.is_run)))

    sealed : sealed_run S key pack first (used_lengths S key pack first run) (deciphered_run S key pack first run) ≡ run
    unfolding sealed_run
    sealed =
        let lengths' = used_lengths S key pack first run in
        let B = deciphered_run S key pack first run in
        let n : block_count B ≡ block_count run = omega (arith, deciphered-length S key cipher pack first run b) in
        rw n
        (blockwise_same (λ i C. seal S key (take (get_or lengths' i 0) C) pack (first + i)) (λ i C. seal S key (payload_at lengths' B i) pack (first + i)) (block_count run) B B
        (λ i h. refl) ∙ seals)

    one : OneRun S key (block_count run) (payload_at (used_lengths S key pack first run) (deciphered_run S key pack first run)) pack first run
    one =
        let lengths' = used_lengths S key pack first run in
        let B = deciphered_run S key pack first run in
        let range = is_pack_lem run known.is_run in
        let w : WithinLimits (block_count run) (payload_at lengths' B) first = record {
          at_least = range.1;
          at_most = range.2;
          payload_bytes = λ i h. rw (left_payload i h) (from i h).payload_bytes;
          payload_length = λ i h. rw (left_payload i h) (from i h).payload_length;
          place_limit = (in_range S key first lengths run known).places;
        } in
        rw seals at (one_run S key cipher known.is_key_lem pack first (payload_at lengths' B) (block_count run) w B)

  -- So an answer by the definition means what it is to mean.
  pub meaning : (lengths : List ℕ)
      → let answer = answer_of S key pack first lengths run in
      Meaning S answer key pack first lengths run (left_by (number_of answer) (used_lengths S key pack first run) lengths) (left_by (number_of answer) (deciphered_run S key pack first run) run)
  meaning lengths = record {
    used_limit = λ e. rw e (used_limit lengths e);
    sealed = λ e. rw e (sealed lengths e);
    one_run = λ e. rw e (one lengths e);
    unopened = unopened lengths;
  }

  pub means : (lengths : List ℕ) {answer : RunOpened} {lengths' B : List ℕ} → answer ≡ answer_of S key pack first lengths run
      → lengths' ≡ left_by (number_of answer) (used_lengths S key pack first run) lengths → B ≡ left_by (number_of answer) (deciphered_run S key pack first run) run
      → Meaning S answer key pack first lengths run lengths' B
  means lengths e l r = rw (l, r, e) (meaning lengths)

-- A refusal before a block is opened is the answer, and the numbers 1, 10, 11 and 6 do not leave a block's number to be asked for.
module _ (S : Scheme) (key : List ℕ) (pack first : ℕ) (lengths run : List ℕ) {why : Refusal} (e : looks_at (tests S key first lengths run) ≡ Err why) where
  pub refused_answer : answer_of S key pack first lengths run ≡ Err (Refused why)
  refused_answer = rw e

  pub refused_meaning : Meaning S (Err (Refused why)) key pack first lengths run lengths run
  refused_meaning =
      let some : refusal_number why ≡ 0 → ⊥ = λ z. omega (arith, (refusal_range why).0, z) in
      record {
        used_limit = λ z. absurd (some z);
        sealed = λ z. absurd (some z);
        one_run = λ z. absurd (some z);
        unopened = λ k whole list last i h.
            let a : Admitted S key first lengths run = record { is_key_lem = k; is_run = whole; list_length = list; last_place_lem = last } in
            absurd (some (ap number_of_block (sym e ∙ no_test_holds S key first lengths run a)));
      }
