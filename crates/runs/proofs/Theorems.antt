-- The theorems that specs/Theorems.antt names.
-- Assumes nothing.
use Prim.Native.Nat.{ℕ, suc, ◌+◌, ◌-◌, ◌*◌, ◌≤◌, ◌<◌}
use mathlib.Core.Path.{◌≡◌, refl, sym, ap, ◌∙◌}
use mathlib.Core.Bool.{true}
use mathlib.Core.List.{List, [], ◌∷◌, ◌++◌}
use native.Mathlib.Omega.{arith}
use borrow.Author.Tests.{eq-eqb, le-ltb}
use lib.ListN.{length, get_or, take, drop, replicate, length-take, length-append, length-replicate}
use lib.Seq.{take_at}
use Rattle.strings.specs.Bytes.{Bytes}
use Rattle.strings.specs.Call.{number_of as number_of_block}
use Rattle.strings.specs.Cipher.{TweakableCipher, Scheme}
use Rattle.std.specs.Prelude.{Ok}
use Rattle.strings.proofs.Bytes.{below_append, below_take, below_drop}
use Rattle.layout.specs.Finding.{block_count, part, with_part}
use Rattle.layout.proofs.Parts.{part_length, with_length, part_with_other, count_of, whole_blocks}
use Rattle.pack.specs.Sealing.{seal, answer_of as answer_of_block_sealing}
use Rattle.pack.specs.Opening.{values_of as values_of_block, deciphered_block, answer_of as answer_of_block}
use Rattle.pack.proofs.OneBlock.{opened_answer}
use Rattle.runs.specs.Run.{one_by_one, OrderOf}
use Rattle.runs.specs.Sealing.{payload_at, sealed_run, answer_of as answer_of_sealing}
use Rattle.runs.specs.Opening.{number_of, deciphered_run, used_lengths, answer_of, lengths_of, OneRun}
use Rattle.runs.specs.Theorems.{sealing_call, opening_call, WithinLimits, Holds, laid_out, Runs, Theorems}
use Rattle.runs.proofs.Blocks.{length-blockwise, part-blockwise, blockwise_same}
use Rattle.runs.proofs.Limits.{sealable, in_range}
use Rattle.runs.proofs.Lists.{none_over}
use Rattle.runs.proofs.Meaning.{known, opens, unopened}
use Rattle.runs.proofs.OneRun.{get_or-lengths_of, one_run as one_of_payloads}
use Rattle.runs.proofs.Orders.{in_any_order}
use Rattle.runs.proofs.Sizes.{sealed_length, deciphered_of_length, deciphered-part, used-part}

bytes_with : (i : ℕ) (block run : List ℕ) → Bytes block → Bytes run → Bytes (with_part i block run)
unfolding with_part
bytes_with i block run hb hr =
    below_append (take (512 * i) run) (block ++ drop (512 * suc i) run) (below_take (512 * i) run hr)
    (below_append block (drop (512 * suc i) run) hb (below_drop (512 * suc i) run hr))

module _ (S : Scheme) (key : List ℕ) (k : S.is_key key ≡ true) (cipher : TweakableCipher 16 512 (S.encipher key) (S.decipher key)) where
  -- ---- as the one-block calls

  module _ (first : ℕ) (lengths run : List ℕ) (e : number_of_block (answer_of_sealing S key first lengths run) ≡ 0) where
    seals_block : (i : ℕ) → i < block_count run → answer_of_block_sealing S key (payload_at lengths run i) (first + i) (part i run) ≡ Ok tt
    seals_block i h =
        let s = sealable S key first lengths run e in
        let payload = payload_at lengths run i in
        let short : length payload ≤ 496 = rw length-take (omega (arith, none_over 496 lengths s.1 i)) in
        let place : first + i ≤ 65535 = omega (arith, (in_range S key first lengths run s.0).places, h) in
        rw (s.0.is_key_lem, eq-eqb _ 512 (part_length i run (omega (arith, h))), le-ltb 496 (length payload) short, le-ltb 65535 (first + i) place) refl

    sealed_one_by_one : (pack : ℕ) → Bytes run → (order : List ℕ) → OrderOf (block_count run) order
        → one_by_one (sealing_call S key pack first lengths) order run ≡ sealed_run S key pack first lengths run
    unfolding sealed_run
    sealed_one_by_one pack b order each =
        let s = sealable S key first lengths run e in
        let work : (i : ℕ) → i < block_count run → sealing_call S key pack first lengths i (part i run) ≡ seal S key (payload_at lengths run i) pack (first + i) =
        λ i h. rw (seals_block i h) in
        in_any_order (sealing_call S key pack first lengths) (block_count run) run order (sym (whole_blocks run s.0.is_run)) each
        (λ i h. rw (work i h) (sealed_length S key cipher pack first run b i (omega (arith, h)) (get_or lengths i 0) (none_over 496 lengths s.1 i)))
        ∙ blockwise_same (sealing_call S key pack first lengths) (λ i B. seal S key (take (get_or lengths i 0) B) pack (first + i)) (block_count run) run run work

  module _ (pack first : ℕ) (lengths run : List ℕ) (b : Bytes run) (e : number_of (answer_of S key pack first lengths run) ≡ 0) where
    opens_block : (i : ℕ) → i < block_count run → number_of_block (answer_of_block S key pack (first + i) (part i run)) ≡ 0
    opens_block = opens S key cipher pack first run b lengths e

    opened_one_by_one : (order : List ℕ) → OrderOf (block_count run) order → one_by_one (opening_call S key pack first) order run ≡ deciphered_run S key pack first run
    unfolding deciphered_run
    opened_one_by_one order each =
        let work : (i : ℕ) → i < block_count run → opening_call S key pack first i (part i run) ≡ deciphered_block S key pack (first + i) (part i run) =
        λ i h. rw (opens_block i h) in
        in_any_order (opening_call S key pack first) (block_count run) run order (sym (whole_blocks run (known S key cipher pack first run b lengths e).is_run)) each
        (λ i h. rw (work i h) (deciphered_of_length S key cipher pack first run b i (omega (arith, h))).0)
        ∙ blockwise_same (opening_call S key pack first) (λ i C. deciphered_block S key pack (first + i) C) (block_count run) run run work

  -- ---- a run with another block

  others_open : (pack first : ℕ) (run : List ℕ) → Bytes run → (i : ℕ) (block : List ℕ) → i < block_count run → length block ≡ 512 → Bytes block
      → let changed = with_part i block run in
      (j : ℕ) → j < block_count run → (j ≡ i → ⊥)
      → (part j (deciphered_run S key pack first changed) ≡ part j (deciphered_run S key pack first run))
      × (get_or (used_lengths S key pack first changed) j 0 ≡ get_or (used_lengths S key pack first run) j 0)
  others_open pack first run b i block h long hb j l apart =
      let changed = with_part i block run in
      let room : 512 * i + 512 ≤ length run = omega (arith, h) in
      let n : block_count changed ≡ block_count run = rw (with_length i block run room long) in
      let there : j < block_count changed = rw n l in
      let same = part_with_other i block run room long j apart (omega (arith, l)) in
      let b' = bytes_with i block run hb b in (
        rw (deciphered-part S key cipher pack first changed b' j there, same) (sym (deciphered-part S key cipher pack first run b j l)),
        rw (used-part S key cipher pack first changed b' j there, same) (sym (used-part S key cipher pack first run b j l)),
      )

  -- ---- exactly one run

  one_run : (n : ℕ) (payload : ℕ → List ℕ) (pack first : ℕ) → WithinLimits n payload first → (run : List ℕ) → Holds n payload run
      → OneRun S key n payload pack first (sealed_run S key pack first (lengths_of payload n) run)
  unfolding sealed_run
  one_run n payload pack first w run held =
      rw (
        count_of n run held.run_length,
        blockwise_same (λ i B. seal S key (take (get_or (lengths_of payload n) i 0) B) pack (first + i)) (λ i B. seal S key (payload i) pack (first + i)) n run run
            (λ i h. rw (get_or-lengths_of payload n i h, held.in_front i h)),
      )
      (one_of_payloads S key cipher k pack first payload n w run)

any_cipher : (S : Scheme) (key : List ℕ) → S.is_key key ≡ true → TweakableCipher 16 512 (S.encipher key) (S.decipher key) → Runs S key
any_cipher S key k cipher = record {
  sealed_each = λ first lengths run e i h. ap number_of_block (seals_block S key k cipher first lengths run e i h);
  sealed_one_by_one = λ pack first lengths run b e. sealed_one_by_one S key k cipher first lengths run e pack b;
  opened_each = λ pack first lengths run b e i h.
      let opened = opens_block S key k cipher pack first lengths run b e i h in
      (opened, ap values_of_block (opened_answer S key pack (first + i) (part i run) opened) ∙ ap (λ (u : ℕ). u ∷ []) (sym (used-part S key cipher pack first run b i h)));
  opened_one_by_one = λ pack first lengths run b e. opened_one_by_one S key k cipher pack first lengths run b e;
  others_open = λ pack first lengths run b e i block h long hb e' j l apart. rw (e, e') (others_open S key k cipher pack first run b i block h long hb j l apart);
  one_run = one_run S key k cipher;
  unopened = λ pack first lengths run b. unopened S key cipher pack first run b lengths;
}

laid_out_lem : (n : ℕ) (payload : ℕ → List ℕ) (first : ℕ) → WithinLimits n payload first → Holds n payload (laid_out n payload)
laid_out_lem n payload first w =
    let f : ℕ → List ℕ → List ℕ = λ i B. payload i ++ replicate (512 - length (payload i)) 0 in
    let sized : (i : ℕ) → i < n → length (f i (part i [])) ≡ 512 = λ i h. rw (length-append, length-replicate) (omega (arith, w.payload_length i h)) in
    record {
      run_length = length-blockwise 512 f [] n sized;
      in_front = λ i h. rw (part-blockwise f [] n sized i h) (take_at (payload i) (replicate (512 - length (payload i)) 0) (length (payload i)) refl);
    }

pub theorems : Theorems
theorems = record { laid_out_lem = laid_out_lem; any_cipher = any_cipher }
