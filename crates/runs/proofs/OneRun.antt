-- Exactly one run opens to n payloads: by the law on two parts of a string, from what is known of one block.
-- Assumes nothing.
use Prim.Native.Nat.{ℕ, zero, suc, ◌+◌, ◌*◌, ◌≤◌, ◌<◌}
use mathlib.Core.Path.{◌≡◌, refl, sym, ap, ◌∙◌}
use mathlib.Core.Bool.{Bool, true, ◌&&◌}
use mathlib.Core.List.{List, [], ◌∷◌}
use native.Mathlib.Omega.{arith}
use borrow.Author.Tests.{eqb-true}
use lib.Dec.{eqb}
use lib.ListN.{length, get_or, take, drop, replicate, length-replicate, length-drop, length-take}
use lib.Seq.{take_all, get_or-take, ext_get_or}
use Rattle.strings.specs.Bytes.{OfLength, Bytes, equal}
use Rattle.strings.specs.Call.{number_of as number_of_tests, looks_at, left_by}
use Rattle.strings.specs.Cipher.{TweakableCipher, Scheme}
use Rattle.strings.specs.One.{OneString}
use Rattle.strings.proofs.Bytes.{below_take}
use Rattle.strings.proofs.Equal.{both, equal_refl, equal_true}
use Rattle.strings.proofs.One.{two_parts, no_part, same_test}
use Rattle.layout.specs.Layout.{used}
use Rattle.layout.specs.Finding.{block_count, part}
use Rattle.layout.proofs.Parts.{is_pack_lem, part_length, get_or-part, count_of, pack_of}
use Rattle.pack.specs.Sealing.{seal, WithinLimits as BlockWithinLimits}
use Rattle.pack.specs.Opening.{deciphered_block, opens_to as block_opens_to}
use Rattle.pack.proofs.OneBlock.{OpenedTo, opened_to, opens_to_lem, one_block}
use Rattle.runs.specs.Run.{blockwise}
use Rattle.runs.specs.Sealing.{payload_at, sealed_run, answer_of as answer_of_sealing}
use Rattle.runs.specs.Opening.{number_of, deciphered_run, used_lengths, in_turn, tests, answer_of, lengths_of, begin_with, opens_to, OneRun}
use Rattle.runs.specs.Theorems.{WithinLimits}
use Rattle.std.specs.Prelude.{Ok}
use Rattle.runs.proofs.Answers.{all_open, each_opens}
use Rattle.runs.proofs.Blocks.{below_more, get_or-blockwise, blockwise_same}
use Rattle.runs.proofs.Limits.{both_done, Admitted, sealable, no_test_holds, in_range}
use Rattle.runs.proofs.Lists.{none_over}
use Rattle.runs.proofs.Sizes.{at, part_of_length, deciphered-part, used-part}

-- ---- the first n blocks of a string, and the block behind them

part-take : (n i : ℕ) (u : List ℕ) → i < n → 512 * n ≤ length u → part i (take (512 * n) u) ≡ part i u
part-take n i u h room =
    let long : length (take (512 * n) u) ≡ 512 * n = rw length-take (omega (arith, room)) in
    let size = part_length i (take (512 * n) u) (omega (arith, long, h)) in
    ext_get_or 0 (part i (take (512 * n) u)) (part i u) (size ∙ sym (part_length i u (omega (arith, room, h))))
    (λ j l.
    let within : j < 512 = omega (arith, l, size) in
    get_or-part i (take (512 * n) u) j within ∙ get_or-take (512 * n) u (512 * i + j) 0 (omega (arith, h, within)) ∙ sym (get_or-part i u j within))

part_last : (n : ℕ) (u : List ℕ) → length u ≡ 512 * suc n → drop (512 * n) u ≡ part n u
unfolding part
part_last n u h = sym (take_all 512 (drop (512 * n) u) (rw length-drop (omega (arith, h))))

-- ---- lists of lengths, and fronts

lengths_blockwise : (payload : ℕ → List ℕ) (run : List ℕ) (n : ℕ) → lengths_of payload n ≡ blockwise (λ i B. length (payload i) ∷ []) n run
unfolding lengths_of blockwise
lengths_blockwise payload run zero = refl
lengths_blockwise payload run (suc n) = rw (lengths_blockwise payload run n)

pub get_or-lengths_of : (payload : ℕ → List ℕ) (n i : ℕ) → i < n → get_or (lengths_of payload n) i 0 ≡ length (payload i)
get_or-lengths_of payload n i h = rw (lengths_blockwise payload [] n) (get_or-blockwise (λ i B. length (payload i)) [] n i h)

begins : (payload : ℕ → List ℕ) (n : ℕ) (run : List ℕ) → ((i : ℕ) → i < n → take (length (payload i)) (part i run) ≡ payload i) → begin_with payload n run ≡ true
unfolding begin_with
begins payload zero run each = refl
begins payload (suc n) run each =
    rw (begins payload n run (λ i h. each i (omega (arith, h))), each n (omega arith)) (equal_refl (payload n))

begun : (payload : ℕ → List ℕ) (n : ℕ) (run : List ℕ) → begin_with payload n run ≡ true → (i : ℕ) → i < n → take (length (payload i)) (part i run) ≡ payload i
unfolding begin_with
begun payload zero run e i h = absurd (omega (arith, h))
begun payload (suc n) run e i h =
    let t = both (begin_with payload n run) (equal (take (length (payload n)) (part n run)) (payload n)) e in
    below_more (λ j. take (length (payload j)) (part j run) ≡ payload j) n (begun payload n run t.0) (equal_true _ (payload n) t.1) i (omega (arith, h))

module _ (S : Scheme) (key : List ℕ) (cipher : TweakableCipher 16 512 (S.encipher key) (S.decipher key)) (k : S.is_key key ≡ true)
    (pack first : ℕ) (payload : ℕ → List ℕ) where
  -- ---- n tests of n parts

  abbrev block_test : ℕ → List ℕ → Bool
  block_test i B = block_opens_to S key (payload i) pack (first + i) B

  unfoldable opens_each : ℕ → List ℕ → Bool
  opens_each zero u = true
  opens_each (suc n) u = opens_each n (take (512 * n) u) && block_test n (drop (512 * n) u)

  one_each : (n : ℕ) → ((i : ℕ) → i < n → BlockWithinLimits (payload i) (first + i)) → (run : List ℕ)
      → OneString (512 * n) (opens_each n) (blockwise (λ i B. seal S key (payload i) pack (first + i)) n run)
  unfolding opens_each blockwise
  one_each zero limits run = no_part
  one_each (suc n) limits run =
      let more : 512 * suc n ≡ 512 * n + 512 = omega arith in
      rw more
      (two_parts (one_each n (λ i h. limits i (omega (arith, h))) run)
      (one_block S key pack (first + n) (at S key cipher pack first (first + n)) (payload n) k (limits n (omega arith))))

  each_passes : (n : ℕ) (u : List ℕ) → length u ≡ 512 * n → opens_each n u ≡ true → (i : ℕ) → i < n → block_test i (part i u) ≡ true
  unfolding opens_each
  each_passes zero u h e i l = absurd (omega (arith, l))
  each_passes (suc n) u h e i l =
      let t = both (opens_each n (take (512 * n) u)) (block_test n (drop (512 * n) u)) e in
      let long : length (take (512 * n) u) ≡ 512 * n = rw length-take (omega (arith, h)) in
      below_more (λ j. block_test j (part j u) ≡ true) n
      (λ j m. rw (part-take n j u m (omega (arith, h))) at (each_passes n (take (512 * n) u) long t.0 j m)) (rw (part_last n u h) at t.1) i (omega (arith, l))

  all_pass : (n : ℕ) (u : List ℕ) → length u ≡ 512 * n → ((i : ℕ) → i < n → block_test i (part i u) ≡ true) → opens_each n u ≡ true
  unfolding opens_each
  all_pass zero u h each = refl
  all_pass (suc n) u h each =
      let long : length (take (512 * n) u) ≡ 512 * n = rw length-take (omega (arith, h)) in
      rw (all_pass n (take (512 * n) u) long (λ j m. rw (part-take n j u m (omega (arith, h))) (each j (omega (arith, m)))), part_last n u h) (each n (omega arith))

  -- ---- a run opens to n payloads exactly if each block opens to its own

  module _ (n : ℕ) (w : WithinLimits n payload first) (u : List ℕ) (size : OfLength (512 * n) u) where
    n_blocks : block_count u ≡ n
    n_blocks = count_of n u size.0

    admitted : Admitted S key first (replicate n 0) u
    admitted = record {
      is_key_lem = k;
      is_run = pack_of n u size.0 w.at_least w.at_most;
      list_length = length-replicate n 0 ∙ sym n_blocks;
      last_place_lem = rw n_blocks (omega (arith, w.place_limit, w.at_least));
    }

    opens_run : ((i : ℕ) → i < n → block_test i (part i u) ≡ true) → opens_to S key n payload pack first u ≡ true
    unfolding opens_to used_lengths
    opens_run each =
        let o : (i : ℕ) → i < n → OpenedTo S key pack (first + i) (part i u) (payload i) = λ i h. opened_to S key pack (first + i) (part i u) (payload i) (each i h) in
        let done : answer_of S key pack first (replicate n 0) u ≡ Ok tt =
        rw (no_test_holds S key first (replicate n 0) u admitted) (all_open S key pack first u (block_count u) (λ i h. (o i (rw n_blocks at h)).answered)) in
        let lengths : used_lengths S key pack first u ≡ lengths_of payload n =
        blockwise_same (λ i C. used (deciphered_block S key pack (first + i) C) ∷ []) (λ i B. length (payload i) ∷ []) (block_count u) u u
        (λ i h. ap (λ (a : ℕ). a ∷ []) (o i (rw n_blocks at h)).used-length)
        ∙ sym (lengths_blockwise payload u (block_count u)) ∙ ap (lengths_of payload) n_blocks in
        let fronts : begin_with payload n (deciphered_run S key pack first u) ≡ true =
        begins payload n (deciphered_run S key pack first u) (λ i h. rw (deciphered-part S key cipher pack first u size.1 i (rw n_blocks h)) (o i h).front) in
        rw (done, lengths, equal_refl (lengths_of payload n)) fronts

    run_opened : opens_to S key n payload pack first u ≡ true → (i : ℕ) → i < n → block_test i (part i u) ≡ true
    unfolding opens_to
    run_opened e i h =
        let r = answer_of S key pack first (replicate n 0) u in
        let lengths = equal (left_by (number_of r) (used_lengths S key pack first u) (replicate n 0)) (lengths_of payload n) in
        let fronts = begin_with payload n (left_by (number_of r) (deciphered_run S key pack first u) u) in
        let t = both (eqb (number_of r) 0 && lengths) fronts e in
        let s = both (eqb (number_of r) 0) lengths t.0 in
        let none = eqb-true (number_of r) 0 s.0 in
        let opened = both_done (looks_at (tests S key first (replicate n 0) u)) (in_turn S key pack first (block_count u) u) none in
        let same : equal (used_lengths S key pack first u) (lengths_of payload n) ≡ true = rw none at s.1 in
        let front : begin_with payload n (deciphered_run S key pack first u) ≡ true = rw none at t.1 in
        opens_to_lem S key pack (first + i) (part i u) (payload i) (record {
          answered = each_opens S key pack first u (block_count u) opened.1 i (rw n_blocks h);
          used-length = sym (used-part S key cipher pack first u size.1 i (rw n_blocks h)) ∙ ap (λ (l : List ℕ). get_or l i 0) (equal_true (used_lengths S key pack first u) (lengths_of payload n) same) ∙ get_or-lengths_of payload n i h;
          front = rw (deciphered-part S key cipher pack first u size.1 i (rw n_blocks h)) at (begun payload n (deciphered_run S key pack first u) front i h);
        })

  -- So exactly one run does: what is sealed, block by block.
  pub one_run : (n : ℕ) → WithinLimits n payload first → (run : List ℕ)
      → OneRun S key n payload pack first (blockwise (λ i B. seal S key (payload i) pack (first + i)) n run)
  one_run n w run =
      let limits : (i : ℕ) → i < n → BlockWithinLimits (payload i) (first + i) = λ i h.
      record { payload_bytes = w.payload_bytes i h; payload_length = w.payload_length i h; place_limit = omega (arith, w.place_limit, h) } in
      same_test (λ u size e. opens_run n w u size (each_passes n u size.0 e)) (λ u size e. all_pass n u size.0 (run_opened n w u size e)) (one_each n limits run)

-- What sealing writes, where it was done.
pub sealed_one : (S : Scheme) (key : List ℕ) → TweakableCipher 16 512 (S.encipher key) (S.decipher key) → (pack first : ℕ) (lengths run : List ℕ) → Bytes run
    → number_of_tests (answer_of_sealing S key first lengths run) ≡ 0
    → OneRun S key (block_count run) (payload_at lengths run) pack first (sealed_run S key pack first lengths run)
unfolding sealed_run
sealed_one S key cipher pack first lengths run b e =
    let s = sealable S key first lengths run e in
    let range = is_pack_lem run s.0.is_run in
    let payload = payload_at lengths run in
    let w : WithinLimits (block_count run) payload first = record {
      at_least = range.1;
      at_most = range.2;
      payload_bytes = λ i h. below_take (get_or lengths i 0) (part i run) (part_of_length i run b (omega (arith, h))).1;
      payload_length = λ i h. rw length-take (omega (arith, none_over 496 lengths s.1 i));
      place_limit = (in_range S key first lengths run s.0).places;
    } in
    rw (blockwise_same (λ i B. seal S key (take (get_or lengths i 0) B) pack (first + i)) (λ i B. seal S key (payload i) pack (first + i)) (block_count run) run run (λ i h. refl))
    (one_run S key cipher s.0.is_key_lem pack first payload (block_count run) w run)
