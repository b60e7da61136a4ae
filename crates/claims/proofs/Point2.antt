-- Each sentence is cited from the theorems of the crates below; the numbers are by the definitions of the tests.
-- Assumes nothing.
use Prim.Native.Nat.{ℕ, zero, suc, ◌+◌, ◌-◌, ◌/◌, ◌≤◌, ◌<◌}
use mathlib.Core.Path.{◌≡◌, refl, sym, ◌∙◌}
use mathlib.Core.Bool.{false}
use mathlib.Core.List.{List, [], ◌∷◌}
use mathlib.Core.Logic.{inl, inr, ⊎_elim}
use native.Mathlib.Omega.{arith}
use borrow.Author.Tests.{eq-eqb, ne_eqb, lt-ltb, le-ltb}
use lib.Dec.{ltb}
use lib.ListN.{length, get_or, replicate}
use Rattle.strings.specs.Bytes.{Bytes}
use Rattle.strings.specs.One.{tally}
use Rattle.primitives.specs.Aes.{is_key}
use Rattle.hch.specs.Hch.{hch}
use Rattle.layout.specs.Finding.{is_pack}
use Rattle.runs.specs.Run.{times}
use Rattle.runs.specs.Sealing.{some_over}
use Rattle.runs.specs.Opening.{answer_of, NumberAt, Unopened}
use Rattle.runs.specs.Theorems.{Runs, WithinLimits, laid_out}
use Rattle.runs.proofs.Answers.{all_open}
use Rattle.runs.proofs.Lists.{some_over_lem, over_some}
use Rattle.runs.proofs.Theorems as RunTheorems
use Rattle.claims.specs.Demand1.{IsKey}
use Rattle.claims.specs.Point1.{IsPack}
use Rattle.claims.specs.Point2.{of_sealing, of_opening, of_block, Lent, NoneOver, Payloads, Point2}
use Rattle.claims.proofs.Keys.{is_key_lem, no_key}
use Rattle.claims.proofs.Demand1.{refused_left}
use Rattle.claims.proofs.Demand3.{hch_tweakable}
use Rattle.claims.proofs.Point1.{blocks, is_one, not_a_pack}

hch_runs : (key : List ℕ) → IsKey key → Runs hch key
hch_runs key k = (RunTheorems.theorems).any_cipher hch key (is_key_lem key k) (hch_tweakable key)

-- ---- the numbers

not_run_sealing : (key : List ℕ) (first : ℕ) (lengths run : List ℕ) → IsKey key → is_pack run ≡ false → of_sealing key first lengths run ≡ 10
not_run_sealing key first lengths run k e = rw (is_key_lem key k, e)

not_run_opening : (key : List ℕ) (pack first : ℕ) (lengths run : List ℕ) → IsKey key → is_pack run ≡ false → of_opening key pack first lengths run ≡ 10
not_run_opening key pack first lengths run k e = rw (is_key_lem key k, e)

module _ (key : List ℕ) (n first : ℕ) (lengths run : List ℕ) (k : IsKey key) (p : IsPack n run) where
  list_differs : (length lengths ≡ n → ⊥) → length lengths ≡ length run / 512 → ⊥
  list_differs other e = other (e ∙ blocks n run p)

  seals_11 : (length lengths ≡ n → ⊥) → of_sealing key first lengths run ≡ 11
  seals_11 other = rw (is_key_lem key k, is_one n run p, ne_eqb (length lengths) (length run / 512) (list_differs other))

  opens_11 : (pack : ℕ) → (length lengths ≡ n → ⊥) → of_opening key pack first lengths run ≡ 11
  opens_11 pack other = rw (is_key_lem key k, is_one n run p, ne_eqb (length lengths) (length run / 512) (list_differs other))

module _ (key : List ℕ) (n first : ℕ) (lengths run : List ℕ) (l : Lent key n lengths run) where
  count : length run / 512 ≡ n
  count = blocks n run l.1

  same_list : length lengths ≡ length run / 512
  same_list = l.2 ∙ sym count

  -- What 8 and 12 mean, for the place of block i.
  pub run_unopened : (pack : ℕ) → Bytes run → first + n - 1 ≤ 65535 → (i : ℕ) → i < n → Unopened hch (answer_of hch key pack first lengths run) key pack first run i
  run_unopened pack b last i h =
      let near : first + length run / 512 - 1 ≤ 65535 = rw count last in
      (hch_runs key l.0).unopened pack first lengths run b (is_key_lem key l.0) (is_one n run l.1) same_list near i (rw count h)

  seals_5 : (i : ℕ) → 496 < get_or lengths i 0 → of_sealing key first lengths run ≡ 5
  seals_5 i over = rw (is_key_lem key l.0, is_one n run l.1, eq-eqb (length lengths) (length run / 512) same_list, over_some 496 lengths i over)

  within : NoneOver n lengths → some_over 496 lengths ≡ false
  within none = some_over_lem 496 lengths (λ i h. none i (omega (arith, h, l.2)))

  seals_6 : NoneOver n lengths → 65535 < first + n - 1 → of_sealing key first lengths run ≡ 6
  seals_6 none past =
      let far : 65535 < first + length run / 512 - 1 = rw count past in
      rw (is_key_lem key l.0, is_one n run l.1, eq-eqb (length lengths) (length run / 512) same_list, within none, lt-ltb 65535 (first + length run / 512 - 1) far)

  sealed : NoneOver n lengths → first + n - 1 ≤ 65535 → of_sealing key first lengths run ≡ 0
  sealed none last =
      let near : first + length run / 512 - 1 ≤ 65535 = rw count last in
      rw (is_key_lem key l.0, is_one n run l.1, eq-eqb (length lengths) (length run / 512) same_list, within none, le-ltb 65535 (first + length run / 512 - 1) near)

  opens_6 : (pack : ℕ) → 65535 < first + n - 1 → of_opening key pack first lengths run ≡ 6
  opens_6 pack past =
      let far : 65535 < first + length run / 512 - 1 = rw count past in
      rw (is_key_lem key l.0, is_one n run l.1, eq-eqb (length lengths) (length run / 512) same_list, lt-ltb 65535 (first + length run / 512 - 1) far)

  opened : (pack : ℕ) → first + n - 1 ≤ 65535 → ((i : ℕ) → i < n → of_block key pack first run i ≡ 0) → of_opening key pack first lengths run ≡ 0
  opened pack last each =
      let near : first + length run / 512 - 1 ≤ 65535 = rw count last in
      rw (
        is_key_lem key l.0,
        is_one n run l.1,
        eq-eqb (length lengths) (length run / 512) same_list,
        le-ltb 65535 (first + length run / 512 - 1) near,
        all_open hch key pack first run (length run / 512) (λ i h. each i (omega (arith, h, count))),
      )

limits : (n : ℕ) (payload : ℕ → List ℕ) (first : ℕ) → Payloads n payload first → WithinLimits n payload first
limits n payload first p = record {
  at_least = p.0;
  at_most = p.1;
  payload_bytes = p.2;
  payload_length = p.3;
  place_limit = omega (arith, p.4, p.0);
}

-- 2, 0, 1 is an order of three blocks.
three : (i : ℕ) → times i (2 ∷ 0 ∷ 1 ∷ []) ≡ tally (ltb i 3)
unfolding times tally
three zero = refl
three (suc zero) = refl
three (suc (suc zero)) = refl
three (suc (suc (suc i))) =
    rw (
      ne_eqb (suc (suc (suc i))) 2 (λ e. omega (arith, e)),
      ne_eqb (suc (suc (suc i))) 0 (λ e. omega (arith, e)),
      ne_eqb (suc (suc (suc i))) 1 (λ e. omega (arith, e)),
      le-ltb (suc (suc (suc i))) 3 (omega arith),
    )

numbers : let key : List ℕ = replicate 16 0 in
    let run : List ℕ = replicate 1024 0 in
    (of_sealing key 0 [] [] ≡ 10) × (of_sealing key 65535 (497 ∷ []) run ≡ 11) × (of_sealing key 65535 (496 ∷ 497 ∷ []) run ≡ 5)
    × (of_sealing key 65535 (496 ∷ 496 ∷ []) run ≡ 6) × (of_sealing key 65534 (496 ∷ 496 ∷ []) run ≡ 0) × (of_opening key 0 4294967295 (0 ∷ 0 ∷ []) run ≡ 6)
unfolding is_pack is_key some_over
numbers = (refl, refl, refl, refl, refl, refl)

pub point_2 : Point2
point_2 = record {
  seal_1 = λ key first lengths run k. rw (no_key key k);
  seal_10 = λ key first lengths run k none. not_run_sealing key first lengths run k (not_a_pack run (is_pack run) refl none);
  seal_11 = λ key n first lengths run k p. seals_11 key n first lengths run k p;
  seal_5 = λ key n first lengths run l i h. seals_5 key n first lengths run l i;
  seal_6 = seals_6;
  seal_done = sealed;
  open_1 = λ key pack first lengths run k. rw (no_key key k);
  open_10 = λ key pack first lengths run k none. not_run_opening key pack first lengths run k (not_a_pack run (is_pack run) refl none);
  open_11 = λ key n pack first lengths run k p. opens_11 key n first lengths run k p pack;
  open_6 = λ key n pack first lengths run l. opens_6 key n first lengths run l pack;
  open_8_or_12 = λ key n pack first lengths run l b last i h.
      let told = (run_unopened key n first lengths run l pack b last i h).eight_or_twelve in
      let at : ℕ → Type 0 = λ number. NumberAt (answer_of hch key pack first lengths run) number first i in (
        λ e place. told.0 (⊎_elim (λ e8. inl (e8, place)) (λ e12. inr (e12, place)) e),
        λ none before. ⊎_elim (λ (e : at 8). (inl e.0, e.1)) (λ (e : at 12). (inr e.0, e.1)) (told.1 (none, before)),
      );
  open_done = λ key n pack first lengths run l. opened key n first lengths run l pack;
  unopened_left = λ key pack first lengths run h. (refused_left (of_opening key pack first lengths run) _ run h, refused_left (of_opening key pack first lengths run) _ lengths h);
  no_place = (refl, λ why. refl);
  place_written = λ lent. (refl, λ why. refl, λ why place. refl);
  an_order = three;
  sealed_each = λ key first lengths run k. (hch_runs key k).sealed_each first lengths run;
  sealed_one_by_one = λ key pack first lengths run k. (hch_runs key k).sealed_one_by_one pack first lengths run;
  opened_each = λ key pack first lengths run k. (hch_runs key k).opened_each pack first lengths run;
  opened_one_by_one = λ key pack first lengths run k. (hch_runs key k).opened_one_by_one pack first lengths run;
  others_open = λ key pack first lengths run k. (hch_runs key k).others_open pack first lengths run;
  one_run = λ key n payload pack first k p run size front.
      ((hch_runs key k).one_run n payload pack first (limits n payload first p) run (record { run_length = size; in_front = front })).one;
  one_run_counted = λ key n payload pack first k p.
      let w = limits n payload first p in
      ((hch_runs key k).one_run n payload pack first w (laid_out n payload) ((RunTheorems.theorems).laid_out_lem n payload first w)).counted;
  hch_runs = hch_runs;
  numbers = numbers;
}
