-- Each sentence is cited from the theorems of the crates below; the examples are computed.
-- Assumes nothing.
use Prim.Native.Nat.{ℕ, ◌≤◌}
use mathlib.Core.Path.{◌≡◌, refl}
use mathlib.Core.List.{List, [], ◌∷◌, ◌++◌}
use mathlib.Core.Logic.{⊎_elim}
use native.Mathlib.Omega.{arith}
use lib.ListN.{length-replicate}
use Rattle.strings.specs.Bytes.{OfLength, number, bytes, equal}
use Rattle.strings.specs.Call.{number_of}
use Rattle.layout.specs.Layout.{check, used, passes, is_zero}
use Rattle.layout.specs.Finding.{is_pack, part}
use Rattle.hch.specs.Hch.{hch}
use Rattle.pack.specs.Opening.{values_of, deciphered_block, answer_of, Unopened}
use Rattle.runs.specs.Opening.{number_of as number_of_run, values_of as values_of_run, in_turn, answer_of as answer_of_run}
use Rattle.claims.specs.Demand1.{IsKey, of_opening}
use Rattle.claims.specs.Point4.{zeros, damaged, unchanged, Point4}
use Rattle.claims.proofs.Keys.{is_key_lem}
use Rattle.claims.proofs.Demand1.{demand_1, refused_left}
use Rattle.claims.proofs.Demand3.{hch_pack}
use Rattle.claims.proofs.Point2.{run_unopened}

block_unopened : (key : List ℕ) (pack place : ℕ) (C : List ℕ) → IsKey key → OfLength 512 C → place ≤ 65535
    → Unopened hch (of_opening hch key pack place C) key pack place C
block_unopened key pack place C k h l = (hch_pack key k).unopened pack place C h.1 (is_key_lem key k) h.0 l

zeros_opened : (number_of (answer_of unchanged [] 0 0 zeros) ≡ 0) × (values_of (answer_of unchanged [] 0 0 zeros) ≡ 0 ∷ [])
unfolding deciphered_block passes used check is_zero equal number bytes
zeros_opened = (refl, refl)

zeros_blank : number_of (answer_of unchanged [] 1 0 zeros) ≡ 12
unfolding deciphered_block passes used check is_zero equal number bytes
zeros_blank = refl

one_byte : number_of (answer_of unchanged [] 1 0 damaged) ≡ 8
unfolding deciphered_block passes used check is_zero equal number bytes
one_byte = refl

damaged_first : let answer = answer_of_run unchanged [] 1 3 (0 ∷ 0 ∷ []) (damaged ++ zeros) in (number_of_run answer ≡ 8) × (values_of_run answer ≡ 3 ∷ [])
unfolding is_pack part in_turn deciphered_block passes used check is_zero equal number bytes
damaged_first = (refl, refl)

zeros_first : let answer = answer_of_run unchanged [] 1 3 (0 ∷ 0 ∷ []) (zeros ++ damaged) in (number_of_run answer ≡ 12) × (values_of_run answer ≡ 3 ∷ [])
unfolding is_pack part in_turn deciphered_block passes used check is_zero equal number bytes
zeros_first = (refl, refl)

pub point_4 : Point4
point_4 = record {
  zero_opened = λ key pack place k l e.
      let done = demand_1.hch_opening.open_done key pack place zeros k (length-replicate {A = ℕ} 512 0) l e in
      (done.0, done.1, rw done.0);
  eight_or_twelve = λ key pack place C k h l. (block_unopened key pack place C k h l).eight_or_twelve;
  twelve = λ key pack place C k h l. (block_unopened key pack place C k h l).twelve;
  unopened_left = λ key pack place C e. refused_left (of_opening hch key pack place C) _ C (⊎_elim (λ e8. omega (arith, e8)) (λ e12. omega (arith, e12)) e);
  run_number = λ key n pack first lengths run l b last i h m some.
      let told = (run_unopened key n first lengths run l pack b last i h).first_number m some in
      (λ e place. told.0 (e, place), λ e before. told.1 (e, before));
  run_twelve = λ key n pack first lengths run l b last i h.
      let told = (run_unopened key n first lengths run l pack b last i h).twelve in (
        λ e place. let first-to-fail = told.0 (e, place) in (first-to-fail.0.0, first-to-fail.0.1, first-to-fail.1),
        λ none before zero. told.1 (none, before) zero,
      );
  zeros_opened = zeros_opened;
  zeros_blank = zeros_blank;
  one_byte = one_byte;
  damaged_first = damaged_first;
  zeros_first = zeros_first;
}
