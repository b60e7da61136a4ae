-- What the tests of the two calls tell of what was lent.
-- Assumes nothing.
use Prim.Native.Nat.{ℕ, ◌≤◌}
use mathlib.Core.Path.{◌≡◌, refl, sym}
use mathlib.Core.Bool.{true, false}
use mathlib.Core.List.{List}
use native.Mathlib.Omega.{arith}
use borrow.Author.Tests.{eqb-true, ltb-false, eq-eqb, le-ltb}
use lib.ListN.{length}
use Rattle.strings.specs.Call.{Answer, number_of as number_of_tests, looks_at}
use Rattle.std.specs.Prelude.{Ok, Err}
use Rattle.strings.specs.Cipher.{Scheme}
use Rattle.strings.proofs.Refusals.{refusal_range, none_holds, not_false}
use Rattle.layout.specs.Finding.{block_count, is_pack}
use Rattle.layout.proofs.Parts.{is_pack_lem, whole_blocks}
use Rattle.runs.specs.Run.{last_place}
use Rattle.runs.specs.Sealing.{some_over, tests as tests_of_sealing, answer_of as answer_of_sealing}
use Rattle.runs.specs.Opening.{RunOpened, number_of, after, tests}
use Rattle.runs.specs.Inner.{InRange}

-- ---- the number

pub both_done : (a : Answer) (r : RunOpened) → number_of (after a r) ≡ 0 → (number_of_tests a ≡ 0) × (number_of r ≡ 0)
both_done (Ok a) r e = (refl, e)
both_done (Err why) r e = absurd (omega (arith, (refusal_range why).0, e))

-- ---- the tests

module _ (S : Scheme) (key : List ℕ) (first : ℕ) (lengths run : List ℕ) where
  pub record Admitted : Type 0 where
    pub is_key_lem : S.is_key key ≡ true
    pub is_run : is_pack run ≡ true
    pub list_length : length lengths ≡ block_count run
    pub last_place_lem : last_place first run ≤ 65535

  pub sealable : number_of_tests (answer_of_sealing S key first lengths run) ≡ 0 → Admitted × (some_over 496 lengths ≡ false)
  sealable e =
      let t = none_holds (tests_of_sealing S key first lengths run) e in (
        record {
          is_key_lem = not_false _ t.0;
          is_run = not_false _ t.1.0;
          list_length = eqb-true _ _ (not_false _ t.1.1.0);
          last_place_lem = ltb-false 65535 (last_place first run) t.1.1.1.1.0;
        },
        t.1.1.1.0,
      )

  pub openable : number_of_tests (looks_at (tests S key first lengths run)) ≡ 0 → Admitted
  openable e =
      let t = none_holds (tests S key first lengths run) e in
      record {
        is_key_lem = not_false _ t.0;
        is_run = not_false _ t.1.0;
        list_length = eqb-true _ _ (not_false _ t.1.1.0);
        last_place_lem = ltb-false 65535 (last_place first run) t.1.1.1.0;
      }

  pub no_test_holds : Admitted → looks_at (tests S key first lengths run) ≡ Ok tt
  no_test_holds a =
      rw (a.is_key_lem, a.is_run, eq-eqb (length lengths) (block_count run) a.list_length, le-ltb 65535 (last_place first run) a.last_place_lem) refl

  pub in_range : Admitted → InRange first run
  in_range a = record { whole = sym (whole_blocks run a.is_run); places = omega (arith, a.last_place_lem, (is_pack_lem run a.is_run).1) }
