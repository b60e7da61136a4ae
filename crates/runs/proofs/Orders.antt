-- Calls on the blocks of a run, made one by one in any order, leave what the calls make of the blocks.
-- Assumes nothing.
use Prim.Native.Nat.{ℕ, suc, ◌+◌, ◌*◌, ◌≤◌, ◌<◌}
use mathlib.Core.Path.{◌≡◌, refl, sym, ap, ◌∙◌}
use mathlib.Core.Bool.{Bool, true, false}
use mathlib.Core.Logic.{◌⊎◌, inl, inr, ⊎_elim}
use mathlib.Core.List.{List, [], ◌∷◌}
use native.Mathlib.Omega.{arith}
use borrow.Author.Tests.{eqb-true, eqb-false, eq-eqb, ne_eqb, lt-ltb, le-ltb}
use lib.Dec.{eqb, ltb}
use lib.ListN.{length}
use Rattle.strings.specs.One.{tally}
use Rattle.layout.specs.Finding.{part, with_part}
use Rattle.layout.proofs.Parts.{with_length, part_with, part_with_other, before_or_from}
use Rattle.runs.specs.Run.{blockwise, one_by_one, times, OrderOf}
use Rattle.runs.proofs.Blocks.{length-blockwise, part-blockwise, same_blocks}

-- ---- how often a number stands in a list

decided : {j i : ℕ} (t : Bool) → eqb j i ≡ t → (j ≡ i) ⊎ (j ≡ i → ⊥)
decided {j} {i} true e = inl (eqb-true j i e)
decided {j} {i} false e = inr (eqb-false j i e)

same_or_not : (j i : ℕ) → (j ≡ i) ⊎ (j ≡ i → ⊥)
same_or_not j i = decided (eqb j i) refl

times_same : (i : ℕ) (order : List ℕ) → times i (i ∷ order) ≡ suc (times i order)
unfolding times tally
times_same i order = rw (eq-eqb i i refl) (omega arith)

times_other : (j i : ℕ) (order : List ℕ) → (j ≡ i → ⊥) → times j (i ∷ order) ≡ times j order
unfolding times tally
times_other j i order apart = rw (ne_eqb j i apart) (omega arith)

tally_most : (t : Bool) → tally t ≤ 1
unfolding tally
tally_most true = omega arith
tally_most false = omega arith

one_below : (i n : ℕ) {k : ℕ} → k ≡ tally (ltb i n) → k ≡ 1 → i < n
unfolding tally
one_below i n {k} e one = before_or_from i n (λ h. h) (λ from. let none : k ≡ 0 = rw (le-ltb i n from) at e in absurd (omega (arith, one, none)))

below_one : (i n : ℕ) → i < n → tally (ltb i n) ≡ 1
unfolding tally
below_one i n h = rw (lt-ltb i n h)

no_times : (j : ℕ) → times j [] ≡ 1 → ⊥
unfolding times
no_times j e = omega (arith, e)

-- ---- what the calls leave, block by block

module _ (call : ℕ → List ℕ → List ℕ) where
  -- Calls that can be made: no block is called twice, each is there, and what a call makes of it has the length of a block.
  record Can (order run : List ℕ) : Type 0 where
    once : (i : ℕ) → times i order ≤ 1
    there : (i : ℕ) → times i order ≡ 1 → 512 * i + 512 ≤ length run
    sized : (i : ℕ) → times i order ≡ 1 → length (call i (part i run)) ≡ 512

  -- What they leave: a block that is not called stays, and one that is called is what its call makes of it.
  record Leaves (order run left : List ℕ) : Type 0 where
    same_length : length left ≡ length run
    stays : (j : ℕ) → 512 * j + 512 ≤ length run → times j order ≡ 0 → part j left ≡ part j run
    made : (j : ℕ) → 512 * j + 512 ≤ length run → times j order ≡ 1 → part j left ≡ call j (part j run)

  module _ (i : ℕ) (order run : List ℕ) (can : Can (i ∷ order) run) where
    not_again : times i order ≡ 0
    not_again = omega (arith, times_same i order, can.once i)

    called : times i (i ∷ order) ≡ 1
    called = omega (arith, times_same i order, not_again)

    block : List ℕ
    block = call i (part i run)

    apart : (j : ℕ) → times j order ≡ 1 → j ≡ i → ⊥
    apart j one e = let none : times j order ≡ 0 = rw e not_again in omega (arith, one, none)

    other : (j : ℕ) → (j ≡ i → ⊥) → 512 * j + 512 ≤ length run → part j (with_part i block run) ≡ part j run
    unfolding block
    other j away room = part_with_other i block run (can.there i called) (can.sized i called) j away room

    then : Can order (with_part i block run)
    unfolding block
    then = record {
      once = λ j. ⊎_elim (λ (e : j ≡ i). rw e (omega (arith, not_again))) (λ away. rw (times_other j i order away) at (can.once j)) (same_or_not j i);
      there = λ j one.
          let long = with_length i block run (can.there i called) (can.sized i called) in
          rw long (can.there j (times_other j i order (apart j one) ∙ one));
      sized = λ j one.
          let here = times_other j i order (apart j one) ∙ one in
          rw (other j (apart j one) (can.there j here)) (can.sized j here);
    }

    made_of : {left : List ℕ} → Leaves order (with_part i block run) left → Leaves (i ∷ order) run left
    unfolding block
    made_of l =
        let long = with_length i block run (can.there i called) (can.sized i called) in
        record {
          same_length = l.same_length ∙ long;
          stays = λ j room none.
              let away : j ≡ i → ⊥ = λ e. let twice : times j (i ∷ order) ≡ 1 = rw e called in omega (arith, none, twice) in
              l.stays j (rw long room) (sym (times_other j i order away) ∙ none) ∙ other j away room;
          made = λ j room one.
              ⊎_elim
              (λ (e : j ≡ i).
              let here : 512 * i + 512 ≤ length (with_part i block run) = rw long (can.there i called) in
              rw e (l.stays i here not_again ∙ part_with i block run (can.there i called) (can.sized i called)))
              (λ away. l.made j (rw long room) (sym (times_other j i order away) ∙ one) ∙ ap (call j) (other j away room)) (same_or_not j i);
        }

  leaves : (order run : List ℕ) → Can order run → Leaves order run (one_by_one call order run)
  unfolding one_by_one block
  leaves [] run can = record {
    same_length = refl;
    stays = λ j room none. refl;
    made = λ j room one. absurd (no_times j one);
  }
  leaves (i ∷ order) run can = made_of i order run can (leaves order (with_part i (call i (part i run)) run) (then i order run can))

  -- ---- so in any order of n blocks

  pub in_any_order : (n : ℕ) (run order : List ℕ) → length run ≡ 512 * n → OrderOf n order → ((i : ℕ) → i < n → length (call i (part i run)) ≡ 512)
      → one_by_one call order run ≡ blockwise call n run
  in_any_order n run order size each sized =
      let below : (i : ℕ) → times i order ≡ 1 → i < n = λ i one. one_below i n (each i) one in
      let can : Can order run = record {
        once = λ i. rw (each i) (tally_most (ltb i n));
        there = λ i one. omega (arith, below i one, size);
        sized = λ i one. sized i (below i one);
      } in
      let l = leaves order run can in
      let made = blockwise call n run in
      let long : length made ≡ 512 * n = length-blockwise 512 call run n sized in
      same_blocks n (one_by_one call order run) made (l.same_length ∙ size) long
      (λ j h. l.made j (omega (arith, h, size)) (each j ∙ below_one j n h)
      ∙ sym (part-blockwise call run n sized j h))
