-- What is opened and what is left to do make the run: one block goes from the one to the other at each turn. A block that is refused comes back as it was lent.
use Prim.Native.Nat.{ℕ, ◌+◌, ◌-◌, ◌*◌, ◌<◌}
use mathlib.Core.Path.{◌≡◌, refl, sym, ap, ◌∙◌}
use mathlib.Core.List.{List, []}
use native.Mathlib.Omega.{arith}
use lib.ListN.{length, take, drop}
use borrow.Rule.Slice.PartMut.{same_len_mid}
use Rattle.strings.specs.Bytes.{Bytes}
use Rattle.strings.specs.Call.{number_of as number_of_block}
use Rattle.strings.specs.Cipher.{TweakableCipher, Scheme}
use Rattle.layout.specs.Finding.{block_count, part}
use Rattle.pack.specs.Opening.{answer_of as answer_of_block}
use Rattle.runs.specs.Opening.{BlockOpens}
use Rattle.runs.specs.Inner.{walked}
use Rattle.runs.proofs.Blocks.{walked_none, walked_block, turn, part_same, below_more}
use Rattle.runs.proofs.Answers.{all_open, first_refused, left_back}
use Rattle.runs.proofs.Sizes.{deciphered_of_length}
use Rattle.runs.proofs.opening.open_in_turn.Goals as goal
use Rattle.runs.proofs.opening.open_in_turn.Invariants.{one}

-- What is deciphered has the length of a block, and the next block is as it was lent.
module _ (S : Scheme) (pack first : ℕ) (run : List ℕ) (cipher : TweakableCipher 16 512 (S.encipher []) (S.decipher [])) (b : Bytes run) (i : ℕ)
    (below : i < block_count run) where
  deciphered_sized : (j : ℕ) → j < i → length (one S pack first j (part j run)) ≡ 512
  deciphered_sized j h = (deciphered_of_length S [] cipher pack first run b j (omega (arith, h, below))).0

  next_block : {R : List ℕ} → R ≡ walked (one S pack first) run i → take (512 * i + 512 - 512 * i) (drop (512 * i) R) ≡ part i run
  next_block {R} e = rw e (walked_block (one S pack first) run i deciphered_sized)

pub loop-i-init : goal.loop-i-init
loop-i-init g c = (sym (walked_none _ _), λ j h. absurd (omega (arith, h)), refl)

pub returns-in-Err : goal.returns-in-Err
returns-in-Err g c =
    let refused = c.in-Err.is in
    let l = c.loop-i in
    let a = c.args in
    let run = a.run.now in
    let S = g.S.Scheme.under a.expanded in
    let cipher = g.S.Scheme.laws.cipher a.expanded 512 g.S.Scheme.laws.takes_blocks in
    let pack = a.start.pack in
    let first = a.start.place in
    let f = one S pack first in
    let below : l.i < block_count run = omega (arith, c.loop-i-test.true) in
    let place = c.place_of-here.ensures in
    let lent = next_block S pack first run cipher (λ k. (c.slice_known-1.given k).fits) l.i below l.invariant.0 in
    let shut = ap (answer_of_block S [] pack (first + l.i)) (sym lent) ∙ sym (rw (place.pack_value, place.place_value) at c.open_with.ensures.value) ∙ refused in
    let back : c.open_with.new.block ≡ take (512 * l.i + 512 - 512 * l.i) (drop (512 * l.i) l.run) =
    c.open_with.ensures.block_after ∙ left_back refused _ _ in
    record {
      answered = sym (first_refused S [] pack first run (block_count run) l.i below l.invariant.1 shut);
      left = part_same (512 * l.i) (512 * l.i + 512 - 512 * l.i) back ∙ l.invariant.0 ∙ ap (walked f run) (omega arith);
    }

pub loop-i-preserved : goal.loop-i-preserved
loop-i-preserved g c =
    let l = c.loop-i in
    let a = c.args in
    let run = a.run.now in
    let S = g.S.Scheme.under a.expanded in
    let cipher = g.S.Scheme.laws.cipher a.expanded 512 g.S.Scheme.laws.takes_blocks in
    let pack = a.start.pack in
    let first = a.start.place in
    let f = one S pack first in
    let bytes : Bytes run = λ k. (c.slice_known-1.given k).fits in
    let below : l.i < block_count run = omega (arith, c.loop-i-test.true) in
    let place = c.place_of-here.ensures in
    let lent = next_block S pack first run cipher bytes l.i below l.invariant.0 in
    let opened = ap number_of_block c.in_default.is in
    let value = rw (place.pack_value, place.place_value) at c.open_with.ensures.value in
    let opens : BlockOpens S [] pack first run l.i =
    ap (λ (C : List ℕ). number_of_block (answer_of_block S [] pack (first + l.i) C)) (sym lent) ∙ sym (ap number_of_block value) ∙ opened in (
      turn f run l.i (deciphered_sized S pack first run cipher bytes l.i below) (f l.i) l.invariant.0
          (rw (opened, place.pack_value, place.place_value) at c.open_with.ensures.block_after) refl,
      below_more (BlockOpens S [] pack first run) l.i l.invariant.1 opens,
      same_len_mid (512 * l.i) (512 * l.i + 512 - 512 * l.i) l.run c.open_with.new.block c.open_with.auto.block ∙ l.invariant.2,
    )

pub returns : goal.returns
returns g c =
    let l = c.loop-i in
    let a = c.args in
    let run = a.run.now in
    let n = block_count run in
    let S = g.S.Scheme.under a.expanded in
    let f = one S a.start.pack a.start.place in
    let all : l.i ≡ n = omega (arith, l.auto.i-end, c.loop-i-test.false) in
    record {
      answered = sym (all_open S [] a.start.pack a.start.place run n (rw all at l.invariant.1));
      left = l.invariant.0 ∙ ap (walked f run) all;
    }
