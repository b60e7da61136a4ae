-- All are opened, or those before the first that will not open are enciphered again.
use Prim.Native.Nat.{ℕ, ◌+◌, ◌*◌, ◌<◌}
use mathlib.Core.Path.{◌≡◌, refl, sym, ap, ◌∙◌}
use mathlib.Core.List.{List, []}
use native.Mathlib.Omega.{arith}
use lib.ListN.{length}
use Rattle.std.specs.Prelude.{Err}
use Rattle.strings.specs.Bytes.{Bytes}
use Rattle.strings.specs.Cipher.{TweakableCipher, Scheme}
use Rattle.strings.specs.declared.refusal.Refusal.{Refusal}
use Rattle.strings.proofs.Refusals.{refusal_leaves}
use Rattle.layout.specs.Finding.{block_count}
use Rattle.pack.specs.Opening.{deciphered_block}
use Rattle.runs.specs.Opening.{deciphered_run}
use Rattle.runs.specs.Inner.{walked, OpensInTurn}
use Rattle.runs.specs.declared.opening.NotOpened.TheVariants.{Failed}
use Rattle.runs.proofs.Answers.{place_of}
use Rattle.runs.proofs.Blocks.{walked-length, walked_all}
use Rattle.runs.proofs.Sizes.{deciphered_of_length, closed_again}
use Rattle.runs.proofs.opening.open_blocks.Goals as goal

module _ (S : Scheme) (pack first : ℕ) (run : List ℕ) (i : ℕ) {B : List ℕ} {why : Refusal} (opened : OpensInTurn S [] pack first run (Err (Failed why (first + i))) B) where
  -- What is told is a block, and the blocks before it are opened.
  told : i < block_count run
  told =
      let p = place_of S [] pack first run (block_count run) (sym opened.answered) in
      omega (arith, p.at, p.there)

  left_at : B ≡ walked (λ i C. deciphered_block S [] pack (first + i) C) run i
  left_at = opened.left ∙ ap (walked (λ i C. deciphered_block S [] pack (first + i) C) run) (omega arith)

  left_length : TweakableCipher 16 512 (S.encipher []) (S.decipher []) → Bytes run → length B ≡ length run
  left_length cipher b =
      rw left_at
      (walked-length (λ i C. deciphered_block S [] pack (first + i) C) run i
      (λ j h. (deciphered_of_length S [] cipher pack first run b j (omega (arith, h, told))).0) (omega (arith, told)))

pub overflow_mul-i : goal.overflow_mul-i
overflow_mul-i g c =
    let a = c.args in
    let there = told (g.S.Scheme.under a.expanded) a.start.pack a.start.place a.run.now c.in-Err.i c.in-Err.ensures in
    omega (arith, there, c.requires.places)

pub slice_bounds-encipher_blocks-end : goal.slice_bounds-encipher_blocks-end
slice_bounds-encipher_blocks-end g c =
    let a = c.args in
    let S = g.S.Scheme.under a.expanded in
    let cipher = g.S.Scheme.laws.cipher a.expanded 512 g.S.Scheme.laws.takes_blocks in
    let there = told S a.start.pack a.start.place a.run.now c.in-Err.i c.in-Err.ensures in
    let long = left_length S a.start.pack a.start.place a.run.now c.in-Err.i c.in-Err.ensures cipher (λ k. (c.slice_known-1.given k).fits) in
    omega (arith, there, long)

pub returns-in-Err : goal.returns-in-Err
returns-in-Err g c =
    let a = c.args in
    let run = a.run.now in
    let S = g.S.Scheme.under a.expanded in
    let cipher = g.S.Scheme.laws.cipher a.expanded 512 g.S.Scheme.laws.takes_blocks in
    let opened = c.in-Err.ensures in
    let there = told S a.start.pack a.start.place run c.in-Err.i opened in
    record {
      in_turn_lem = rw c.place_of.ensures.place_value opened.answered;
      left = closed_again S [] cipher a.start.pack a.start.place c.in-Err.i run (λ k. (c.slice_known-1.given k).fits) (omega (arith, there))
          {k = 512 * c.in-Err.i} refl (left_at S a.start.pack a.start.place run c.in-Err.i opened) c.encipher_blocks.ensures
          ∙ refusal_leaves c.in-Err.why (deciphered_run S [] a.start.pack a.start.place run) run;
    }

pub returns : goal.returns
unfolding deciphered_run
returns g c =
    let run = c.args.run.now in
    let opened = c.in_default.ensures in
    record {
      in_turn_lem = opened.answered;
      left = opened.left ∙ walked_all _ run (block_count run) c.requires.whole;
    }
