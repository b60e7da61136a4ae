-- What is enciphered and what is left to do make the run: one block goes from the one to the other at each turn.
use Prim.Native.Nat.{ℕ, ◌+◌, ◌-◌, ◌*◌, ◌≤◌, ◌<◌}
use mathlib.Core.Path.{◌≡◌, refl, sym, ap, ◌∙◌}
use mathlib.Core.List.{[]}
use native.Mathlib.Omega.{arith}
use lib.ListN.{length}
use borrow.Author.Tests.{eq-eqb}
use borrow.Rule.Slice.PartMut.{same_len_mid}
use Rattle.layout.specs.Finding.{block_count, part}
use Rattle.layout.proofs.Parts.{part_length}
use Rattle.pack.specs.Inner.{on_block}
use Rattle.runs.specs.Inner.{walked}
use Rattle.runs.proofs.Blocks.{walked_none, walked_all, turn}
use Rattle.runs.proofs.Sizes.{enciphered-length}
use Rattle.runs.proofs.opening.encipher_blocks.Goals as goal
use Rattle.runs.proofs.opening.encipher_blocks.Invariants.{again}

pub loop-i-init : goal.loop-i-init
loop-i-init g c = (sym (walked_none _ _), refl)

pub loop-i-preserved : goal.loop-i-preserved
unfolding on_block
loop-i-preserved g c =
    let l = c.loop-i in
    let a = c.args in
    let S = g.S.Scheme.under a.expanded in
    let cipher = g.S.Scheme.laws.cipher a.expanded 512 g.S.Scheme.laws.takes_blocks in
    let run = a.run.now in
    let f = again S a.start.pack a.start.place in
    let room : (j : ℕ) → j < l.i + 1 → 512 * j + 512 ≤ length run = λ j h. omega (arith, h, c.loop-i-test.true) in
    let sized : (j : ℕ) → j < l.i → length (f j (part j run)) ≡ 512 =
    λ j h. enciphered-length S [] cipher a.start.pack a.start.place run (λ k. (c.slice_known-1.given k).fits) j (room j (omega (arith, h))) in
    let place = c.place_of-position.ensures in (
      turn f run l.i sized (on_block (f l.i)) l.invariant.0 (rw (place.pack_value, place.place_value) at c.encipher.ensures.block_after)
          (rw (eq-eqb _ 512 (part_length l.i run (room l.i (omega arith))))),
      same_len_mid (512 * l.i) (512 * l.i + 512 - 512 * l.i) l.run c.encipher.new.block c.encipher.auto.block ∙ l.invariant.1,
    )

pub returns : goal.returns
returns g c =
    let l = c.loop-i in
    let n = block_count c.args.run.now in
    let all : l.i ≡ n = omega (arith, l.auto.i-end, c.loop-i-test.false) in
    let a = c.args in
    let f = again (g.S.Scheme.under a.expanded) a.start.pack a.start.place in
    l.invariant.0 ∙ ap (walked f a.run.now) all ∙ walked_all f a.run.now n c.requires.whole
