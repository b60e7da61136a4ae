-- What is sealed and what is left to do make the run: one block goes from the one to the other at each turn.
use Prim.Native.Nat.{ℕ, ◌<◌}
use mathlib.Core.Path.{◌≡◌, refl, sym, ap, ◌∙◌}
use mathlib.Core.List.{[]}
use native.Mathlib.Omega.{arith}
use lib.ListN.{length, get_or, length-take, length-drop}
use borrow.Rule.Slice.PartMut.{same_len_mid}
use Rattle.layout.specs.Finding.{block_count, part}
use Rattle.runs.specs.Sealing.{sealed_run}
use Rattle.runs.specs.Inner.{walked}
use Rattle.runs.proofs.Blocks.{walked_none, walked_all, turn}
use Rattle.runs.proofs.Sizes.{sealed_length}
use Rattle.runs.proofs.Lists.{none_over}
use Rattle.runs.proofs.sealing.seal_blocks.Goals as goal
use Rattle.runs.proofs.sealing.seal_blocks.Invariants.{one}

pub loop-i-init : goal.loop-i-init
loop-i-init g c = (sym (walked_none _ _), refl)

pub seal_block-requires : goal.seal_block-requires
seal_block-requires g c =
    let l = c.loop-i in (
      rw length-take (rw length-drop (omega (arith, l.invariant.1, c.requires.whole, c.loop-i-test.true))),
      none_over 496 c.args.lengths.now c.requires.limit l.i,
    )

pub loop-i-preserved : goal.loop-i-preserved
loop-i-preserved g c =
    let l = c.loop-i in
    let a = c.args in
    let S = g.S.Scheme.under a.expanded in
    let cipher = g.S.Scheme.laws.cipher a.expanded 512 g.S.Scheme.laws.takes_blocks in
    let lengths = a.lengths.now in
    let run = a.run.now in
    let f = one S a.start.pack a.start.place lengths in
    let sized : (j : ℕ) → j < l.i → length (f j (part j run)) ≡ 512 =
    λ j h. sealed_length S [] cipher a.start.pack a.start.place run (λ k. (c.slice_known-1.given k).fits) j
    (omega (arith, h, c.requires.whole, c.loop-i-test.true)) (get_or lengths j 0) (none_over 496 lengths c.requires.limit j) in
    let place = c.place_of.ensures in (
      turn f run l.i sized (f l.i) l.invariant.0 (rw (place.pack_value, place.place_value) at c.seal_block.ensures) refl,
      same_len_mid _ _ _ _ c.seal_block.auto.block ∙ l.invariant.1,
    )

pub returns : goal.returns
unfolding sealed_run
returns g c =
    let l = c.loop-i in
    let a = c.args in
    let n = block_count a.run.now in
    let all : l.i ≡ n = omega (arith, l.auto.i-end, c.loop-i-test.false, c.requires.whole) in
    let f = one (g.S.Scheme.under a.expanded) a.start.pack a.start.place a.lengths.now in
    l.invariant.0 ∙ ap (walked f a.run.now) all ∙ walked_all f a.run.now n (omega (arith, c.requires.whole))
