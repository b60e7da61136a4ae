-- What is done and what is left to do make the whole: one block goes from the one to the other at each turn.
use Rattle.std.proofs.Common.{◌≡◌, ℕ, suc, ◌+◌, ◌*◌, ◌<◌, ◌≤◌, length, refl, ap, ◌∙◌, append-nil, lit<, arith, drop_of_length-le, take_all}
use Rattle.std.proofs.lemmas.Grind.{div_ceil_times}
use Rattle.strings.specs.Xor.{◌⊕◌}
use Rattle.blocks.specs.BlockField.{times_x}
use Rattle.blocks.specs.Counter.{φ}
use Rattle.primitives.specs.Expanded.{under}
use Rattle.blocks.specs.Inner.{value}
use Rattle.blocks.proofs.Counter.{masked_nil, masked-next}
use Rattle.strings.proofs.Place.{length-overwrite}
use Rattle.primitives.proofs.aes.ExpandedKey.modified_counter.Goals as goal

pub loop-i-init : goal.loop-i-init
unfolding φ
loop-i-init c = (refl, refl, refl)

pub loop-i-preserved : goal.loop-i-preserved
unfolding φ
loop-i-preserved c =
    let l = c.loop-i in
    let a = c.args in
    let β : ℕ = value a.beta in
    let mask : ℕ → ℕ = λ i. (under a.self).E (φ times_x β i ⊕ value a.s) in
    let next : 16 * (l.i + 1) ≡ 16 * l.i + 16 = omega arith in
    let more : l.i + 1 ≡ suc l.i = omega arith in
    let there : 16 * l.i < length l.message = omega (arith, div_ceil_times (length a.message.now) 16 (lit< tt), c.div_ceil-i-end.ensures, l.invariant.2) in (
      rw (c.mask.ensures, c.xor.ensures, l.invariant.1, next, more) (masked-next mask l.i (16 * l.i) l.message there ∙ l.invariant.0),
      rw (c.times_x-phi.ensures, more) (ap times_x l.invariant.1),
      simp (c.mask.ensures, length-overwrite) l.invariant.2,
    )

pub returns : goal.returns
returns c =
    let l = c.loop-i in
    let a = c.args in
    let past : length l.message ≤ 16 * l.i = omega (arith, div_ceil_times (length a.message.now) 16 (lit< tt), c.div_ceil-i-end.ensures, l.invariant.2) in
    rw (take_all (16 * l.i) l.message past, drop_of_length-le l.message past, masked_nil _ (l.i), append-nil l.message) at l.invariant.0
