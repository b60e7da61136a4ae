-- What is done and what is left to do make the whole: one block goes from the one to the other at each turn.
use Rattle.std.proofs.Common.{◌≡◌, ℕ, suc, ◌+◌, ◌*◌, ◌<◌, ◌≤◌, length, ◌∙◌, append-nil, lit<, arith, drop_of_length-le, take_all}
use Rattle.std.proofs.lemmas.Grind.{div_ceil_times}
use Rattle.strings.specs.Xor.{◌⊕◌}
use Rattle.blocks.specs.Blocks.{bin}
use Rattle.primitives.specs.Expanded.{under}
use Rattle.blocks.specs.Inner.{value}
use Rattle.blocks.proofs.Counter.{masked_nil, masked-next}
use Rattle.strings.proofs.Place.{length-overwrite}
use Rattle.primitives.proofs.aes.ExpandedKey.counter.Goals as goal

pub loop-i-preserved : goal.loop-i-preserved
loop-i-preserved c =
    let l = c.loop-i in
    let a = c.args in
    let mask : ℕ → ℕ = λ i. (under a.self).E (value a.s ⊕ bin i) in
    let next : 16 * (l.i + 1) ≡ 16 * l.i + 16 = omega arith in
    let more : l.i + 1 + 1 ≡ suc (l.i + 1) = omega arith in
    let there : 16 * l.i < length l.message = omega (arith, div_ceil_times (length a.message.now) 16 (lit< tt), c.div_ceil-i-end.ensures, l.invariant.1) in (
      rw (c.mask.ensures, c.xor_bin.ensures, next, more) (masked-next mask (l.i + 1) (16 * l.i) l.message there ∙ l.invariant.0),
      simp (c.mask.ensures, length-overwrite) l.invariant.1,
    )

pub returns : goal.returns
returns c =
    let l = c.loop-i in
    let a = c.args in
    let past : length l.message ≤ 16 * l.i = omega (arith, div_ceil_times (length a.message.now) 16 (lit< tt), c.div_ceil-i-end.ensures, l.invariant.1) in
    rw (take_all (16 * l.i) l.message past, drop_of_length-le l.message past, masked_nil _ (l.i + 1), append-nil l.message) at l.invariant.0
