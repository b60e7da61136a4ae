-- The two refusals, and the bytes of the whole text once the loop has come to its end.
use mathlib.Core.Path.{◌≡◌, refl, sym, ◌∙◌}
use mathlib.Core.Bool.{and-false}
use Prim.Native.Nat.{◌+◌, ◌*◌, ◌/◌}
use native.Mathlib.Omega.{arith}
use lib.ListN.{length, take}
use lib.Seq.{take_all}
use borrow.Author.Tests.{le-leb, lt-leb}
use Rattle.text.specs.Hex.{unhex}
use Rattle.text.specs.Inner.{decoded_of, decoded_in}
use Rattle.text.proofs.Digits.{digit_at, even_digits, unhex_store}
use Rattle.text.proofs.hex.decode.Goals.{then-out-n-via-then-out-n, then-out-n-via-else-out-n+then-not-is_hex}
use Rattle.text.proofs.hex.decode.Goals as goal

pub returns-then-out-n : goal.returns-then-out-n
unfolding decoded_of decoded_in
returns-then-out-n c =
    let a = c.args in
    record {
      value = elim c.then-out-n.branch [
        | then-out-n-via-then-out-n w ↦ simp (lt-leb _ _ w.if-out-n.true, and-false)
        | then-out-n-via-else-out-n+then-not-is_hex w ↦ simp (sym w.is_hex.ensures ∙ w.if-not-is_hex.true)
      ];
      out_after = refl;
    }

pub loop-i-init : goal.loop-i-init
unfolding unhex
loop-i-init c = (sym c.is_hex.ensures ∙ c.if-not-is_hex.false, refl)

pub byte_at-requires : goal.byte_at-requires
byte_at-requires c =
    let s = c.args.text.now in
    let h = even_digits s c.loop-i.invariant.0 in
    record {
      k_value = digit_at s (2 * c.loop-i.i) h.1 (omega arith);
      k_value_2 = digit_at s (2 * c.loop-i.i + 1) h.1 (omega arith);
      k_in_bounds = omega arith;
    }

pub loop-i-preserved : goal.loop-i-preserved
loop-i-preserved c =
    let a = c.args in
    let store = unhex_store a.text.now a.out.now c.loop-i.i (omega arith) (omega arith) in
    (c.loop-i.invariant.0, cc store)

pub returns : goal.returns
unfolding decoded_of decoded_in
returns c =
    let a = c.args in
    let s = a.text.now in
    let i = c.loop-i.i in
    let inv = c.loop-i.invariant in
    let n : length s / 2 ≡ i = omega arith in
    let whole : take (2 * i) s ≡ s = take_all (2 * i) s (omega (arith, (even_digits s inv.0).0)) in
    record {
      value = simp (inv.0, le-leb (length s / 2) (length a.out.now) (omega arith));
      out_after = rw (n, inv.1, whole) refl;
    }
