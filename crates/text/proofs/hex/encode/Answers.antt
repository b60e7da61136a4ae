-- What `out` has after i bytes is what `hex_store` says.
use mathlib.Core.Path.{◌≡◌, refl}
use Prim.Native.Nat.{ℕ, ◌+◌, ◌*◌, ◌/◌, ◌%◌, ◌<◌, min}
use native.Mathlib.Omega.{arith}
use lib.ListN.{length, get_or}
use Rattle.text.specs.Hex.{digit, hex}
use Rattle.text.specs.Inner.{fitting, encoded_in}
use Rattle.text.proofs.Digits.{hex_store}
use Rattle.text.proofs.hex.encode.Goals as goal

-- in a turn there is a byte i, and room for its two digits
within : (i n m l : ℕ) → n ≡ min m (l / 2) → i < n → (i < m) × (2 * i + 1 < l)
within i n m l e h = omega arith

pub loop-i-init : goal.loop-i-init
unfolding hex
loop-i-init c = refl

pub loop-i-preserved : goal.loop-i-preserved
loop-i-preserved c =
    let a = c.args in
    let i = c.loop-i.i in
    let h = within i c.min-n.result (length a.bytes.now) (length a.out.now) c.min-n.ensures c.loop-i-test.true in
    let high : c.digit_of.result ≡ digit (get_or a.bytes.now i 0 / 16) = c.digit_of.ensures in
    let low : c.digit_of-in-loop-i.result ≡ digit (get_or a.bytes.now i 0 % 16) = c.digit_of-in-loop-i.ensures in
    rw (c.loop-i.invariant, high, low) (hex_store a.bytes.now a.out.now i h.0 h.1)

pub returns : goal.returns
unfolding fitting encoded_in
returns c =
    let n : c.loop-i.i ≡ c.min-n.result = omega arith in
    record { value = omega arith; out_after = rw (← c.min-n.ensures, ← n) c.loop-i.invariant }
