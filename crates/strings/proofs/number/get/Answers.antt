-- After i turns `value` is the number of the i bytes from `at` on, 0 past the end, cut to 64 digits.
use Prim.Native.Nat.{ℕ, ◌+◌, ◌*◌, ◌%◌, ◌^◌, ◌<◌}
use mathlib.Core.Path.{◌≡◌, ◌∙◌}
use native.Mathlib.Omega.{arith}
use lib.ListN.{get_or, drop, get_or-eq_default}
use Rattle.strings.specs.Bytes.{number}
use Rattle.strings.specs.Inner.{padded}
use Rattle.strings.proofs.Place.{number-next}
use Rattle.strings.proofs.number.get.Goals as goal
use Rattle.strings.proofs.number.get.Goals.{then-i-there, else-i-there}

-- One byte more.
shifted : (N b : ℕ) → b < 256 → N % 2 ^ 64 * 2 ^ 8 % 2 ^ 64 + b ≡ (N * 256 + b) % 2 ^ 64
shifted N b h = omega arith

pub loop-i-init : goal.loop-i-init
unfolding number padded
loop-i-init c = omega arith

pub loop-i-preserved : goal.loop-i-preserved
loop-i-preserved c =
    let l = c.loop-i in
    let a = c.args in
    let s = a.s.now in
    let b : ℕ = get_or s (a.at + l.i) 0 in
    let N : ℕ = number (padded l.i (drop a.at s)) in
    let next : l.value * 2 ^ 8 % 2 ^ 64 + b ≡ number (padded (l.i + 1) (drop a.at s)) % 2 ^ 64 =
    rw (l.invariant.1, number-next l.i a.at s) (shifted N b (c.type_inv.s (a.at + l.i)).fits) in (
      omega arith,
      elim c.if-i-there.branch [
        | then-i-there w ↦ w.value-is ∙ next
        | else-i-there w ↦
            let none : b ≡ 0 = get_or-eq_default s 0 (omega (arith, c.saturating_sub-there.ensures, w.if-i-there.false)) in
            omega (arith, next, w.value-is, none)
      ],
    )
