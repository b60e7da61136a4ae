-- The largest power of two not above a number.
-- Assumes nothing.
use Prim.Native.Nat.{ℕ, zero, suc, ◌*◌, ◌^◌, ◌≤◌, ◌<◌}
use mathlib.Core.Path.{◌≡◌, refl, ap, ◌∙◌}
use mathlib.Core.Bool.{Bool, true, false, cond}
use native.Mathlib.Nat.{le_trans, lt_of_lt_of_le, lt_irrefl, lt_of_not-le, le_of_suc-le-suc, le_antisymm, pow-suc}
use native.Mathlib.Omega.{arith}
use lib.Dec.{leb}
use lib.Pow.{pow_mono, pow_pos}
use borrow.Author.Tests.{leb-true, leb-false}
use Rattle.brw.specs.Brw.{largest_from, largest_power}
use Rattle.brw.specs.Theorems.{IsLargestPower}

-- k = 2 ^ j lies at most as high as n, and twice k above it.
pub record Between (n k : ℕ) : Type 0 where
  pub exponent : ℕ
  pub is_power : k ≡ 2 ^ exponent
  pub not_above : k ≤ n
  pub twice_above : n < 2 * k

below_power : (n : ℕ) → n < 2 ^ suc n
below_power zero = pow_pos 1
below_power (suc n) = omega (arith, pow-suc 2 (suc n), below_power n)

from_test : (j n : ℕ) (b : Bool) → leb (2 ^ suc j) n ≡ b → n < 2 ^ suc (suc j) → (n < 2 ^ suc j → Between n (largest_from j n)) → Between n (cond b (2 ^ suc j) (largest_from j n))
from_test j n true e h rest = record { exponent = suc j; is_power = refl; not_above = leb-true _ _ e; twice_above = omega (arith, pow-suc 2 (suc j), h) }
from_test j n false e h rest = rest (leb-false _ _ e)

between_from : (j n : ℕ) → 1 ≤ n → n < 2 ^ suc j → Between n (largest_from j n)
unfolding largest_from
between_from zero n l h = record { exponent = 0; is_power = refl; not_above = l; twice_above = h }
between_from (suc j) n l h = from_test j n (leb (2 ^ suc j) n) refl h (between_from j n l)

pub between : (n : ℕ) → 1 ≤ n → Between n (largest_power n)
unfolding largest_power
between n l = between_from n n l (below_power n)

-- Such a power is the largest, and there is one alone.
above : (i j n : ℕ) → 2 ^ i ≤ n → n < 2 ^ suc j → i < suc j
above i j n h l = lt_of_not-le (λ (k : suc j ≤ i). lt_irrefl n (lt_of_lt_of_le l (le_trans (pow_mono k) h)))

pub largest : (n : ℕ) → 1 ≤ n → IsLargestPower n (largest_power n)
largest n l =
    let b = between n l in
    let j = b.exponent in
    let top : n < 2 ^ suc j = omega (arith, pow-suc 2 j, b.is_power, b.twice_above) in
    record {
      is_power = (j, b.is_power);
      not_above = b.not_above;
      largest = λ i h. rw b.is_power (pow_mono (le_of_suc-le-suc (above i j n h top)));
    }

-- One exponent alone has 2 ^ j not above n, and 2 ^ (j + 1) above it.
pub same_exponent : (n i j : ℕ) → 2 ^ i ≤ n → n < 2 ^ suc i → 2 ^ j ≤ n → n < 2 ^ suc j → i ≡ j
same_exponent n i j hi li hj lj = le_antisymm (le_of_suc-le-suc (above i j n hi lj)) (le_of_suc-le-suc (above j i n hj li))

pub exponent_is : (n j : ℕ) → 2 ^ j ≤ n → n < 2 ^ suc j → largest_power n ≡ 2 ^ j
exponent_is n j h l =
    let b = between n (le_trans (pow_pos j) h) in
    let i = b.exponent in
    b.is_power ∙ ap (λ (x : ℕ). 2 ^ x) (same_exponent n i j (rw b.is_power at b.not_above) (omega (arith, pow-suc 2 i, b.is_power, b.twice_above)) h l)
