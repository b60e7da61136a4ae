-- The exponent of the largest power is the place of the highest 1 of the number of blocks.
use Prim.Native.Nat.{ℕ, ◌+◌, ◌-◌, ◌*◌, ◌/◌, ◌%◌, ◌^◌, ◌≤◌, ◌<◌, min}
use mathlib.Core.Path.{◌≡◌}
use native.Mathlib.Omega.{arith}
use native.Mathlib.Nat.{lt_of_le_of_lt, mod-eq_of_lt, one-mul, min-le_right}
use lib.Count.{count_leading_zeros, leading_top}
use borrow.Author.Rules.{rules}
use Rattle.brw.specs.Brw.{largest_power}
use Rattle.brw.specs.Inner.{exponent_of}
use Rattle.brw.proofs.Largest.{between}
use Rattle.brw.proofs.Squares.{largest_by_zeros}
use Rattle.brw.proofs.evaluation.split_at.Goals as goal

-- The place of the highest 1 of the number of blocks.
abbrev highest : ℕ → ℕ
highest n = 63 - count_leading_zeros 64 n

record Known (l n : ℕ) : Type 0 where
  zeros : count_leading_zeros 64 n ≤ 63
  small : highest n < 64
  power_of : 2 ^ highest n ≡ largest_power ((l + 15) / 16)
  shifted : 1 * 2 ^ highest n % 2 ^ 64 ≡ largest_power ((l + 15) / 16)
  positive : 0 < largest_power ((l + 15) / 16)
  within : largest_power ((l + 15) / 16) ≤ (l + 15) / 16

known : (l n : ℕ) → 48 < l → l < 2 ^ 64 → n ≡ l / 16 + min 1 (l % 16) → Known l n
unfolding exponent_of
known l n h m counted =
    let k : ℕ = (l + 15) / 16 in
    let e : n ≡ k = omega (arith, counted) in
    let some : 0 < k = omega arith in
    let fits : k < 2 ^ 64 = omega arith in
    let b = between k some in
    let t = leading_top 64 n (rw e some) (rw e fits) in
    let p : 2 ^ highest n ≡ largest_power k = rw e (largest_by_zeros k some fits) in
    record {
      zeros = omega (arith, t.1);
      small = omega arith;
      power_of = p;
      shifted = rw (one-mul, p) (mod-eq_of_lt (lt_of_le_of_lt b.not_above fits));
      positive = omega (arith, b.twice_above, some);
      within = b.not_above;
    }

before_it : (k l : ℕ) → k ≤ (l + 15) / 16 → 16 * (k - 1) ≤ l
before_it k l h = omega arith

behind_it : (k l : ℕ) → 0 < k → k ≤ (l + 15) / 16 → 16 * (k - 1) + min (l - 16 * (k - 1)) 16 ≡ min (16 * k) l
behind_it k l h m = omega arith

pub overflow_mul-at : goal.overflow_mul-at
overflow_mul-at c =
    let k = known c.args.length c.div_ceil-n.result c.requires (search rules) c.div_ceil-n.ensures in
    record { fits = rw k.shifted (lt_of_le_of_lt (before_it _ c.args.length k.within) (search rules)) }

pub overflow_sub-length : goal.overflow_sub-length
overflow_sub-length c =
    let k = known c.args.length c.div_ceil-n.result c.requires (search rules) c.div_ceil-n.ensures in
    rw k.shifted (before_it _ c.args.length k.within)

pub overflow_add-result : goal.overflow_add-result
overflow_add-result c =
    let l = c.args.length in
    let k = known l c.div_ceil-n.result c.requires (search rules) c.div_ceil-n.ensures in
    let end : 16 * (1 * 2 ^ highest c.div_ceil-n.result % 2 ^ 64 - 1) + c.min.result ≡ min (16 * largest_power ((l + 15) / 16)) l =
    rw (c.min.ensures, k.shifted) (behind_it (largest_power ((l + 15) / 16)) l k.positive k.within) in
    record { fits = rw end (lt_of_le_of_lt (min-le_right _ l) (search rules)) }

pub returns : goal.returns
returns c =
    let l = c.args.length in
    let k = known l c.div_ceil-n.result c.requires (search rules) c.div_ceil-n.ensures in
    let end : 16 * (1 * 2 ^ highest c.div_ceil-n.result % 2 ^ 64 - 1) + c.min.result ≡ min (16 * largest_power ((l + 15) / 16)) l =
    rw (c.min.ensures, k.shifted) (behind_it (largest_power ((l + 15) / 16)) l k.positive k.within) in
    record { small = k.small; power_of = k.power_of; kth = rw k.shifted; behind = end }
