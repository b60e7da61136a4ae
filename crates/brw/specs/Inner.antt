-- What the contracts of inner functions cite: nobody has to believe it.
use Rattle.std.specs.Prelude.{ℕ, zero, suc, ◌+◌, ◌-◌, ◌*◌, ◌/◌, ◌^◌, ◌<◌, min, ◌≡◌, cond, List, leb, ltb, length, get_or}
use Rattle.std.specs.Int.Count.{count_leading_zeros}
use Rattle.blocks.specs.Field.{power}
use Rattle.blocks.specs.BlockField.{◌·◌}
use Rattle.brw.specs.Brw.{largest_power, polynomial}
use Rattle.brw.specs.declared.evaluation.Split.{Split}

-- The block that two lent words stand for, those of number i; there are eight.
unfoldable pub power_at : List ℕ → ℕ → ℕ
power_at words i = cond (ltb i 8) (get_or words (2 * i) 0 * 2 ^ 64 + get_or words (2 * i + 1) 0) 0

-- What is prepared for n blocks: t, and behind it t ^ 2, t ^ 4, …, as far as n blocks need them, and at most t ^ 128.
unfoldable pub prepared : (t n : ℕ) → ℕ → ℕ
prepared t n zero = t
prepared t n (suc i) = cond (leb (2 ^ suc i) (min n 255)) (power 1 ◌·◌ t (2 ^ suc i)) 0

-- The place of the highest 1 among the 64 digits of a number.
unfoldable pub exponent_of : ℕ → ℕ
exponent_of n = 63 - count_leading_zeros 64 n

-- The polynomial with the powers that are lent: that of k = 2 ^ j stands at j.
unfoldable pub lent_power : List ℕ → ℕ → ℕ
lent_power words k = power_at words (exponent_of k)

unfoldable pub lent_polynomial : List ℕ → List ℕ → ℕ
lent_polynomial words Xs = polynomial ◌·◌ (power_at words 0) (lent_power words) (length Xs) Xs

-- A string of that length is split at its kth block, k the largest power of two not above the number of its blocks.
pub record SplitOf (length : ℕ) (split : Split) : Type 0 where
  pub small : split.exponent < 64
  pub power_of : 2 ^ split.exponent ≡ largest_power ((length + 15) / 16)
  pub kth : split.at ≡ 16 * (largest_power ((length + 15) / 16) - 1)
  pub behind : split.end ≡ min (16 * largest_power ((length + 15) / 16)) length
