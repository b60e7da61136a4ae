-- A string of more than three blocks, split at its kth block: the clause of more blocks, on the parts where they stand.
-- Assumes nothing.
use Prim.Native.Nat.{ℕ, ◌+◌, ◌-◌, ◌*◌, ◌/◌, ◌^◌, ◌≤◌, ◌<◌, min}
use mathlib.Core.Path.{◌≡◌, refl, sym, ap, ◌∙◌}
use mathlib.Core.Bool.{Bool, true, false}
use mathlib.Core.List.{List}
use native.Mathlib.Omega.{arith}
use lib.Dec.{leb}
use lib.ListN.{length, get_or, take, drop, length-drop, drop_of_length-le}
use lib.Seq.{length-take-le}
use borrow.Author.Tests.{leb-true, leb-false}
use Rattle.strings.specs.Xor.{◌⊕◌}
use Rattle.blocks.specs.Blocks.{first_block, blocks}
use Rattle.blocks.specs.BlockField.{◌·◌}
use Rattle.blocks.proofs.Blocks.{length-blocks}
use Rattle.brw.specs.Brw.{largest_power, products}
use Rattle.brw.specs.Inner.{power_at, lent_power, lent_polynomial, SplitOf}
use Rattle.brw.specs.declared.evaluation.Split.{Split}
use Rattle.brw.proofs.Clauses.{shorter, more, products_more, products_half}
use Rattle.brw.proofs.Squares.{zeros_of_power}
use Rattle.brw.proofs.Parts.{blocks-drop, blocks_get, blocks-take}

-- A part that would begin behind the end is empty.
from_test : (b : Bool) (m : ℕ) (s : List ℕ) → leb m (length s) ≡ b → drop (min m (length s)) s ≡ drop m s
from_test true m s e =
    let here : min m (length s) ≡ m = omega (arith, leb-true m (length s) e) in
    ap (λ (i : ℕ). drop i s) here
from_test false m s e =
    let h : length s < m = leb-false m (length s) e in
    let end : length s ≤ min m (length s) = omega (arith, h) in
    let past : length s ≤ m = omega (arith, h) in
    drop_of_length-le s end ∙ sym (drop_of_length-le s past)

-- The blocks before the kth, the kth, and those behind it.
record Parts (s : List ℕ) (split : Split) : Type 0 where
  before : blocks (take split.at s) ≡ take (largest_power (length (blocks s)) - 1) (blocks s)
  kth : first_block (drop split.at s) ≡ get_or (blocks s) (largest_power (length (blocks s)) - 1) 0
  behind : blocks (drop split.end s) ≡ drop (largest_power (length (blocks s))) (blocks s)

at_least_four : (s : List ℕ) → 48 < length s → 4 ≤ length (blocks s)
at_least_four s h = rw length-blocks (omega (arith, h))

before_it : (k l : ℕ) → k - 1 < (l + 15) / 16 → 16 * (k - 1) ≤ l
before_it k l h = omega arith

parts : (s : List ℕ) (split : Split) → 48 < length s → SplitOf (length s) split → Parts s split
parts s split h o =
    let n : ℕ = length (blocks s) in
    let l = length-blocks s in
    let k : ℕ = largest_power n in
    let i = shorter n (omega (arith, at_least_four s h)) in
    let kth : split.at ≡ 16 * (k - 1) = rw l o.kth in
    let behind : split.end ≡ min (16 * k) (length s) = rw l o.behind in
    record {
      before = rw kth (blocks-take (k - 1) s (omega (arith, i.before, l)));
      kth = rw kth (blocks_get (k - 1) s i.before);
      behind = rw (behind, from_test (leb (16 * k) (length s)) (16 * k) s refl) (blocks-drop k s);
    }

-- The power of the kth block is lent at the exponent of k.
power_lent : (words : List ℕ) (l : ℕ) (split : Split) → SplitOf l split → lent_power words (largest_power ((l + 15) / 16)) ≡ power_at words split.exponent
unfolding lent_power
power_lent words l split o = rw (← o.power_of, zeros_of_power split.exponent o.small)

pub split-value : (words s : List ℕ) (split : Split) → 48 < length s → SplitOf (length s) split
    → lent_polynomial words (blocks (take split.at s)) · (power_at words split.exponent ⊕ first_block (drop split.at s))
    ⊕ lent_polynomial words (blocks (drop split.end s))
    ≡ lent_polynomial words (blocks s)
unfolding lent_polynomial
split-value words s split h o =
    let p = parts s split h o in
    let lent : power_at words split.exponent ≡ lent_power words (largest_power (length (blocks s))) = rw length-blocks (sym (power_lent words (length s) split o)) in
    rw (p.before, p.kth, p.behind, lent) (sym (more ◌·◌ (power_at words 0) (lent_power words) (blocks s) (at_least_four s h)))

pub split-count : (s : List ℕ) (split : Split) → 48 < length s → SplitOf (length s) split
    → products (length (blocks (take split.at s))) + 1 + products (length (blocks (drop split.end s))) ≡ products (length (blocks s))
split-count s split h o =
    let n : ℕ = length (blocks s) in
    let k : ℕ = largest_power n in
    let p = parts s split h o in
    let i = shorter n (omega (arith, at_least_four s h)) in
    let first : length (take (k - 1) (blocks s)) ≡ k - 1 = length-take-le (k - 1) (blocks s) (omega (arith, i.before)) in
    rw (p.before, p.behind, first, length-drop k (blocks s)) (sym (products_more n (at_least_four s h)))

-- A count is a number of 64 digits, as the length is.
pub count_fits : (s : List ℕ) → length s < 2 ^ 64 → products (length (blocks s)) < 2 ^ 64
count_fits s h = rw (products_half (length (blocks s)), length-blocks s) (omega (arith, h))

-- The parts are shorter.
pub record ShorterParts (s : List ℕ) (split : Split) : Type 0 where
  pub kth_within : split.at ≤ length s
  pub end_within : split.end ≤ length s
  pub before_shorter : split.at < length s
  pub behind_shorter : length s - split.end < length s

pub shorter_parts : (s : List ℕ) (split : Split) → 48 < length s → SplitOf (length s) split → ShorterParts s split
shorter_parts s split h o =
    let l : ℕ = length s in
    let n : ℕ = (l + 15) / 16 in
    let k : ℕ = largest_power n in
    let i = shorter n (omega (arith, h)) in
    record {
      kth_within = rw o.kth (before_it k l i.before);
      end_within = rw o.behind (omega arith);
      before_shorter = rw o.kth (before_strictly k l i.before);
      behind_shorter = rw o.behind (behind_strictly k l i.behind h);
    }
  where
    before_strictly : (k l : ℕ) → k - 1 < (l + 15) / 16 → 16 * (k - 1) < l
    before_strictly k l h = omega arith

    behind_strictly : (k l : ℕ) → (l + 15) / 16 - k < (l + 15) / 16 → 48 < l → l - min (16 * k) l < l
    behind_strictly k l h m = omega arith
