-- The lent words: one power written, and those that are prepared.
-- Assumes nothing.
use Prim.Native.Nat.{ℕ, zero, suc, ◌+◌, ◌*◌, ◌^◌, ◌≤◌, ◌<◌, min}
use mathlib.Core.Path.{◌≡◌, refl, ◌∙◌}
use mathlib.Core.Bool.{Bool, true, false, cond}
use mathlib.Core.List.{List}
use native.Mathlib.Omega.{arith}
use lib.Dec.{ltb}
use lib.ListN.{length, get_or, set, replicate, length-set}
use lib.Pow.{pow_mono}
use lib.Seq.{get_or-set_same, get_or-set_other}
use borrow.Author.Tests.{le-leb, lt-leb, lt-ltb}
use Rattle.blocks.specs.Field.{power}
use Rattle.blocks.specs.BlockField.{◌·◌}
use Rattle.brw.specs.Inner.{power_at, prepared}

-- Two words written at number i.
abbrev pub put : List ℕ → (i high low : ℕ) → List ℕ
put words i high low = set (set words (2 * i) high) (2 * i + 1) low

pub put_same : (words : List ℕ) (i high low : ℕ) → length words ≡ 16 → i < 8 → power_at (put words i high low) i ≡ high * 2 ^ 64 + low
unfolding power_at
put_same words i high low l h =
    let w : List ℕ = set words (2 * i) high in
    let first : get_or (put words i high low) (2 * i) 0 ≡ high =
    get_or-set_other w (2 * i + 1) (2 * i) low 0 (λ e. absurd (omega (arith, e))) ∙ get_or-set_same words (2 * i) high 0 (rw l (omega (arith, h))) in
    let second : get_or (put words i high low) (2 * i + 1) 0 ≡ low = get_or-set_same w (2 * i + 1) low 0 (rw (length-set words (2 * i) high, l) (omega (arith, h))) in
    rw (lt-ltb i 8 h, first, second)

pub put_other : (words : List ℕ) (i high low j : ℕ) → (j ≡ i → ⊥) → power_at (put words i high low) j ≡ power_at words j
unfolding power_at
put_other words i high low j n =
    let w : List ℕ = set words (2 * i) high in
    let first : get_or (put words i high low) (2 * j) 0 ≡ get_or words (2 * j) 0 =
    get_or-set_other w (2 * i + 1) (2 * j) low 0 (λ e. absurd (omega (arith, e))) ∙ get_or-set_other words (2 * i) (2 * j) high 0 (λ e. n (omega (arith, e))) in
    let second : get_or (put words i high low) (2 * j + 1) 0 ≡ get_or words (2 * j + 1) 0 =
    get_or-set_other w (2 * i + 1) (2 * j + 1) low 0 (λ e. n (omega (arith, e))) ∙ get_or-set_other words (2 * i) (2 * j + 1) high 0 (λ e. absurd (omega (arith, e))) in
    rw (first, second)

zero_at : (n m : ℕ) → ◌≡◌ {A = ℕ} (get_or (replicate n 0) m 0) 0
zero_at zero m = refl
zero_at (suc n) zero = refl
zero_at (suc n) (suc m) = zero_at n m

either : (b : Bool) → ◌≡◌ {A = ℕ} (cond b 0 0) 0
either true = refl
either false = refl

pub none_yet : (j : ℕ) → power_at (replicate 16 0) j ≡ 0
unfolding power_at
none_yet j = rw (zero_at 16 (2 * j), zero_at 16 (2 * j + 1)) (either (ltb j 8))

-- A power is prepared if n blocks need it and it is one of the eight.
pub prepared_here : (t n i : ℕ) → 2 ^ suc i ≤ n → suc i < 8 → prepared t n (suc i) ≡ power 1 ◌·◌ t (2 ^ suc i)
unfolding prepared
prepared_here t n i h l =
    let small : 2 ^ suc i ≤ 128 = pow_mono {j = 7} (omega (arith, l)) in
    let fits : 2 ^ suc i ≤ min n 255 = omega (arith, small, h) in
    rw (le-leb (2 ^ suc i) (min n 255) fits)

pub not_prepared : (t n i : ℕ) → n < 2 ^ suc i → prepared t n (suc i) ≡ 0
unfolding prepared
not_prepared t n i h =
    let past : min n 255 < 2 ^ suc i = omega (arith, h) in
    rw (lt-leb (2 ^ suc i) (min n 255) past)

pub past_eight : (t n i : ℕ) → 8 ≤ suc i → prepared t n (suc i) ≡ 0
unfolding prepared
past_eight t n i h =
    let large : 256 ≤ 2 ^ suc i = pow_mono {i = 8} h in
    let past : min n 255 < 2 ^ suc i = omega (arith, large) in
    rw (lt-leb (2 ^ suc i) (min n 255) past)
