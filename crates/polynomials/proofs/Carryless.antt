-- The carry-less product is additive on both sides, and shifts pass through it: with no bounds, for nothing is reduced.
-- Assumes nothing.
use mathlib.Core.Path.{◌≡◌, refl, sym, ap, ◌∙◌}
use Prim.Native.Nat.{ℕ, zero, suc, ◌+◌, ◌-◌, ◌*◌, ◌/◌, ◌%◌, ◌^◌, ◌≤◌, ◌<◌}
use native.Mathlib.Nat.{le_of_suc-le-suc, not-suc-le-zero, add-zero, zero-mul, one-mul, mul-one, mul_assoc, pow-suc, add-suc}
use native.Mathlib.Omega.{arith}
use lib.Arith.{lt-one}
use lib.Dec.{lit<}
use lib.Bits.{shifted_half, shifted_even}
use lib.Pow.{pow_pos, pow_mono}
use Rattle.blocks.specs.Field.{times01}
use Rattle.polynomials.specs.Inner.{carryless}
use Rattle.strings.proofs.Xor.{xor_laws, xor_shr, xor_parts, xor_below, xor_zero, xor_zero_left}
use Rattle.blocks.proofs.Ring.{Additive, additive_zero, double_add, pow_double, times01_add, add_times01, times01_below}

-- A shift is additive.
pub shift_add : (i : ℕ) → Additive (λ a. a * 2 ^ i)
shift_add i a b = simp (add-zero, xor_zero) at (sym (xor_parts i a b 0 0 (pow_pos i) (pow_pos i)))

pub carryless_add_left : (n c : ℕ) → Additive (λ a. carryless n a c)
unfolding carryless
carryless_add_left zero c a b = sym (xor_zero 0)
carryless_add_left (suc n) c a b = rw (carryless_add_left n (c / 2) a b) (simp (times01_add, double_add, xor_laws))

pub carryless_add_right : (n a : ℕ) → Additive (carryless n a)
unfolding carryless
carryless_add_right zero a b c = sym (xor_zero 0)
carryless_add_right (suc n) a b c = rw (xor_shr 1 b c, carryless_add_right n a (b / 2) (c / 2)) (simp (add_times01, double_add, xor_laws))

pub carryless_zero_right : (n a : ℕ) → carryless n a 0 ≡ 0
carryless_zero_right n a = additive_zero (carryless n a) (carryless_add_right n a)

times01_shift : (d i a : ℕ) → times01 d (a * 2 ^ i) ≡ times01 d a * 2 ^ i
unfolding times01
times01_shift zero i a = sym (zero-mul (2 ^ i))
times01_shift (suc d) i a = refl

pub carryless_shift_left : (n i a b : ℕ) → carryless n (a * 2 ^ i) b ≡ carryless n a b * 2 ^ i
unfolding carryless
carryless_shift_left zero i a b = sym (zero-mul (2 ^ i))
carryless_shift_left (suc n) i a b =
    rw (carryless_shift_left n i a (b / 2), times01_shift (b % 2) i a, ← mul_assoc 2 (carryless n a (b / 2)) (2 ^ i))
    (sym (shift_add i (times01 (b % 2) a) (2 * carryless n a (b / 2))))

pub carryless_shift_right : (n m i a b : ℕ) → n + i ≡ m → carryless m a (b * 2 ^ i) ≡ carryless n a b * 2 ^ i
unfolding carryless times01
carryless_shift_right n m zero a b e = rw (← e, add-zero n, mul-one b) (sym (mul-one (carryless n a b)))
carryless_shift_right n zero (suc i) a b e = absurd (omega arith)
carryless_shift_right n (suc m) (suc i) a b e =
    rw (shifted_half b i, shifted_even b i, carryless_shift_right n m i a b (omega arith), xor_zero_left, pow-suc 2 i)
    (omega arith)

-- Digits that b does not have add nothing.
pub carryless_more : (n m a b : ℕ) → n ≤ m → b < 2 ^ n → carryless m a b ≡ carryless n a b
unfolding carryless
carryless_more zero m a b l h = rw (lt-one h) (carryless_zero_right m a)
carryless_more (suc n) zero a b l h = absurd (not-suc-le-zero l)
carryless_more (suc n) (suc m) a b l h = rw (carryless_more n m a (b / 2) (le_of_suc-le-suc l) (omega (arith, pow-suc 2 n)))

pub carryless_below : (n m a b : ℕ) → a < 2 ^ m → carryless n a b < 2 ^ (m + n)
unfolding carryless
carryless_below zero m a b h = pow_pos (m + 0)
carryless_below (suc n) m a b h =
    let next : 2 * 2 ^ (m + n) ≡ 2 ^ (m + suc n) = pow_double (m + n) ∙ ap (λ (k : ℕ). 2 ^ k) (sym (add-suc m n)) in
    let rest : carryless n a (b / 2) < 2 ^ (m + n) = carryless_below n m a (b / 2) h in
    let wider : 2 ^ m ≤ 2 ^ (m + suc n) = pow_mono (omega arith) in
    xor_below (m + suc n) (times01_below (b % 2) (pow_pos (m + suc n)) (omega arith)) (omega arith)

-- A power of x shifts.
pub carryless_pow : (n i a : ℕ) → i < n → carryless n a (2 ^ i) ≡ a * 2 ^ i
unfolding carryless times01
carryless_pow n i a h =
    ap (carryless n a) (sym (one-mul (2 ^ i))) ∙ carryless_shift_right (n - i) n i a 1 (omega arith)
    ∙ ap (λ (x : ℕ). x * 2 ^ i) (carryless_more 1 (n - i) a 1 (omega arith) (lit< tt) ∙ xor_zero a)
