-- Exclusive or is a commutative group on the numbers, works digit by digit and keeps the numbers of k digits. `xor_laws` is a normal form for sums.
-- Assumes nothing.
use mathlib.Core.Path.{◌≡◌, refl}
use Prim.Native.Nat.{ℕ, zero, suc, ◌+◌, ◌*◌, ◌/◌, ◌%◌, ◌^◌, ◌<◌}
use native.Mathlib.Nat.{mod-lt, zero-lt-suc}
use native.Mathlib.Omega.{arith}
use lib.Arith.{bin_ind}
use lib.Bits as bits
use Rattle.strings.specs.Xor.{◌⊕◌}

pub xor_zero_left : (a : ℕ) → 0 ⊕ a ≡ a
unfolding ◌⊕◌
xor_zero_left a = refl

pub xor_zero : (a : ℕ) → a ⊕ 0 ≡ a
unfolding ◌⊕◌
xor_zero a = bits.xor_zero_r a

pub xor_self : (a : ℕ) → a ⊕ a ≡ 0
unfolding ◌⊕◌
xor_self a = bits.xor_self a

pub xor_comm : (a b : ℕ) → a ⊕ b ≡ b ⊕ a
unfolding ◌⊕◌
xor_comm a b = bits.xor_comm a b

pub xor_below : (k : ℕ) {a b : ℕ} → a < 2 ^ k → b < 2 ^ k → a ⊕ b < 2 ^ k
unfolding ◌⊕◌
xor_below k {a} {b} ha hb = bits.xor_lt k a b ha hb

-- Shifts and masks pass through, and so does a cut into two parts.
pub xor_shr : (k a b : ℕ) → (a ⊕ b) / 2 ^ k ≡ a / 2 ^ k ⊕ b / 2 ^ k
unfolding ◌⊕◌
xor_shr k a b = bits.xor_shr a b k

pub xor_mod : (k a b : ℕ) → (a ⊕ b) % 2 ^ k ≡ a % 2 ^ k ⊕ b % 2 ^ k
unfolding ◌⊕◌
xor_mod k a b = bits.xor_mod a b k

pub xor_parts : (k a b c d : ℕ) → c < 2 ^ k → d < 2 ^ k → (a * 2 ^ k + c) ⊕ (b * 2 ^ k + d) ≡ (a ⊕ b) * 2 ^ k + (c ⊕ d)
unfolding ◌⊕◌
xor_parts k a b c d hc hd = bits.xor_block k a b c d hc hd

-- A number above k digits and one of k digits have none in common: their sum is the usual one.
pub xor_disjoint : (k a b : ℕ) → b < 2 ^ k → a * 2 ^ k ⊕ b ≡ a * 2 ^ k + b
unfolding ◌⊕◌
xor_disjoint k a b h = bits.xor_shifted a k b h

-- Associativity: of single digits by cases, of all numbers digit by digit.
digit_assoc : (x y z : ℕ) → x < 2 → y < 2 → z < 2 → x ⊕ y ⊕ z ≡ x ⊕ (y ⊕ z)
unfolding ◌⊕◌
digit_assoc zero y z hx hy hz = refl
digit_assoc (suc zero) zero z hx hy hz = refl
digit_assoc (suc zero) (suc zero) zero hx hy hz = refl
digit_assoc (suc zero) (suc zero) (suc zero) hx hy hz = refl
digit_assoc (suc zero) (suc zero) (suc (suc z)) hx hy hz = absurd (omega arith)
digit_assoc (suc zero) (suc (suc y)) z hx hy hz = absurd (omega arith)
digit_assoc (suc (suc x)) y z hx hy hz = absurd (omega arith)

pub by_digits : (a b : ℕ) → a / 2 ≡ b / 2 → a % 2 ≡ b % 2 → a ≡ b
by_digits a b h l = omega arith

bit : (a : ℕ) → a % 2 < 2
bit a = mod-lt a (zero-lt-suc 1)

pub xor_assoc : (a b c : ℕ) → a ⊕ b ⊕ c ≡ a ⊕ (b ⊕ c)
xor_assoc =
    bin_ind (λ (a : ℕ). (b c : ℕ) → a ⊕ b ⊕ c ≡ a ⊕ (b ⊕ c)) (λ b c. simp xor_zero_left)
    (λ a h b c. by_digits (a ⊕ b ⊕ c) (a ⊕ (b ⊕ c))
    (simp (xor_shr 1) (h (b / 2) (c / 2)))
    (simp (xor_mod 1) (digit_assoc (a % 2) (b % 2) (c % 2) (bit a) (bit b) (bit c))))

pub xor_left_comm : (a b c : ℕ) → a ⊕ (b ⊕ c) ≡ b ⊕ (a ⊕ c)
xor_left_comm a b c = rw (← xor_assoc a b c, xor_comm a b, xor_assoc)

pub xor_cancel : (a b : ℕ) → a ⊕ (a ⊕ b) ≡ b
xor_cancel a b = rw (← xor_assoc a a b, xor_self a, xor_zero_left)

pub xor_cancel_right : (a b : ℕ) → a ⊕ b ⊕ b ≡ a
xor_cancel_right a b = simp (xor_assoc, xor_self, xor_zero)

pub ruleset xor_laws = (xor_assoc, xor_comm, xor_left_comm, xor_cancel, xor_self, xor_zero, xor_zero_left)
