-- A number as two halves of w digits: what the code's operations on the halves do to the number. The code has w = 64.
-- Assumes nothing.
use mathlib.Core.Path.{◌≡◌, sym, ap, ap₂, ◌∙◌}
use Prim.Native.Nat.{ℕ, ◌+◌, ◌*◌, ◌/◌, ◌%◌, ◌^◌, ◌<◌}
use native.Mathlib.Nat.{mul_comm, mul_assoc, zero-mul, add_comm, mul-add-div_right, mul-div-mul_right, add-mul-mod_self_right, mod-lt, mod-eq_of_lt, mul-mod_left, lt_of_le_of_lt, zero-add}
use native.Mathlib.Omega.{arith}
use lib.Arith.{digits_lt}
use lib.Pow.{pow_pos, pow-add, high, low, split, mod-pow-add, shr-shr, shl-shr, shr_lt, shr_le}
use Rattle.strings.specs.Xor.{◌⊕◌}
use Rattle.blocks.specs.Inner.{value}
use Rattle.blocks.specs.declared.block.Block.{Block}
use Rattle.strings.proofs.Xor.{xor_comm, xor_disjoint, xor_mod, xor_parts, xor_zero}

-- a number of w digits above a number of w digits has w + w digits
halves_below : (w : ℕ) {hi lo : ℕ} → hi < 2 ^ w → lo < 2 ^ w → hi * 2 ^ w + lo < 2 ^ (w + w)
halves_below w {hi} {lo} hh hl = rw (pow-add 2 w w) (digits_lt hh hl)

pub value_below : (b : Block) → b.hi < 2 ^ 64 → b.lo < 2 ^ 64 → value b < 2 ^ 128
unfolding value
value_below b h l = halves_below 64 h l

-- what stands above place j of the high half
halves_top : (j w hi : ℕ) {lo : ℕ} → lo < 2 ^ w → hi / 2 ^ j ≡ (hi * 2 ^ w + lo) / 2 ^ (w + j)
halves_top j w hi {lo} h = sym (sym (shr-shr (hi * 2 ^ w + lo) w j) ∙ ap (λ (x : ℕ). x / 2 ^ j) (high hi w h))

-- ---- shifted left

-- what a shift by i puts above place j + i stood above place j
pub shift_out : (i j n : ℕ) → n * 2 ^ i / 2 ^ (j + i) ≡ n / 2 ^ j
shift_out i j n = rw (pow-add 2 j i) (mul-div-mul_right n (2 ^ j) (pow_pos i))

-- above both halves stands what falls out of the high one
pub halves_spilt : (i j w hi : ℕ) {lo : ℕ} → j + i ≡ w → lo < 2 ^ w → hi / 2 ^ j ≡ (hi * 2 ^ w + lo) * 2 ^ i / 2 ^ (w + w)
halves_spilt i j w hi {lo} e h =
    halves_top j w hi h ∙ sym (ap (λ (m : ℕ). (hi * 2 ^ w + lo) * 2 ^ i / 2 ^ m) places ∙ shift_out i (w + j) (hi * 2 ^ w + lo))
  where
    places : w + w ≡ w + j + i
    places = omega arith

-- the high half is cut, and what falls out of the low one comes in
pub halves_shifted : (i j w hi lo : ℕ) → j + i ≡ w → lo < 2 ^ w
    → (hi * 2 ^ i % 2 ^ w ⊕ lo / 2 ^ j) * 2 ^ w + lo * 2 ^ i % 2 ^ w ≡ (hi * 2 ^ w + lo) * 2 ^ i % 2 ^ (w + w)
halves_shifted i j w hi lo e h =
    let n : ℕ = (hi * 2 ^ w + lo) * 2 ^ i in
    let carry : lo / 2 ^ j < 2 ^ i = shr_lt i j (rw (add_comm i j, e) h) in
    let parts : hi * 2 ^ w ≡ hi * 2 ^ i * 2 ^ j = rw (← e, pow-add 2 j i, mul_comm (2 ^ j) (2 ^ i)) (sym (mul_assoc hi (2 ^ i) (2 ^ j))) in
    let up : n / 2 ^ w ≡ hi * 2 ^ i ⊕ lo / 2 ^ j =
    ap (λ (m : ℕ). n / 2 ^ m) (sym e) ∙ shift_out i j (hi * 2 ^ w + lo) ∙ ap (λ (x : ℕ). (x + lo) / 2 ^ j) parts
    ∙ mul-add-div_right (pow_pos j) (hi * 2 ^ i) lo ∙ sym (xor_disjoint i hi (lo / 2 ^ j) carry) in
    let cut : n / 2 ^ w % 2 ^ w ≡ hi * 2 ^ i % 2 ^ w ⊕ lo / 2 ^ j =
    ap (λ (x : ℕ). x % 2 ^ w) up ∙ xor_mod w (hi * 2 ^ i) (lo / 2 ^ j)
    ∙ ap (λ (x : ℕ). hi * 2 ^ i % 2 ^ w ⊕ x) (mod-eq_of_lt (lt_of_le_of_lt (shr_le lo j) h)) in
    let below : n % 2 ^ w ≡ lo * 2 ^ i % 2 ^ w =
    ap (λ (x : ℕ). x % 2 ^ w) (regroup hi lo (2 ^ w) (2 ^ i)) ∙ add-mul-mod_self_right (lo * 2 ^ i) (hi * 2 ^ i) (2 ^ w) in
    sym (mod-pow-add n w w ∙ ap₂ (λ (x y : ℕ). x * 2 ^ w + y) cut below)
  where
    regroup : (hi lo n m : ℕ) → (hi * n + lo) * m ≡ lo * m + hi * m * n
    regroup hi lo n m = omega arith

-- ---- the reduction goes into the low half

pub halves_reduced : (w hi lo m : ℕ) → lo < 2 ^ w → m < 2 ^ w → hi * 2 ^ w + (lo ⊕ m) ≡ m ⊕ (hi * 2 ^ w + lo)
halves_reduced w hi lo m hl hm =
    ap (λ (x : ℕ). x * 2 ^ w + (lo ⊕ m)) (sym (xor_zero hi)) ∙ sym (xor_parts w hi 0 lo m hl hm)
    ∙ ap (λ (x : ℕ). (hi * 2 ^ w + lo) ⊕ x) (ap (λ (x : ℕ). x + m) (zero-mul (2 ^ w)) ∙ zero-add m)
    ∙ xor_comm (hi * 2 ^ w + lo) m

-- ---- a number added across the middle of another

-- each part of what is added goes into a part
pub parts_added : (k h l z : ℕ) → l < 2 ^ k → (h ⊕ z / 2 ^ k) * 2 ^ k + (l ⊕ z % 2 ^ k) ≡ (h * 2 ^ k + l) ⊕ z
parts_added k h l z hl =
    sym (xor_parts k h (z / 2 ^ k) l (z % 2 ^ k) hl (mod-lt z (pow_pos k))) ∙ ap (λ (x : ℕ). (h * 2 ^ k + l) ⊕ x) (split z k)

-- two halves, shifted by one: the upper goes into the lower half of the high part, the lower into the upper half of the low part
pub parts_crossed : (w h₁ h₀ l₁ l₀ m₁ m₀ : ℕ) → h₀ < 2 ^ w → l₀ < 2 ^ w → m₁ < 2 ^ w → m₀ < 2 ^ w
    → (h₁ * 2 ^ w + (h₀ ⊕ m₁)) * 2 ^ (w + w) + ((l₁ ⊕ m₀) * 2 ^ w + l₀)
    ≡ (h₁ * 2 ^ w + h₀ ⊕ (m₁ * 2 ^ w + m₀) / 2 ^ w) * 2 ^ (w + w) + (l₁ * 2 ^ w + l₀ ⊕ (m₁ * 2 ^ w + m₀) * 2 ^ w % 2 ^ (w + w))
parts_crossed w h₁ h₀ l₁ l₀ m₁ m₀ hh hl hm hn =
    let up : h₁ * 2 ^ w + (h₀ ⊕ m₁) ≡ h₁ * 2 ^ w + h₀ ⊕ (m₁ * 2 ^ w + m₀) / 2 ^ w =
    halves_reduced w h₁ h₀ m₁ hh hm ∙ xor_comm m₁ (h₁ * 2 ^ w + h₀) ∙ ap (λ (x : ℕ). h₁ * 2 ^ w + h₀ ⊕ x) (sym (high m₁ w hn)) in
    let cut : (m₁ * 2 ^ w + m₀) * 2 ^ w % 2 ^ (w + w) ≡ m₀ * 2 ^ w + 0 =
    mod-pow-add ((m₁ * 2 ^ w + m₀) * 2 ^ w) w w
    ∙ ap₂ (λ (x y : ℕ). x % 2 ^ w * 2 ^ w + y) (shl-shr (m₁ * 2 ^ w + m₀) w) (mul-mod_left (m₁ * 2 ^ w + m₀) (2 ^ w))
    ∙ ap (λ (x : ℕ). x * 2 ^ w + 0) (low m₁ w hn) in
    let down : (l₁ ⊕ m₀) * 2 ^ w + l₀ ≡ l₁ * 2 ^ w + l₀ ⊕ (m₁ * 2 ^ w + m₀) * 2 ^ w % 2 ^ (w + w) =
    ap (λ (x : ℕ). (l₁ ⊕ m₀) * 2 ^ w + x) (sym (xor_zero l₀)) ∙ sym (xor_parts w l₁ m₀ l₀ 0 hl (pow_pos w)) ∙ ap (λ (x : ℕ). l₁ * 2 ^ w + l₀ ⊕ x) (sym cut) in
    ap₂ (λ (x y : ℕ). x * 2 ^ (w + w) + y) up down
