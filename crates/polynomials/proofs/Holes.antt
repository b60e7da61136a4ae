-- The product with holes. Numbers whose digits to the base 16 are 0 and 1 are multiplied with no carry from digit to digit, as long as there are
-- at most fifteen of them; so the lowest bit of each digit of the product is that of the carry-less product.
-- Assumes nothing.
use mathlib.Core.Path.{◌≡◌, refl, sym, ap, ap₂, ◌∙◌}
use Prim.Native.Nat.{ℕ, zero, suc, ◌+◌, ◌-◌, ◌*◌, ◌/◌, ◌%◌, ◌^◌, ◌≤◌, ◌<◌, zero-le}
use native.Mathlib.Nat.{zero-lt-suc, lt_of_le_of_lt, lt_of_lt_of_le, add-zero, add_comm, mul-zero, mul-one, mul-suc, mul-add, mul_assoc, mul_comm, mul_left_comm, mod-lt, mod-eq_of_lt, pow-suc}
use native.Mathlib.Numerals.{add-one}
use native.Mathlib.Omega.{arith}
use lib.Arith.{bin_ind, lt-one}
use lib.Bits as bits
use lib.Dec.{lit<, lit≤}
use lib.Pow.{pow_pos, pow_mono, pow-add, split, shl_lt, shl-shr}
use Rattle.strings.specs.Xor.{◌⊕◌}
use Rattle.blocks.specs.Field.{times01}
use Rattle.polynomials.specs.Inner.{carryless}
use Rattle.strings.proofs.Xor.{xor_laws, xor_shr, xor_mod, xor_disjoint, xor_zero, by_digits}
use Rattle.blocks.proofs.Ring.{Additive}
use Rattle.polynomials.proofs.Carryless.{carryless_add_left, carryless_add_right, carryless_zero_right, carryless_shift_left, carryless_shift_right, carryless_more, carryless_below}

infixl 68 ◌&◌
-- The digits that both have, as one operator: `simp` would look into the library's.
unfoldable pub ◌&◌ : ℕ → ℕ → ℕ
◌&◌ = bits.bit_and

-- ---- a mask is additive, and may be shifted

and_zero : (a : ℕ) → a & 0 ≡ 0
unfolding ◌&◌
and_zero a = bits.and_zero_r a

and_one : (a : ℕ) → a & 1 ≡ a % 2
unfolding ◌&◌
and_one a = bits.and_mask a 1

and_half : (a m : ℕ) → (a & m) / 2 ≡ a / 2 & m / 2
unfolding ◌&◌
and_half a m = bits.and_shr a m 1

and_low : (a m : ℕ) → (a & m) % 2 ≡ a % 2 & m % 2
unfolding ◌&◌
and_low a m = bits.and_mod a m 1

digit_add : (d : ℕ) → d < 2 → Additive (λ a. a & d)
digit_add zero h a b = simp and_zero (sym (xor_zero 0))
digit_add (suc zero) h a b = simp and_one (xor_mod 1 a b)
digit_add (suc (suc d)) h a b = absurd (omega arith)

mask_add : (m : ℕ) → Additive (λ a. a & m)
mask_add =
    bin_ind (λ (m : ℕ). Additive (λ a. a & m)) (digit_add 0 (zero-lt-suc 1))
    (λ m h a b. by_digits ((a ⊕ b) & m) (a & m ⊕ b & m)
    (simp (and_half, xor_shr 1) (h (a / 2) (b / 2)))
    (simp (and_low, xor_mod 1) (digit_add (m % 2) (mod-lt m (zero-lt-suc 1)) (a % 2) (b % 2))))

and_parts : (k a b r s : ℕ) → r < 2 ^ k → s < 2 ^ k → (a * 2 ^ k + r) & (b * 2 ^ k + s) ≡ (a & b) * 2 ^ k + r & s
unfolding ◌&◌
and_parts = bits.and_block

-- The digits of a from place i on.
and_cut : (i m s a : ℕ) → s < 2 ^ i → a & (m * 2 ^ i + s) ≡ (a / 2 ^ i & m) * 2 ^ i + a % 2 ^ i & s
and_cut i m s a h =
    ap (λ (x : ℕ). x & (m * 2 ^ i + s)) (sym (split a i)) ∙ and_parts i (a / 2 ^ i) m (a % 2 ^ i) s (mod-lt a (pow_pos i)) h

mask_shift : (i m a : ℕ) → a & (m * 2 ^ i) ≡ (a / 2 ^ i & m) * 2 ^ i
mask_shift i m a = simp (add-zero, and_zero) at (and_cut i m 0 a (pow_pos i))

-- ---- digits to the base 16

-- n digits 1.
unfoldable pub ones : ℕ → ℕ
ones zero = 0
ones (suc n) = ones n * 16 + 1

ones_step : (n a : ℕ) → a & ones (suc n) ≡ (a / 16 & ones n) * 16 + a % 2
unfolding ones
ones_step n a =
    let low : a % 16 & 1 ≡ a % 2 = and_one (a % 16) ∙ omega arith in
    rw low at (and_cut 4 (ones n) 1 a (lit< tt))

-- Of the m lowest digits each one of a is at most k, and that of c is its lowest bit.
data Holes (k : ℕ) : (m a c : ℕ) → Type 0 where
  none : (a c : ℕ) → Holes k 0 a c
  more : (m a c : ℕ) → a % 16 ≤ k → c % 16 ≡ a % 2 → Holes k m (a / 16) (c / 16) → Holes k (suc m) a c

zero_holes : (k m : ℕ) → Holes k m 0 0
zero_holes k zero = none 0 0
zero_holes k (suc m) = more m 0 0 zero-le refl (zero_holes k m)

-- One digit more, below the others.
step_holes : (d : ℕ) {k m a c : ℕ} → d < 2 → d ≤ k → Holes k m a c → Holes k (suc m) (a * 16 + d) (c * 16 + d)
step_holes d {k} {m} {a} {c} h l g =
    let up : (x : ℕ) → (x * 16 + d) / 16 ≡ x = λ x. omega arith in
    more m (a * 16 + d) (c * 16 + d) (omega arith) (omega arith) (rw (up a, up c) g)

shift_holes : {k m a c : ℕ} → Holes k m a c → Holes k (suc m) (a * 16) (c * 16)
shift_holes {k} {m} {a} {c} h = rw (add-zero (a * 16), add-zero (c * 16)) at (step_holes 0 (zero-lt-suc 1) zero-le h)

-- The lowest bit of a sum.
odd_sum : (a b : ℕ) → a % 2 ⊕ b % 2 ≡ (a + b) % 2
unfolding ◌⊕◌
odd_sum a b = sym (xor_mod 1 a b) ∙ omega (arith, bits.xor_add_and a b)

-- No digit of the sum is past 15.
sum_holes : {j k m a b c d : ℕ} → j + k ≤ 15 → Holes j m a c → Holes k m b d → Holes (j + k) m (a + b) (c ⊕ d)
sum_holes l (none a c) (none b d) = none (a + b) (c ⊕ d)
sum_holes l (more m a c ga gc g) (more _ b d hb hd h) =
    let up : (a + b) / 16 ≡ a / 16 + b / 16 = omega arith in
    more m (a + b) (c ⊕ d) (omega arith) (rw (xor_mod 4 c d, gc, hd) (odd_sum a b)) (rw (up, xor_shr 4 c d) (sum_holes l g h))

-- The part of a number that a mask of ones takes has digits 0 and 1.
ones_holes : (n m a : ℕ) → Holes 1 m (a & ones n) (a & ones n)
unfolding ones
ones_holes n zero a = none (a & ones n) (a & ones n)
ones_holes zero (suc m) a = rw (and_zero a) (zero_holes 1 (suc m))
ones_holes (suc n) (suc m) a =
    rw (ones_step n a) (step_holes (a % 2) (mod-lt a (zero-lt-suc 1)) (omega arith) (ones_holes n m (a / 16)))

-- The lowest bits are what a mask of ones takes.
masked_holes : {k m a c : ℕ} → Holes k m a c → c < 16 ^ m → a & ones m ≡ c
unfolding ones
masked_holes (none a c) l = and_zero a ∙ sym (lt-one l)
masked_holes (more m a c ha hc h) l = rw (ones_step m a, masked_holes h (omega (arith, pow-suc 16 m))) (omega arith)

-- ---- the product

-- Of the second factor one digit more.
carryless-digit : (N a b d : ℕ) → 4 ≤ N → d < 2 → carryless N a (b * 16 + d) ≡ carryless (N - 4) a b * 16 ⊕ times01 d a
unfolding carryless
carryless-digit N a b d h l =
    let one : d % 2 ≡ d = omega arith in
    let low : carryless N a d ≡ times01 d a = carryless_more 1 N a d (omega arith) l ∙ rw one (xor_zero (times01 d a)) in
    rw (← xor_disjoint 4 b d (omega arith), carryless_add_right N a (b * 16) d, carryless_shift_right (N - 4) N 4 a b (omega arith), low)

module _ (a : ℕ) (ha : (m : ℕ) → Holes 1 m a a) where
  digit_holes : (m d : ℕ) → d < 2 → Holes 1 m (a * d) (times01 d a)
  unfolding times01
  digit_holes m zero h = rw (mul-zero a) (zero_holes 1 m)
  digit_holes m (suc zero) h = rw (mul-one a) (ha m)
  digit_holes m (suc (suc d)) h = absurd (omega arith)

  product_holes : (n N m b : ℕ) → n ≤ 15 → 4 * n ≤ N → Holes n m (a * (b & ones n)) (carryless N a (b & ones n))
  unfolding ones
  product_holes n N zero b h l = none (a * (b & ones n)) (carryless N a (b & ones n))
  product_holes zero N (suc m) b h l = rw (and_zero b, mul-zero a, carryless_zero_right N a) (zero_holes 0 (suc m))
  product_holes (suc n) N (suc m) b h l =
      let p : ℕ = b / 16 & ones n in
      let bit : b % 2 < 2 = mod-lt b (zero-lt-suc 1) in
      let rest : Holes n m (a * p) (carryless (N - 4) a p) = product_holes n (N - 4) m (b / 16) (omega arith) (omega arith) in
      rw (ones_step n b, carryless-digit N a p (b % 2) (omega arith) bit, mul-add a (p * 16) (b % 2), ← mul_assoc a p 16, ← add-one n)
      (sum_holes (omega arith) (shift_holes rest) (digit_holes (suc m) (b % 2) bit))

-- ---- the parts of two words

and_comm : (a b : ℕ) → a & b ≡ b & a
unfolding ◌&◌
and_comm a b = bits.and_comm a b

and_all : (k a : ℕ) → a < 2 ^ k → a & (2 ^ k - 1) ≡ a
unfolding ◌&◌
and_all k a h = bits.and_mask a k ∙ mod-eq_of_lt h

-- What eight ones, four places apart, take of x from place i on; and sixteen of z.
abbrev pub part : ℕ → ℕ → ℕ
part x i = x & (ones 8 * 2 ^ i)

abbrev pub cut : ℕ → ℕ → ℕ
cut z t = z & (ones 16 * 2 ^ t)

four_parts : (x : ℕ) → x < 2 ^ 32 → part x 0 ⊕ part x 1 ⊕ part x 2 ⊕ part x 3 ≡ x
unfolding ones ◌⊕◌
four_parts x h = simp (and_comm x, ← mask_add x) (and_comm _ _ ∙ and_all 32 x h)

-- e digits further on.
wrap_holes : (e : ℕ) {k a c : ℕ} → ((m : ℕ) → Holes k m a c) → (m : ℕ) → Holes k m (a * 2 ^ (4 * e)) (c * 2 ^ (4 * e))
wrap_holes zero {k} {a} {c} h m = rw (mul-one a, mul-one c) (h m)
wrap_holes (suc e) {k} {a} {c} h zero = none (a * 2 ^ (4 * suc e)) (c * 2 ^ (4 * suc e))
wrap_holes (suc e) {k} {a} {c} h (suc m) = rw (next a, next c) (shift_holes (wrap_holes e h m))
  where
    next : (x : ℕ) → x * 2 ^ (4 * suc e) ≡ x * 2 ^ (4 * e) * 16
    next x = rw (mul-suc 4 e, pow-add 2 (4 * e) 4) (sym (mul_assoc x (2 ^ (4 * e)) 16))

part_below : (u : ℕ) → u & ones 8 < 2 ^ 29
unfolding ◌&◌ ones
part_below u = lt_of_le_of_lt (bits.and_le_r u (ones 8)) (lit< tt)

module _ (i j e t : ℕ) (place : i + j ≡ 4 * e + t) where
  -- i places and j are e digits and t places.
  places : (c : ℕ) → c * 2 ^ j * 2 ^ i ≡ c * 2 ^ (4 * e) * 2 ^ t
  places c = rw (mul_assoc c (2 ^ j) (2 ^ i), mul_assoc c (2 ^ (4 * e)) (2 ^ t), ← pow-add 2 j i, ← pow-add 2 (4 * e) t, add_comm j i, place)

  shifts : (a b : ℕ) → a * 2 ^ i * (b * 2 ^ j) ≡ a * b * 2 ^ (4 * e) * 2 ^ t
  shifts a b = simp (mul_assoc, mul_comm, mul_left_comm) (simp (mul_assoc, mul_comm) at (places (a * b)))

  product_of_parts : j < 4 → e < 2 → (x y : ℕ) → cut (part x i * part y j) t ≡ carryless 64 (part x i) (part y j)
  product_of_parts hj he x y =
      let a : ℕ = x / 2 ^ i & ones 8 in
      let b : ℕ = y / 2 ^ j & ones 8 in
      let c : ℕ = carryless (64 - j) a b in
      let holes : Holes 8 16 (a * b * 2 ^ (4 * e)) (c * 2 ^ (4 * e)) =
      wrap_holes e (λ m. product_holes a (λ n. ones_holes 8 n (x / 2 ^ i)) 8 (64 - j) m (y / 2 ^ j) (lit≤ tt) (omega arith)) 16 in
      let below : c < 2 ^ 58 =
      rw (carryless_more 29 (64 - j) a b (omega arith) (part_below (y / 2 ^ j))) (carryless_below 29 29 a b (part_below (x / 2 ^ i))) in
      let masked : a * b * 2 ^ (4 * e) & ones 16 ≡ c * 2 ^ (4 * e) =
      masked_holes holes (lt_of_lt_of_le (shl_lt 58 (4 * e) below) (pow_mono {j = 64} (omega arith))) in
      rw (
        mask_shift i (ones 8) x,
        mask_shift j (ones 8) y,
        mask_shift t (ones 16) (a * 2 ^ i * (b * 2 ^ j)),
        shifts a b,
        shl-shr (a * b * 2 ^ (4 * e)) t,
        masked,
        carryless_shift_left 64 i a (b * 2 ^ j),
        carryless_shift_right (64 - j) 64 j a b (omega arith),
      ) (sym (places c))

-- What f makes of the parts i and j, added up over those that meet at the places t: i + j is t modulo 4.
abbrev pub row : (ℕ → ℕ → ℕ) → ℕ → ℕ
row f t = f 0 ((4 + t) % 4) ⊕ f 1 ((3 + t) % 4) ⊕ f 2 ((2 + t) % 4) ⊕ f 3 ((1 + t) % 4)

-- The four rows are all sixteen terms.
four_rows : (f : ℕ → ℕ → ℕ) → ((b : ℕ) → Additive (λ a. f a b)) → ((a : ℕ) → Additive (f a)) → (p q : ℕ → ℕ)
    → (f (p 0) (q 0) ⊕ f (p 1) (q 3) ⊕ f (p 2) (q 2) ⊕ f (p 3) (q 1)) ⊕ (f (p 0) (q 1) ⊕ f (p 1) (q 0) ⊕ f (p 2) (q 3) ⊕ f (p 3) (q 2))
    ⊕ (f (p 0) (q 2) ⊕ f (p 1) (q 1) ⊕ f (p 2) (q 0) ⊕ f (p 3) (q 3)) ⊕ (f (p 0) (q 3) ⊕ f (p 1) (q 2) ⊕ f (p 2) (q 1) ⊕ f (p 3) (q 0))
    ≡ f (p 0 ⊕ p 1 ⊕ p 2 ⊕ p 3) (q 0 ⊕ q 1 ⊕ q 2 ⊕ q 3)
four_rows f left right p q = simp (left, right, xor_laws)

module _ (x y : ℕ) where
  term : (i j t : ℕ) → i < 4 → j < 4 → (i + j) % 4 ≡ t → cut (part x i * part y j) t ≡ carryless 64 (part x i) (part y j)
  term i j t hi hj h = product_of_parts i j ((i + j) / 4) t (omega arith) hj (omega arith) x y

  row_cut : (t : ℕ) → t < 4 → cut (row (λ i j. part x i * part y j) t) t ≡ row (λ i j. carryless 64 (part x i) (part y j)) t
  row_cut t h =
      simp (
        mask_add,
        term 0 ((4 + t) % 4) t (lit< tt) (omega arith) (omega arith),
        term 1 ((3 + t) % 4) t (lit< tt) (omega arith) (omega arith),
        term 2 ((2 + t) % 4) t (lit< tt) (omega arith) (omega arith),
        term 3 ((1 + t) % 4) t (lit< tt) (omega arith) (omega arith),
      )

  -- What the code makes of x and y.
  abbrev pub by_rows : ℕ
  by_rows = row_of 0 ⊕ row_of 1 ⊕ row_of 2 ⊕ row_of 3
    where
      row_of : ℕ → ℕ
      row_of t = cut (row (λ i j. part x i * part y j) t) t

  pub rows_product : x < 2 ^ 32 → y < 2 ^ 32 → by_rows ≡ carryless 32 x y
  rows_product hx hy =
      ap₂ ◌⊕◌ (ap₂ ◌⊕◌ (ap₂ ◌⊕◌ (row_cut 0 (lit< tt)) (row_cut 1 (lit< tt))) (row_cut 2 (lit< tt))) (row_cut 3 (lit< tt))
      ∙ four_rows (carryless 64) (carryless_add_left 64) (carryless_add_right 64) (part x) (part y)
      ∙ ap₂ (carryless 64) (four_parts x hx) (four_parts y hy) ∙ carryless_more 32 64 x y (lit≤ tt) hy
