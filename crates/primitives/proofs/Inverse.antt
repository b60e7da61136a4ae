-- The inverse of a byte by its power 254 is the byte whose product with it is 1.
-- Assumes nothing.
use Rattle.std.proofs.Common.{◌≡◌, ℕ, zero, suc, ◌/◌, ◌%◌, ◌^◌, ◌<◌, List, [], ◌∷◌, get_or, refl, ◌∙◌, le_of_suc-le-suc, not-suc-le-zero, mod-lt, mod-eq_of_lt, zero-lt-suc, lit<}
use Rattle.strings.specs.Xor.{◌⊕◌}
use Rattle.blocks.specs.Field.{times01, times_x, product_n, product}
use Rattle.primitives.specs.Aes.{Byte, ◌•◌, squares, inverse}
use Rattle.strings.proofs.Xor.{xor_laws, xor_mod}
use Rattle.blocks.proofs.Ring.{basis, ring_of_bytes}
use Rattle.strings.proofs.Table.{table, same}
open ring_of_bytes use {below, add_left, add_right, zero_left, one_left, one_right, comm, assoc}

-- ---- a ^ 256 is a: squaring is additive, and eight squarings leave each power of two as it is

square_add : (a b : ℕ) → Byte a → Byte b → (a ⊕ b) • (a ⊕ b) ≡ a • a ⊕ b • b
square_add a b ha hb = simp (add_left, add_right, comm b a hb ha, xor_laws)

-- a after n squarings
raised : ℕ → ℕ → ℕ
raised zero a = a
raised (suc n) a = raised n (a • a)

raised_add : (n a b : ℕ) → Byte a → Byte b → raised n (a ⊕ b) ≡ raised n a ⊕ raised n b
unfolding raised
raised_add zero a b ha hb = refl
raised_add (suc n) a b ha hb = rw (square_add a b ha hb) (raised_add n (a • a) (b • b) (below a a ha) (below b b hb))

raised_powers : table (λ i. raised 8 (2 ^ i % 256)) 8 0 ≡ table (λ i. 2 ^ i) 8 0
unfolding raised product product_n times_x times01 ◌⊕◌
raised_powers = refl

byte : (a : ℕ) → Byte (a % 256)
byte a = mod-lt a (lit< tt)

raised_eight : (a : ℕ) → Byte a → raised 8 a ≡ a
raised_eight a h =
    rw (mod-eq_of_lt h) at
    (basis 8 (λ b. raised 8 (b % 256)) (λ b. b) (λ b c. rw (xor_mod 8 b c) (raised_add 8 (b % 256) (c % 256) (byte b) (byte c)))
    (λ b c. refl) (same (λ i. raised 8 (2 ^ i % 256)) (λ i. 2 ^ i) 8 raised_powers) a h)

-- ---- a ^ 254 times a ^ 2 is a, so whatever a takes to 1 is a ^ 254

squares_below : (n a : ℕ) → Byte a → Byte (squares n a)
unfolding squares
squares_below zero a h = lit< tt
squares_below (suc n) a h = below (a • a) (squares n (a • a)) (below a a h)

squares_top : (n a : ℕ) → Byte a → squares n a • (a • a) ≡ raised (suc n) a
unfolding squares raised
squares_top zero a h = one_left (a • a) (below a a h)
squares_top (suc n) a h =
    let q : ℕ = a • a in
    let hq : Byte q = below a a h in
    let hs : Byte (squares n q) = squares_below n q hq in
    rw (comm q (squares n q) hq hs) (assoc (squares n q) q q hs hq hq ∙ squares_top n q hq)

pub inverse_below : (a : ℕ) → Byte a → Byte (inverse a)
unfolding inverse
inverse_below = squares_below 7

pub inverse_of : (a b : ℕ) → Byte a → Byte b → a • b ≡ 1 → inverse a ≡ b
unfolding inverse
inverse_of a b ha hb e =
    let x : ℕ = inverse a in
    let hx : Byte x = inverse_below a ha in
    let back : (y : ℕ) → Byte y → y • a • b ≡ y = λ y hy. assoc y a b hy ha hb ∙ rw e (one_right y hy) in
    let top : x • (a • a) ≡ a = squares_top 7 a ha ∙ raised_eight a ha in
    cc (back x hx, back (x • a) (below x a hx), assoc x a a hx ha ha, one_left b hb)

-- ---- the inverses

-- By rows of 16.
unfoldable pub inverses : List (List ℕ)
inverses =
    (0x00 ∷ 0x01 ∷ 0x8d ∷ 0xf6 ∷ 0xcb ∷ 0x52 ∷ 0x7b ∷ 0xd1 ∷ 0xe8 ∷ 0x4f ∷ 0x29 ∷ 0xc0 ∷ 0xb0 ∷ 0xe1 ∷ 0xe5 ∷ 0xc7 ∷ []) ∷
    (0x74 ∷ 0xb4 ∷ 0xaa ∷ 0x4b ∷ 0x99 ∷ 0x2b ∷ 0x60 ∷ 0x5f ∷ 0x58 ∷ 0x3f ∷ 0xfd ∷ 0xcc ∷ 0xff ∷ 0x40 ∷ 0xee ∷ 0xb2 ∷ []) ∷
    (0x3a ∷ 0x6e ∷ 0x5a ∷ 0xf1 ∷ 0x55 ∷ 0x4d ∷ 0xa8 ∷ 0xc9 ∷ 0xc1 ∷ 0x0a ∷ 0x98 ∷ 0x15 ∷ 0x30 ∷ 0x44 ∷ 0xa2 ∷ 0xc2 ∷ []) ∷
    (0x2c ∷ 0x45 ∷ 0x92 ∷ 0x6c ∷ 0xf3 ∷ 0x39 ∷ 0x66 ∷ 0x42 ∷ 0xf2 ∷ 0x35 ∷ 0x20 ∷ 0x6f ∷ 0x77 ∷ 0xbb ∷ 0x59 ∷ 0x19 ∷ []) ∷
    (0x1d ∷ 0xfe ∷ 0x37 ∷ 0x67 ∷ 0x2d ∷ 0x31 ∷ 0xf5 ∷ 0x69 ∷ 0xa7 ∷ 0x64 ∷ 0xab ∷ 0x13 ∷ 0x54 ∷ 0x25 ∷ 0xe9 ∷ 0x09 ∷ []) ∷
    (0xed ∷ 0x5c ∷ 0x05 ∷ 0xca ∷ 0x4c ∷ 0x24 ∷ 0x87 ∷ 0xbf ∷ 0x18 ∷ 0x3e ∷ 0x22 ∷ 0xf0 ∷ 0x51 ∷ 0xec ∷ 0x61 ∷ 0x17 ∷ []) ∷
    (0x16 ∷ 0x5e ∷ 0xaf ∷ 0xd3 ∷ 0x49 ∷ 0xa6 ∷ 0x36 ∷ 0x43 ∷ 0xf4 ∷ 0x47 ∷ 0x91 ∷ 0xdf ∷ 0x33 ∷ 0x93 ∷ 0x21 ∷ 0x3b ∷ []) ∷
    (0x79 ∷ 0xb7 ∷ 0x97 ∷ 0x85 ∷ 0x10 ∷ 0xb5 ∷ 0xba ∷ 0x3c ∷ 0xb6 ∷ 0x70 ∷ 0xd0 ∷ 0x06 ∷ 0xa1 ∷ 0xfa ∷ 0x81 ∷ 0x82 ∷ []) ∷
    (0x83 ∷ 0x7e ∷ 0x7f ∷ 0x80 ∷ 0x96 ∷ 0x73 ∷ 0xbe ∷ 0x56 ∷ 0x9b ∷ 0x9e ∷ 0x95 ∷ 0xd9 ∷ 0xf7 ∷ 0x02 ∷ 0xb9 ∷ 0xa4 ∷ []) ∷
    (0xde ∷ 0x6a ∷ 0x32 ∷ 0x6d ∷ 0xd8 ∷ 0x8a ∷ 0x84 ∷ 0x72 ∷ 0x2a ∷ 0x14 ∷ 0x9f ∷ 0x88 ∷ 0xf9 ∷ 0xdc ∷ 0x89 ∷ 0x9a ∷ []) ∷
    (0xfb ∷ 0x7c ∷ 0x2e ∷ 0xc3 ∷ 0x8f ∷ 0xb8 ∷ 0x65 ∷ 0x48 ∷ 0x26 ∷ 0xc8 ∷ 0x12 ∷ 0x4a ∷ 0xce ∷ 0xe7 ∷ 0xd2 ∷ 0x62 ∷ []) ∷
    (0x0c ∷ 0xe0 ∷ 0x1f ∷ 0xef ∷ 0x11 ∷ 0x75 ∷ 0x78 ∷ 0x71 ∷ 0xa5 ∷ 0x8e ∷ 0x76 ∷ 0x3d ∷ 0xbd ∷ 0xbc ∷ 0x86 ∷ 0x57 ∷ []) ∷
    (0x0b ∷ 0x28 ∷ 0x2f ∷ 0xa3 ∷ 0xda ∷ 0xd4 ∷ 0xe4 ∷ 0x0f ∷ 0xa9 ∷ 0x27 ∷ 0x53 ∷ 0x04 ∷ 0x1b ∷ 0xfc ∷ 0xac ∷ 0xe6 ∷ []) ∷
    (0x7a ∷ 0x07 ∷ 0xae ∷ 0x63 ∷ 0xc5 ∷ 0xdb ∷ 0xe2 ∷ 0xea ∷ 0x94 ∷ 0x8b ∷ 0xc4 ∷ 0xd5 ∷ 0x9d ∷ 0xf8 ∷ 0x90 ∷ 0x6b ∷ []) ∷
    (0xb1 ∷ 0x0d ∷ 0xd6 ∷ 0xeb ∷ 0xc6 ∷ 0x0e ∷ 0xcf ∷ 0xad ∷ 0x08 ∷ 0x4e ∷ 0xd7 ∷ 0xe3 ∷ 0x5d ∷ 0x50 ∷ 0x1e ∷ 0xb3 ∷ []) ∷
    (0x5b ∷ 0x23 ∷ 0x38 ∷ 0x34 ∷ 0x68 ∷ 0x46 ∷ 0x03 ∷ 0x8c ∷ 0xdd ∷ 0x9c ∷ 0x7d ∷ 0xa0 ∷ 0xcd ∷ 0x1a ∷ 0x41 ∷ 0x1c ∷ []) ∷ []

-- The inverse of a byte in the table.
abbrev pub looked_up : ℕ → ℕ
unfolding inverses
looked_up a = get_or (get_or inverses (a / 16) []) (a % 16) 0 % 256

products : table (λ i. suc i • looked_up (suc i)) 255 0 ≡ table (λ i. 1) 255 0
unfolding inverses product product_n times_x times01 ◌⊕◌
products = refl

product_one : (i : ℕ) → Byte (suc i) → suc i • looked_up (suc i) ≡ 1
product_one i h = same (λ i. suc i • looked_up (suc i)) (λ i. 1) 255 products i (le_of_suc-le-suc h)

pub inverse_zero : inverse 0 ≡ 0
unfolding inverse squares
inverse_zero = rw (zero_left 0) (zero_left (squares 6 0))

pub inverse_is : (a : ℕ) → Byte a → inverse a ≡ looked_up a
unfolding inverses
inverse_is zero h = inverse_zero
inverse_is (suc i) h = inverse_of (suc i) (looked_up (suc i)) h (byte _) (product_one i h)

pub inverse-product : (a : ℕ) → 0 < a → Byte a → a • inverse a ≡ 1
inverse-product zero p h = absurd (not-suc-le-zero p)
inverse-product (suc i) p h = rw (inverse_is (suc i) h) (product_one i h)

pub inverse-inverse : (a : ℕ) → Byte a → inverse (inverse a) ≡ a
inverse-inverse zero h = rw inverse_zero inverse_zero
inverse-inverse (suc i) h =
    let hx : Byte (inverse (suc i)) = inverse_below (suc i) h in
    inverse_of (inverse (suc i)) (suc i) hx h (comm (inverse (suc i)) (suc i) hx h ∙ inverse-product (suc i) (zero-lt-suc i) h)
