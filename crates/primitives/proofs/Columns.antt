-- MixColumns of FIPS 197 and its inverse, by bytes: what stands in a row is made of the four bytes of the column from that row on.
-- Assumes nothing.
use Rattle.std.proofs.Common.{◌≡◌, ℕ, ◌/◌, ◌<◌, ◌∙◌, ap₂, arith, lit<}
use Rattle.strings.specs.Xor.{◌⊕◌}
use Rattle.blocks.specs.Field.{times01, times_x, product_n, product}
use Rattle.primitives.specs.Aes.{Byte, ◌•◌, mixed, inv_mixed}
use Rattle.strings.proofs.Xor.{xor_laws, xor_below, xor_zero, xor_zero_left}
use Rattle.blocks.proofs.Ring.{Additive, x_add, x_zero, ring_of_bytes}

-- ---- over any additive x: a column mixed twice is itself plus x ^ 2 times its sum with itself two rows on, and mixed four times itself

module _ (x : ℕ → ℕ) where
  abbrev mix : ℕ → ℕ → ℕ → ℕ → ℕ
  mix a b c d = x (a ⊕ b) ⊕ b ⊕ c ⊕ d

  abbrev unmix : ℕ → ℕ → ℕ → ℕ → ℕ
  unmix a b c d = x (a ⊕ x (a ⊕ x a)) ⊕ (b ⊕ x (b ⊕ x (x b))) ⊕ (c ⊕ x (x (c ⊕ x c))) ⊕ (d ⊕ x (x (x d)))

  abbrev twice : ℕ → ℕ → ℕ
  twice a c = a ⊕ x (x (a ⊕ c))

  module _ (add : Additive x) where
    mix_is : (a b c d : ℕ) → mix a b c d ≡ x a ⊕ (b ⊕ x b) ⊕ c ⊕ d
    mix_is a b c d = simp (add, xor_laws)

    mix_mix : (a b c d : ℕ) → mix (mix a b c d) (mix b c d a) (mix c d a b) (mix d a b c) ≡ twice a c
    mix_mix a b c d = simp (add, xor_laws)

    twice_twice : (a c : ℕ) → twice (twice a c) (twice c a) ≡ a
    twice_twice a c = simp (add, xor_laws)

    unmix_left : (a b c d : ℕ) → unmix a b c d ≡ twice (mix a b c d) (mix c d a b)
    unmix_left a b c d = simp (add, xor_laws)

    unmix_right : (a b c d : ℕ) → unmix a b c d ≡ mix (twice a c) (twice b d) (twice c a) (twice d b)
    unmix_right a b c d = simp (add, xor_laws)

    unmix_mix : (a b c d : ℕ) → unmix (mix a b c d) (mix b c d a) (mix c d a b) (mix d a b c) ≡ a
    unmix_mix a b c d =
        unmix_left (mix a b c d) (mix b c d a) (mix c d a b) (mix d a b c) ∙ ap₂ twice (mix_mix a b c d) (mix_mix c d a b) ∙ twice_twice a c

    mix_unmix : (a b c d : ℕ) → mix (unmix a b c d) (unmix b c d a) (unmix c d a b) (unmix d a b c) ≡ a
    mix_unmix a b c d =
        rw (unmix_right a b c d, unmix_right b c d a, unmix_right c d a b, unmix_right d a b c)
        (mix_mix (twice a c) (twice b d) (twice c a) (twice d b) ∙ twice_twice a c)

-- ---- the bytes of AES

open ring_of_bytes use {below, comm}

abbrev x : ℕ → ℕ
x = times_x 8 0x1b

-- the constants have four digits
times : (k a : ℕ) → k < 16 → Byte a → k • a ≡ product_n 8 0x1b 4 a k
unfolding product product_n times01
times k a hk ha =
    let e : k / 2 / 2 / 2 / 2 ≡ 0 = omega arith in
    comm k a (omega arith) ha ∙ rw e (simp (xor_zero_left, x_zero))

mixed_by_x : (a b c d : ℕ) → Byte a → Byte b → mixed a b c d ≡ times_x 8 0x1b (a ⊕ b) ⊕ b ⊕ c ⊕ d
unfolding mixed product_n times01
mixed_by_x a b c d ha hb =
    rw (times 0x02 a (lit< tt) ha, times 0x03 b (lit< tt) hb, mix_is x (x_add 8 0x1b) a b c d) (simp (xor_zero_left, xor_zero, x_zero))

inv_mixed_by_x : (a b c d : ℕ) → Byte a → Byte b → Byte c → Byte d → inv_mixed a b c d ≡ unmix x a b c d
unfolding inv_mixed product_n times01
inv_mixed_by_x a b c d ha hb hc hd =
    rw (times 0x0e a (lit< tt) ha, times 0x0b b (lit< tt) hb, times 0x0d c (lit< tt) hc, times 0x09 d (lit< tt) hd)
    (simp (xor_zero_left, xor_zero, x_zero))

sum_below : {a b c d : ℕ} → Byte a → Byte b → Byte c → Byte d → Byte (a ⊕ b ⊕ c ⊕ d)
sum_below ha hb hc hd = xor_below 8 (xor_below 8 (xor_below 8 ha hb) hc) hd

pub mixed_below : (a b c d : ℕ) → Byte c → Byte d → Byte (mixed a b c d)
unfolding mixed
mixed_below a b c d = sum_below (below 0x02 a (lit< tt)) (below 0x03 b (lit< tt))

pub inv_mixed_below : (a b c d : ℕ) → Byte (inv_mixed a b c d)
unfolding inv_mixed
inv_mixed_below a b c d = sum_below (below 0x0e a (lit< tt)) (below 0x0b b (lit< tt)) (below 0x0d c (lit< tt)) (below 0x09 d (lit< tt))

module _ (a b c d : ℕ) (ha : Byte a) (hb : Byte b) (hc : Byte c) (hd : Byte d) where
  pub mixed_undone : inv_mixed (mixed a b c d) (mixed b c d a) (mixed c d a b) (mixed d a b c) ≡ a
  mixed_undone = rw (inv_mixed_by_x, mixed_below) (simp mixed_by_x (unmix_mix x (x_add 8 0x1b) a b c d))

  pub inv_mixed_undone : mixed (inv_mixed a b c d) (inv_mixed b c d a) (inv_mixed c d a b) (inv_mixed d a b c) ≡ a
  inv_mixed_undone = rw (mixed_by_x, inv_mixed_below) (simp inv_mixed_by_x (mix_unmix x (x_add 8 0x1b) a b c d))
