-- Karatsuba's rule for the carry-less product of numbers of two halves of w digits: three products of halves. The code has w = 32 and 64.
-- Assumes nothing.
use mathlib.Core.Path.{◌≡◌, refl, sym, ap, ap₂, ◌∙◌}
use mathlib.Core.List.{List}
use Prim.Native.Nat.{ℕ, ◌+◌, ◌*◌, ◌/◌, ◌%◌, ◌^◌, ◌<◌}
use native.Mathlib.Nat.{mul_assoc, le-add_right, mod-lt}
use lib.Dec.{lit<}
use lib.ListN.{get_or}
use lib.Pow.{pow_pos, pow-add, split}
use Rattle.strings.specs.Xor.{◌⊕◌}
use Rattle.polynomials.specs.Inner.{carryless, halves_of, both_of, parts, karatsuba, wide_of}
use Rattle.strings.proofs.Xor.{xor_laws, xor_disjoint, xor_shr, xor_mod, xor_parts, xor_below}
use Rattle.polynomials.proofs.Carryless.{shift_add, carryless_add_left, carryless_add_right, carryless_shift_left, carryless_shift_right, carryless_more, carryless_below}
use Rattle.blocks.proofs.Halves.{shift_out, parts_added, parts_crossed}

module _ (w x₁ x₀ y₁ y₀ : ℕ) where
  abbrev lowest : ℕ
  lowest = carryless w x₀ y₀

  abbrev highest : ℕ
  highest = carryless w x₁ y₁

  abbrev crossed : ℕ
  crossed = carryless w x₀ y₁ ⊕ carryless w x₁ y₀

  -- of the product of the sums the two corrections leave the crossed products
  corrected : carryless w (x₀ ⊕ x₁) (y₀ ⊕ y₁) ⊕ carryless w x₀ y₀ ⊕ carryless w x₁ y₁ ≡ carryless w x₀ y₁ ⊕ carryless w x₁ y₀
  corrected = simp (carryless_add_left, carryless_add_right, xor_laws)

  module _ (hx : x₀ < 2 ^ w) (hy : y₀ < 2 ^ w) where
    by_half : (a : ℕ) → carryless (w + w) a (y₁ * 2 ^ w + y₀) ≡ carryless w a y₁ * 2 ^ w ⊕ carryless w a y₀
    by_half a =
        ap (carryless (w + w) a) (sym (xor_disjoint w y₁ y₀ hy)) ∙ carryless_add_right (w + w) a (y₁ * 2 ^ w) y₀
        ∙ ap₂ ◌⊕◌ (carryless_shift_right w (w + w) w a y₁ refl) (carryless_more w (w + w) a y₀ (le-add_right w w) hy)

    lowest_below : lowest < 2 ^ (w + w)
    lowest_below = carryless_below w w x₀ y₀ hx

    by_halves : carryless (w + w) (x₁ * 2 ^ w + x₀) (y₁ * 2 ^ w + y₀) ≡ (highest * 2 ^ (w + w) + lowest) ⊕ crossed * 2 ^ w
    by_halves =
        rw (by_half (x₁ * 2 ^ w + x₀), ← xor_disjoint w x₁ x₀ hx, ← xor_disjoint (w + w) highest lowest lowest_below, pow-add 2 w w)
        (simp (carryless_add_left, carryless_shift_left, shift_add w, mul_assoc, xor_laws))

    -- As the code has it: the crossed products stand across the two parts of the result.
    three_products : (low high both : ℕ) → low ≡ carryless w x₀ y₀ → high ≡ carryless w x₁ y₁ → both ≡ carryless w (x₀ ⊕ x₁) (y₀ ⊕ y₁)
        → karatsuba w low high both ≡ carryless (w + w) (x₁ * 2 ^ w + x₀) (y₁ * 2 ^ w + y₀)
    unfolding karatsuba
    three_products low high both el eh eb =
        rw (el, eh, eb, corrected, ← shift_out w w crossed) (parts_added (w + w) highest lowest (crossed * 2 ^ w) lowest_below)
        ∙ sym by_halves

-- As the code has it with halves of its own: the upper half of the middle goes into the lower half of the high part, and its lower half into
-- the upper half of the low part.
pub rule_by_halves : (w h₁ h₀ l₁ l₀ m₁ m₀ both : ℕ) → h₀ < 2 ^ w → l₀ < 2 ^ w → m₁ < 2 ^ w → m₀ < 2 ^ w
    → m₁ * 2 ^ w + m₀ ≡ both ⊕ (l₁ * 2 ^ w + l₀) ⊕ (h₁ * 2 ^ w + h₀)
    → (h₁ * 2 ^ w + (h₀ ⊕ m₁)) * 2 ^ (w + w) + ((l₁ ⊕ m₀) * 2 ^ w + l₀) ≡ karatsuba w (l₁ * 2 ^ w + l₀) (h₁ * 2 ^ w + h₀) both
unfolding karatsuba
rule_by_halves w h₁ h₀ l₁ l₀ m₁ m₀ both hh hl hm hn e =
    parts_crossed w h₁ h₀ l₁ l₀ m₁ m₀ hh hl hm hn
    ∙ ap (λ (x : ℕ). (h₁ * 2 ^ w + h₀ ⊕ x / 2 ^ w) * 2 ^ (w + w) + (l₁ * 2 ^ w + l₀ ⊕ x * 2 ^ w % 2 ^ (w + w))) e

-- The rule is additive.
karatsuba_add : (w : ℕ) {low low' : ℕ} (high both high' both' : ℕ) → low < 2 ^ (w + w) → low' < 2 ^ (w + w)
    → karatsuba w (low ⊕ low') (high ⊕ high') (both ⊕ both') ≡ karatsuba w low high both ⊕ karatsuba w low' high' both'
unfolding karatsuba
karatsuba_add w {low} {low'} high both high' both' hl hl' =
    let m : ℕ = both ⊕ low ⊕ high in
    let m' : ℕ = both' ⊕ low' ⊕ high' in
    let middle : both ⊕ both' ⊕ (low ⊕ low') ⊕ (high ⊕ high') ≡ m ⊕ m' = simp xor_laws in
    let cut : (a b : ℕ) → a < 2 ^ (w + w) → a ⊕ b * 2 ^ w % 2 ^ (w + w) < 2 ^ (w + w) = λ a b h. xor_below (w + w) h (mod-lt (b * 2 ^ w) (pow_pos (w + w))) in
    rw (
      middle,
      xor_shr w m m',
      shift_add w m m',
      xor_mod (w + w) (m * 2 ^ w) (m' * 2 ^ w),
      xor_parts (w + w) (high ⊕ m / 2 ^ w) (high' ⊕ m' / 2 ^ w) (low ⊕ m * 2 ^ w % 2 ^ (w + w)) (low' ⊕ m' * 2 ^ w % 2 ^ (w + w)) (cut low m hl) (cut low' m' hl'),
    )
    (ap₂ (λ (x y : ℕ). x * 2 ^ (w + w) + y) (simp xor_laws) (simp xor_laws))

-- Of numbers of 64 digits, from their words.
cut_below : (x y : ℕ) → carryless 32 (x % 2 ^ 32) (y % 2 ^ 32) < 2 ^ 64
cut_below x y = carryless_below 32 32 (x % 2 ^ 32) (y % 2 ^ 32) (mod-lt x (pow_pos 32))

from_words_lem : (x y low high both : ℕ) → low ≡ carryless 32 (x % 2 ^ 32) (y % 2 ^ 32) → high ≡ carryless 32 (x / 2 ^ 32) (y / 2 ^ 32)
    → both ≡ carryless 32 (x % 2 ^ 32 ⊕ x / 2 ^ 32) (y % 2 ^ 32 ⊕ y / 2 ^ 32) → karatsuba 32 low high both ≡ carryless 64 x y
from_words_lem x y low high both el eh eb =
    three_products 32 (x / 2 ^ 32) (x % 2 ^ 32) (y / 2 ^ 32) (y % 2 ^ 32) (mod-lt x (pow_pos 32)) (mod-lt y (pow_pos 32)) low high both el eh eb
    ∙ ap₂ (carryless 64) (split x 32) (split y 32)

-- ---- from the nine products of the parts

pub record Products (z : List ℕ) (ninth a₀ a₁ b₀ b₁ : ℕ) : Type 0 where
  pub eight : (i : ℕ) → i < 8 → get_or z i 0 ≡ carryless 32 (get_or (parts a₀ a₁) i 0) (get_or (parts b₀ b₁) i 0)
  pub last : ninth ≡ carryless 32 (get_or (parts a₀ a₁) 8 0) (get_or (parts b₀ b₁) 8 0)

module _ {z : List ℕ} {ninth a₀ a₁ b₀ b₁ : ℕ} (p : Products z ninth a₀ a₁ b₀ b₁) where
  of_low_halves : karatsuba 32 (get_or z 0 0) (get_or z 1 0) (get_or z 6 0) ≡ carryless 64 a₀ b₀
  unfolding parts halves_of both_of
  of_low_halves = from_words_lem a₀ b₀ (get_or z 0 0) (get_or z 1 0) (get_or z 6 0) (p.eight 0 (lit< tt)) (p.eight 1 (lit< tt)) (p.eight 6 (lit< tt))

  of_high_halves : karatsuba 32 (get_or z 2 0) (get_or z 3 0) (get_or z 7 0) ≡ carryless 64 a₁ b₁
  unfolding parts halves_of both_of
  of_high_halves = from_words_lem a₁ b₁ (get_or z 2 0) (get_or z 3 0) (get_or z 7 0) (p.eight 2 (lit< tt)) (p.eight 3 (lit< tt)) (p.eight 7 (lit< tt))

  of_sums : karatsuba 32 (get_or z 4 0) (get_or z 5 0) ninth ≡ carryless 64 (a₀ ⊕ a₁) (b₀ ⊕ b₁)
  unfolding parts halves_of both_of
  of_sums = from_words_lem (a₀ ⊕ a₁) (b₀ ⊕ b₁) (get_or z 4 0) (get_or z 5 0) ninth (p.eight 4 (lit< tt)) (p.eight 5 (lit< tt)) p.last

  pub of_blocks : a₀ < 2 ^ 64 → b₀ < 2 ^ 64 → wide_of z ninth ≡ carryless 128 (a₁ * 2 ^ 64 + a₀) (b₁ * 2 ^ 64 + b₀)
  unfolding wide_of
  of_blocks ha hb = three_products 64 a₁ a₀ b₁ b₀ ha hb _ _ _ of_low_halves of_high_halves of_sums

  -- what stands in the low place, each time
  low_below : get_or z 0 0 < 2 ^ 64
  unfolding parts halves_of
  low_below = rw (p.eight 0 (lit< tt)) (cut_below a₀ b₀)

  high_below : get_or z 2 0 < 2 ^ 64
  unfolding parts halves_of
  high_below = rw (p.eight 2 (lit< tt)) (cut_below a₁ b₁)

  sum_below : get_or z 4 0 < 2 ^ 64
  unfolding parts halves_of
  sum_below = rw (p.eight 4 (lit< tt)) (cut_below (a₀ ⊕ a₁) (b₀ ⊕ b₁))

  half_below : a₀ < 2 ^ 64 → karatsuba 32 (get_or z 0 0) (get_or z 1 0) (get_or z 6 0) < 2 ^ 128
  half_below ha = rw of_low_halves (carryless_below 64 64 a₀ b₀ ha)

-- The sums of the products of two pairs of blocks give the sum of the two products.
pub of_two : (z : List ℕ) {x y : List ℕ} {m n a₀ a₁ b₀ b₁ c₀ c₁ d₀ d₁ : ℕ} → Products x m a₀ a₁ b₀ b₁ → Products y n c₀ c₁ d₀ d₁
    → a₀ < 2 ^ 64 → b₀ < 2 ^ 64 → c₀ < 2 ^ 64 → d₀ < 2 ^ 64 → ((i : ℕ) → i < 8 → get_or z i 0 ≡ get_or x i 0 ⊕ get_or y i 0)
    → wide_of z (m ⊕ n) ≡ carryless 128 (a₁ * 2 ^ 64 + a₀) (b₁ * 2 ^ 64 + b₀) ⊕ carryless 128 (c₁ * 2 ^ 64 + c₀) (d₁ * 2 ^ 64 + d₀)
unfolding wide_of
of_two z {x} {y} {m} {n} p q ha hb hc hd e =
    rw (e 0 (lit< tt), e 1 (lit< tt), e 2 (lit< tt), e 3 (lit< tt), e 4 (lit< tt), e 5 (lit< tt), e 6 (lit< tt), e 7 (lit< tt))
    (rw (
      karatsuba_add 32 (get_or x 1 0) (get_or x 6 0) (get_or y 1 0) (get_or y 6 0) (low_below p) (low_below q),
      karatsuba_add 32 (get_or x 3 0) (get_or x 7 0) (get_or y 3 0) (get_or y 7 0) (high_below p) (high_below q),
      karatsuba_add 32 (get_or x 5 0) m (get_or y 5 0) n (sum_below p) (sum_below q),
    )
    (karatsuba_add 64 _ _ _ _ (half_below p ha) (half_below q hc) ∙ ap₂ ◌⊕◌ (of_blocks p ha hb) (of_blocks q hc hd)))
