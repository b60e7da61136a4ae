-- AES's S-box and its inverse are permutations of the bytes that undo each other, and the tables of both.
-- Assumes nothing.
use Rattle.std.proofs.Common.{◌≡◌, ℕ, zero, suc, ◌+◌, ◌*◌, ◌/◌, ◌%◌, ◌^◌, ◌<◌, List, [], ◌∷◌, get_or, sym, refl, ap, ◌∙◌, ap₂, mod-lt, zero-lt-suc, div-add-mod', arith, lit<, pow_pos}
use native.Mathlib.Nat.{zero-div, pow-succ'}
use lib.Arith.{digits_lt}
use Rattle.strings.specs.Xor.{◌⊕◌}
use Rattle.strings.specs.Bytes.{number}
use Rattle.strings.specs.Cipher.{Permutation}
use Rattle.primitives.specs.Aes.{Byte, ◌•◌, bit, of_bits, affine, inv_affine, inverse, s_box, inv_s_box}
use Rattle.primitives.specs.Inner.{Table, MixingTable}
use Rattle.strings.proofs.Xor.{xor_laws, xor_assoc, xor_shr, xor_mod, xor_parts, xor_below, xor_disjoint}
use Rattle.blocks.proofs.Ring.{basis, ring_of_bytes}
use Rattle.primitives.proofs.Words.{word_bytes}
use Rattle.strings.proofs.Table.{table, entry, same}
use Rattle.primitives.proofs.Inverse.{looked_up, inverse_is, inverse_below, inverse-inverse}
open ring_of_bytes use {below}

infixl 65 ◌⊞◌
-- ---- maps to k digits that are additive up to what they give at 0

record Map (k : ℕ) (f : ℕ → ℕ) : Type 0 where
  below : (b : ℕ) → f b < 2 ^ k
  add : (a b : ℕ) → f (a ⊕ b) ≡ f a ⊕ f b ⊕ f 0

digit : (i : ℕ) → Map 1 (λ b. bit b i)
unfolding bit
digit i = record {
  below = λ b. mod-lt (b / 2 ^ (i % 8)) (zero-lt-suc 1);
  add = λ a b. rw (zero-div (2 ^ (i % 8)), xor_shr (i % 8) a b, xor_mod 1 (a / 2 ^ (i % 8)) (b / 2 ^ (i % 8))) (simp xor_laws);
}

constant : (c i : ℕ) → Map 1 (λ b. bit c i)
constant c i = record { below = λ b. (digit i).below c; add = λ a b. simp xor_laws }

◌⊞◌ : {k : ℕ} {f g : ℕ → ℕ} → Map k f → Map k g → Map k (λ b. f b ⊕ g b)
◌⊞◌ {k} F G = record { below = λ b. xor_below k (F.below b) (G.below b); add = λ a b. rw (F.add a b, G.add a b) (simp xor_laws) }

whole : (d : ℕ → ℕ → ℕ) → ((i : ℕ) → Map 1 (λ b. d b i)) → (n : ℕ) → Map n (λ b. of_bits n (d b))
unfolding of_bits
whole d D zero = record { below = λ b. pow_pos 0; add = λ a b. simp xor_laws }
whole d D (suc n) =
    let rest : Map n (λ b. of_bits n (d b)) = whole d D n in
    record {
      below = λ b. rw pow-succ' (digits_lt ((D n).below b) (rest.below b));
      add = λ a b. rw ((D n).add a b, rest.add a b) (simp (xor_parts n, rest.below, xor_below n));
    }

affine_map : Map 8 affine
unfolding affine
affine_map = whole _ (λ i. digit i ⊞ digit (i + 4) ⊞ digit (i + 5) ⊞ digit (i + 6) ⊞ digit (i + 7) ⊞ constant 0x63 i) 8

inv_affine_map : Map 8 inv_affine
unfolding inv_affine
inv_affine_map = whole _ (λ i. digit (i + 2) ⊞ digit (i + 5) ⊞ digit (i + 7) ⊞ constant 0x05 i) 8

-- Two of them undo each other if they do at 0 and at the powers of two.
undo : {f g : ℕ → ℕ} → Map 8 f → Map 8 g → f (g 0) ≡ 0 → table (λ i. f (g (2 ^ i))) 8 0 ≡ table (λ i. 2 ^ i) 8 0
    → (b : ℕ) → Byte b → f (g b) ≡ b
undo {f} {g} F G z e =
    basis 8 (λ b. f (g b)) (λ b. b)
    (λ a b. rw (G.add a b, F.add (g a ⊕ g b) (g 0), F.add (g a) (g b), z) (simp xor_laws)) (λ a b. refl)
    (same (λ i. f (g (2 ^ i))) (λ i. 2 ^ i) 8 e)

affine-inv_affine : (b : ℕ) → Byte b → affine (inv_affine b) ≡ b
unfolding affine inv_affine of_bits bit ◌⊕◌
affine-inv_affine = undo affine_map inv_affine_map refl refl

inv_affine-affine : (b : ℕ) → Byte b → inv_affine (affine b) ≡ b
unfolding affine inv_affine of_bits bit ◌⊕◌
inv_affine-affine = undo inv_affine_map affine_map refl refl

affine_below : (b : ℕ) → Byte (affine b)
affine_below = affine_map.below

inv_affine_below : (b : ℕ) → Byte (inv_affine b)
inv_affine_below = inv_affine_map.below

pub sbox_permutation : Permutation Byte s_box inv_s_box
unfolding s_box inv_s_box
sbox_permutation = record {
  keeps = λ b h. affine_below (inverse b);
  inverse_keeps = λ b h. inverse_below (inv_affine b) (inv_affine_below b);
  undone = λ b h. rw (inv_affine-affine (inverse b) (inverse_below b h)) (inverse-inverse b h);
  undoes = λ b h. rw (inverse-inverse (inv_affine b) (inv_affine_below b)) (affine-inv_affine b h);
}

-- ---- tables: such a map at a byte is a sum of what it gives at the byte's two hexadecimal digits, which is computed once for each digit

abbrev high : (ℕ → ℕ) → List ℕ
high f = table (λ d. f (d * 16)) 16 0

abbrev low : (ℕ → ℕ) → List ℕ
low f = table (λ d. f d ⊕ f 0) 16 0

abbrev joined : List ℕ → List ℕ → ℕ → ℕ
joined his los b = get_or his (b / 16) 0 ⊕ get_or los (b % 16) 0

-- g (f (e i)) at each byte i
unfoldable pub values : (g f e : ℕ → ℕ) → List ℕ
values g f e = let his : List ℕ = high f in let los : List ℕ = low f in table (λ i. g (joined his los (e i))) 256 0

value : (g : ℕ → ℕ) {f : ℕ → ℕ} (e : ℕ → ℕ) → Map 8 f → {t : List ℕ} → t ≡ values g f e
    → (i : ℕ) → Byte i → Byte (e i) → get_or t i 0 ≡ g (f (e i))
unfolding values
value g {f} e F s i l k =
    let b : ℕ = e i in
    let parts : b / 16 * 16 ⊕ b % 16 ≡ b = xor_disjoint 4 (b / 16) (b % 16) (mod-lt b (zero-lt-suc 15)) ∙ div-add-mod' b 16 in
    entry (λ i. g (joined (high f) (low f) (e i))) 256 s i l
    ∙ ap g
    (ap₂ ◌⊕◌ (entry (λ d. f (d * 16)) 16 refl (b / 16) (omega arith)) (entry (λ d. f d ⊕ f 0) 16 refl (b % 16) (omega arith))
    ∙ sym (xor_assoc (f (b / 16 * 16)) (f (b % 16)) (f 0)) ∙ sym (F.add (b / 16 * 16) (b % 16)) ∙ ap f parts)

-- what g makes of the S-box's entries
of_sbox : (g : ℕ → ℕ) {t : List ℕ} → t ≡ values g affine looked_up → (b : ℕ) → Byte b → get_or t b 0 ≡ g (s_box b)
unfolding s_box
of_sbox g s b h = value g looked_up affine_map s b h (rw (inverse_is b h) at (inverse_below b h)) ∙ ap (λ (i : ℕ). g (affine i)) (sym (inverse_is b h))

pub sbox_table : {t : List ℕ} → t ≡ values (λ b. b) affine looked_up → Table s_box t
sbox_table s = record { entry = of_sbox (λ b. b) s }

pub inv_sbox_table : {t : List ℕ} → t ≡ values looked_up inv_affine (λ b. b) → Table inv_s_box t
unfolding inv_s_box
inv_sbox_table s = record {
  entry = λ b h. value looked_up (λ c. c) inv_affine_map s b h h ∙ sym (inverse_is (inv_affine b) (inv_affine_below b));
}

-- ---- the tables of the two mixings

sbox_byte : (b : ℕ) → Byte (s_box b)
unfolding s_box
sbox_byte b = affine_below (inverse b)

-- the column that a byte s of row 0 adds, if it is the S-box's
unfoldable pub mixed-word : ℕ → ℕ
mixed-word s = number (0x02 • s ∷ s ∷ s ∷ 0x03 • s ∷ [])

pub mixed_sbox_table : {t : List ℕ} → t ≡ values mixed-word affine looked_up → MixingTable (λ b. 0x02 • s_box b) (λ b. 0x03 • s_box b) s_box s_box t
unfolding mixed-word
mixed_sbox_table s = record {
  entry = λ b h.
      let k : Byte (s_box b) = sbox_byte b in
      rw (of_sbox mixed-word s b h) (word_bytes (0x02 • s_box b) (s_box b) (s_box b) (0x03 • s_box b) (below 0x02 (s_box b) (lit< tt)) k k (below 0x03 (s_box b) (lit< tt)));
}

-- the column that a byte of row 0 adds in the inverse mixing
unfoldable pub inv_mixed_word : ℕ → ℕ
inv_mixed_word b = number (0x0e • b ∷ 0x09 • b ∷ 0x0d • b ∷ 0x0b • b ∷ [])

pub inv_mixing_table : {t : List ℕ} → t ≡ table inv_mixed_word 256 0 → MixingTable (λ b. 0x0e • b) (λ b. 0x0b • b) (λ b. 0x0d • b) (λ b. 0x09 • b) t
unfolding inv_mixed_word
inv_mixing_table s = record {
  entry = λ b h.
      rw (entry inv_mixed_word 256 s b h)
      (word_bytes (0x0e • b) (0x09 • b) (0x0d • b) (0x0b • b) (below 0x0e b (lit< tt)) (below 0x09 b (lit< tt)) (below 0x0d b (lit< tt)) (below 0x0b b (lit< tt)));
}
