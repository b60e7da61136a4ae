-- A block by its four words, and the words as they stand in a string.
-- Assumes nothing.
use Prim.Native.Nat.{ℕ, suc, ◌+◌, ◌*◌, ◌/◌, ◌%◌, ◌^◌, ◌<◌}
use mathlib.Core.Path.{◌≡◌, refl, sym, ap, ◌∙◌}
use mathlib.Core.List.{List, [], ◌∷◌, ◌++◌}
use native.Mathlib.Nat.{add-zero, add-suc, suc-add, add_assoc, mod-eq_of_lt, div-add-mod'}
use native.Mathlib.Numerals.{add-one}
use native.Mathlib.Omega.{arith}
use lib.Arith.{digits_lt}
use lib.ListN.{length, get_or, drop, set, length-append}
use lib.Seq.{get_or-drop, drop-drop, take_all}
use Rattle.std.specs.Int.{w32, to_be_bytes, from_be_bytes}
use Rattle.strings.specs.Bytes.{Below, Bytes, OfLength, number, bytes}
use Rattle.strings.specs.Inner.{padded, overwrite}
use Rattle.strings.proofs.Bytes.{below_drop, length-bytes, number-bytes, bytes-number, length-padded, padded_below, padded_add, padded-take, be_bytes, be_number}
use Rattle.strings.proofs.Table.{table}
use Rattle.strings.proofs.Place.{bytes_join, overwrite_nil, overwrite_cons}
use Rattle.blocks.specs.Inner.{of_words}

-- Two words side by side.
abbrev pair : ℕ → ℕ → ℕ
pair a b = a * 2 ^ 32 + b

pair_fits : {a b : ℕ} → a < 2 ^ 32 → b < 2 ^ 32 → pair a b < 2 ^ 64
pair_fits ha hb = omega arith

-- They are the bytes of the block.
block_of_words : (w : List ℕ) → get_or w 1 0 < 2 ^ 32 → get_or w 2 0 < 2 ^ 32 → get_or w 3 0 < 2 ^ 32
    → bytes 16 (pair (get_or w 0 0) (get_or w 1 0) * 2 ^ 64 + pair (get_or w 2 0) (get_or w 3 0)) ≡ of_words w
unfolding of_words
block_of_words w hb hc hd =
    rw (
      bytes_join 8 8 (pair (get_or w 0 0) (get_or w 1 0)) (pair_fits hc hd),
      bytes_join 4 4 (get_or w 0 0) hb,
      bytes_join 4 4 (get_or w 2 0) hd,
    )

-- The words of a block, and the block of words.
pub words_of : (hi lo : ℕ) → lo < 2 ^ 64 → of_words (hi / 2 ^ 32 ∷ hi % 2 ^ 32 ∷ lo / 2 ^ 32 ∷ lo % 2 ^ 32 ∷ []) ≡ bytes 16 (hi * 2 ^ 64 + lo)
words_of hi lo h =
    sym (block_of_words (hi / 2 ^ 32 ∷ hi % 2 ^ 32 ∷ lo / 2 ^ 32 ∷ lo % 2 ^ 32 ∷ []) (omega arith) (omega arith) (omega arith))
    ∙ rw (div-add-mod' hi (2 ^ 32), div-add-mod' lo (2 ^ 32))

pub words_number : (w : List ℕ) → Below (2 ^ 32) w
    → pair (get_or w 0 0) (get_or w 1 0) * 2 ^ 64 + pair (get_or w 2 0) (get_or w 3 0) ≡ number (of_words w)
words_number w h =
    rw (← block_of_words w (h 1) (h 2) (h 3), number-bytes)
    (sym (mod-eq_of_lt (digits_lt (pair_fits (h 0) (h 1)) (pair_fits (h 2) (h 3)))))

-- Words that are read: four bytes each, and four of them.
pub four_bytes : (at : ℕ) (s : List ℕ) → get_or s at 0 ∷ get_or s (at + 1) 0 ∷ get_or s (at + 2) 0 ∷ get_or s (at + 3) 0 ∷ [] ≡ padded 4 (drop at s)
unfolding padded
four_bytes at s = simp (get_or-drop, drop-drop, add-zero, add_assoc)

pub word_there : (at : ℕ) (s : List ℕ)
    → from_be_bytes w32 (get_or s at 0 ∷ get_or s (at + 1) 0 ∷ get_or s (at + 2) 0 ∷ get_or s (at + 3) 0 ∷ []) ≡ number (padded 4 (drop at s))
word_there at s = be_number (get_or s at 0 ∷ get_or s (at + 1) 0 ∷ get_or s (at + 2) 0 ∷ get_or s (at + 3) 0 ∷ []) ∙ ap number (four_bytes at s)

word_read : (at : ℕ) (s : List ℕ) → Bytes s → bytes 4 (number (padded 4 (drop at s))) ≡ padded 4 (drop at s)
word_read at s h = rw length-padded at (bytes-number (padded 4 (drop at s)) (padded_below 4 (drop at s) (below_drop at s h)))

pub words_read : (at : ℕ) (s : List ℕ) → Bytes s
    → of_words (number (padded 4 (drop at s)) ∷ number (padded 4 (drop (at + 4) s)) ∷ number (padded 4 (drop (at + 8) s)) ∷ number (padded 4 (drop (at + 12) s)) ∷ [])
    ≡ padded 16 (drop at s)
unfolding of_words
words_read at s h =
    rw (word_read at s h, word_read (at + 4) s h, word_read (at + 8) s h, word_read (at + 12) s h, padded_add 8 8 (drop at s))
    (simp (padded_add 4 4, drop-drop, add_assoc))

-- Words that are written: four bytes each, the last first, and four of them.
word_set : (at w : ℕ) (s : List ℕ)
    → set (set (set (set s (at + 3) (get_or (bytes 4 w) 3 0)) (at + 2) (get_or (bytes 4 w) 2 0)) (at + 1) (get_or (bytes 4 w) 1 0)) at (get_or (bytes 4 w) 0 0) ≡ overwrite at (bytes 4 w) s
unfolding bytes
word_set at w s = simp (overwrite_cons, overwrite_nil, ← add-one, add_assoc)

pub word_written : (at w : ℕ) (s b : List ℕ) → b ≡ to_be_bytes w32 w
    → set (set (set (set s (at + 3) (get_or b 3 0)) (at + 2) (get_or b 2 0)) (at + 1) (get_or b 1 0)) at (get_or b 0 0) ≡ overwrite at (bytes 4 w) s
word_written at w s b e = rw (e ∙ be_bytes w) (word_set at w s)

overwrite_back : (i : ℕ) (t u s : List ℕ) → overwrite i (t ++ u) s ≡ overwrite i t (overwrite (i + length t) u s)
overwrite_back i [] u s = rw (add-zero, overwrite_nil i (overwrite i u s))
overwrite_back i (b ∷ t) u s =
    rw (
      overwrite_cons i b (t ++ u) s,
      overwrite_back (suc i) t u s,
      overwrite_cons i b t (overwrite (i + suc (length t)) u s),
      add-suc,
      suc-add,
    )

pub words_written : (at : ℕ) (w s : List ℕ)
    → overwrite at (bytes 4 (get_or w 0 0)) (overwrite (at + 4) (bytes 4 (get_or w 1 0)) (overwrite (at + 8) (bytes 4 (get_or w 2 0)) (overwrite (at + 12) (bytes 4 (get_or w 3 0)) s)))
    ≡ overwrite at (of_words w) s
unfolding of_words
words_written at w s = simp (overwrite_back, length-append, length-bytes, add_assoc)

-- Words as arrays of bytes.
pub bytes_of_words : (w : List ℕ) → table (λ i. get_or (bytes 4 (get_or w (i / 4) 0)) (i % 4) 0) 16 0 ≡ of_words w
unfolding of_words bytes
bytes_of_words w = refl

pub words_of_bytes : (s : List ℕ) → OfLength 16 s
    → of_words (table (λ c. number (get_or s (4 * c) 0 ∷ get_or s (4 * c + 1) 0 ∷ get_or s (4 * c + 2) 0 ∷ get_or s (4 * c + 3) 0 ∷ [])) 4 0) ≡ s
words_of_bytes s h =
    rw (four_bytes 0 s, four_bytes 4 s, four_bytes 8 s, four_bytes 12 s) (words_read 0 s h.1) ∙ padded-take 16 s (omega (arith, h.0)) ∙ take_all 16 s (omega (arith, h.0))
