-- Laws of blocks: a string is cut by 16, and a block that is read is its two halves.
-- Assumes nothing.
use Prim.Native.Nat.{ℕ, zero, suc, ◌+◌, ◌*◌, ◌/◌, ◌%◌, ◌-◌, ◌^◌, ◌≤◌, ◌<◌}
use Rattle.std.proofs.Common.{sym, ◌∙◌, ◌++◌, min, take-take, take_at, drop_at}
use Rattle.std.proofs.lemmas.List.{take_min, drop_min}
use mathlib.Core.Path.{◌≡◌, refl, ap}
use mathlib.Core.List.{List, [], ◌∷◌, append-nil}
use native.Mathlib.Nat.{mod-eq_of_lt, mod-lt}
use native.Mathlib.Omega.{arith}
use lib.Arith.{digits_mod}
use lib.Pow.{pow_pos}
use lib.ListN.{length, take, drop, length-drop}
use lib.Seq.{drop-drop, take_all, length-take-le}
use Rattle.strings.specs.Bytes.{Below, Bytes, number}
use Rattle.strings.specs.Inner.{padded}
use Rattle.strings.proofs.Bytes.{below_drop, number_below, number_append, length-padded, padded_below, padded_add, take-zeros}
use Rattle.strings.proofs.Place.{number_fits}
use Rattle.blocks.specs.Blocks.{IsBlock, bin, pad, first_block, cut, blocks}

pub bin_below : (l : ℕ) → IsBlock (bin l)
unfolding bin
bin_below l = mod-lt l (pow_pos 128)

pub block_padded : (s : List ℕ) → first_block s ≡ number (padded 16 s)
unfolding first_block pad
block_padded s = ap number (take-zeros 16 s)

pub block_first : (s : List ℕ) → 16 ≤ length s → first_block s ≡ number (take 16 s)
unfolding first_block pad
block_first s h = ap number (rw (length-take-le 16 s h, append-nil))

pub block_taken : (n : ℕ) (s : List ℕ) → 16 ≤ n → first_block (take n s) ≡ first_block s
unfolding first_block pad
block_taken n s h = rw (take-take 16 n s h)

-- A chunk from the front of a string, and what is behind it.
pub chunk_front : (n : ℕ) (x t s : List ℕ) → s ≡ x ++ t → length x ≡ min n (length s) → x ≡ take n s
chunk_front n x t s e l = sym (take_at x t (length x) refl) ∙ ap (take (length x)) (sym e) ∙ ap (λ (k : ℕ). take k s) l ∙ take_min n s

pub chunk_behind : (n : ℕ) (x t s : List ℕ) → s ≡ x ++ t → length x ≡ min n (length s) → t ≡ drop n s
chunk_behind n x t s e l = sym (drop_at x t (length x) refl) ∙ ap (drop (length x)) (sym e) ∙ ap (λ (k : ℕ). drop k s) l ∙ drop_min n s

pub block_whole : (s : List ℕ) → length s ≡ 16 → first_block s ≡ number s
block_whole s h = rw (block_first s (omega (arith, h)), take_all 16 s (omega (arith, h)))

pub block_below : (s : List ℕ) → Bytes s → first_block s < 2 ^ 128
block_below s h = rw (block_padded s) (rw length-padded at (number_below (padded 16 s) (padded_below 16 s h)))

-- A string's blocks.
pub blocks_nil : blocks [] ≡ []
unfolding blocks cut
blocks_nil = refl

pub blocks_cons : (s : List ℕ) → 0 < length s → blocks s ≡ first_block s ∷ blocks (drop 16 s)
unfolding blocks cut
blocks_cons s h =
    let e : (length s + 15) / 16 ≡ suc ((length s - 16 + 15) / 16) = omega arith in
    rw (e, length-drop)

length_cut : (m : ℕ) (s : List ℕ) → length (cut m s) ≡ m
unfolding cut
length_cut zero s = refl
length_cut (suc m) s = ap suc (length_cut m (drop 16 s))

pub length-blocks : (s : List ℕ) → length (blocks s) ≡ (length s + 15) / 16
unfolding blocks
length-blocks s = length_cut ((length s + 15) / 16) s

cut_below : (m : ℕ) (s : List ℕ) → Bytes s → Below (2 ^ 128) (cut m s)
unfolding cut
cut_below zero s h i = pow_pos 128
cut_below (suc m) s h zero = block_below s h
cut_below (suc m) s h (suc i) = cut_below m (drop 16 s) (below_drop 16 s h) i

pub blocks_below : (s : List ℕ) → Bytes s → Below (2 ^ 128) (blocks s)
unfolding blocks
blocks_below s h = cut_below ((length s + 15) / 16) s h

-- A block is its two halves: the number of its first 8 bytes, and that of all 16 cut to 64 digits.
pub join_halves : (at : ℕ) (s : List ℕ) → Bytes s
    → number (padded 8 (drop at s)) % 2 ^ 64 * 2 ^ 64 + number (padded 16 (drop at s)) % 2 ^ 64 ≡ first_block (drop at s)
join_halves at s h =
    let t = drop at s in
    let high = number (padded 8 t) in
    let low = number (padded 8 (drop (at + 8) s)) in
    let both : number (padded 16 t) ≡ high * 2 ^ 64 + low = rw (padded_add 8 8 t, number_append, length-padded, drop-drop) in
    rw (block_padded, both, mod-eq_of_lt (number_fits 8 8 at s h (omega arith)), digits_mod high (number_fits 8 8 (at + 8) s h (omega arith)))
