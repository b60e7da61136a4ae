-- Laws of counter mode: it adds a stream of bytes that the string's length alone decides, so that it undoes itself; and how it goes block by block.
-- Assumes nothing.
use Prim.Native.Nat.{ℕ, zero, suc, ◌+◌, ◌-◌, ◌*◌, ◌/◌, ◌<◌}
use mathlib.Core.Path.{◌≡◌, refl, ap}
use mathlib.Core.List.{List, [], ◌∷◌, ◌++◌, append_assoc}
use native.Mathlib.Omega.{arith}
use lib.ListN.{length, take, drop, length-append, length-take, length-drop}
use lib.Seq.{drop-drop}
use Rattle.strings.specs.Xor.{◌⊕◌, xor_bytes}
use Rattle.strings.specs.Bytes.{Bytes, OfLength, bytes}
use Rattle.strings.specs.Inner.{overwrite}
use Rattle.blocks.specs.Blocks.{first_block, cut, blocks, string}
use Rattle.strings.specs.Cipher.{Cipher}
use Rattle.blocks.specs.Counter.{masked, masked_bytes}
use Rattle.strings.specs.Inner.{padded}
use Rattle.strings.proofs.Bytes.{below_append, below_drop, below_take, length-bytes, bytes_below, bytes-number, bytes_xor, xor_bytes_cancel, xor_bytes-append, take-xor_bytes, length-padded, padded_below, padded_add, take-padded, take-append}
use Rattle.blocks.proofs.Blocks.{block_padded, blocks_cons, length-blocks}
use Rattle.strings.proofs.Place.{take-overwrite, drop-overwrite}

-- Blocks as a string.
length-string : (bs : List ℕ) → length (string bs) ≡ 16 * length bs
unfolding string
length-string [] = refl
length-string (b ∷ bs) = rw (length-append, length-bytes, length-string bs) (omega arith)

string_below : (bs : List ℕ) → Bytes (string bs)
unfolding string
string_below [] i = omega arith
string_below (b ∷ bs) i = below_append (bytes 16 b) (string bs) (bytes_below 16 b) (string_below bs) i

block_bytes : (s : List ℕ) → Bytes s → bytes 16 (first_block s) ≡ padded 16 s
block_bytes s h = rw block_padded (rw length-padded at (bytes-number (padded 16 s) (padded_below 16 s h)))

string-cut : (m : ℕ) (s : List ℕ) → Bytes s → string (cut m s) ≡ padded (16 * m) s
unfolding string cut padded
string-cut zero s h = refl
string-cut (suc m) s h =
    let e : 16 * suc m ≡ 16 + 16 * m = omega arith in
    rw (block_bytes s h, string-cut m (drop 16 s) (below_drop 16 s h), e, padded_add 16 (16 * m) s)

string-blocks : (s : List ℕ) → Bytes s → take (length s) (string (blocks s)) ≡ s
unfolding blocks
string-blocks s h = rw (string-cut ((length s + 15) / 16) s h) (take-padded (16 * ((length s + 15) / 16)) s (omega arith))

module _ (mask : ℕ → ℕ) where
  -- The stream of n masks from number i on.
  unfoldable stream : ℕ → ℕ → List ℕ
  stream i zero = []
  stream i (suc n) = bytes 16 (mask i) ++ stream (suc i) n

  string-masked : (i : ℕ) (As : List ℕ) → string (masked mask i As) ≡ xor_bytes (string As) (stream i (length As))
  unfolding string masked stream xor_bytes
  string-masked i [] = refl
  string-masked i (A ∷ As) =
      rw (
        string-masked (suc i) As,
        bytes_xor 16 A (mask i),
        xor_bytes-append (bytes 16 A) (bytes 16 (mask i)) (string As) (stream (suc i) (length As)) (rw (length-bytes 16 A, length-bytes 16 (mask i))),
      )

  masked_stream : (i : ℕ) (s : List ℕ) → Bytes s → masked_bytes mask i s ≡ xor_bytes s (stream i ((length s + 15) / 16))
  unfolding masked_bytes
  masked_stream i s h = rw (string-masked, length-blocks, take-xor_bytes, string-blocks s h)

  length_masked_list : (i : ℕ) (As : List ℕ) → length (masked mask i As) ≡ length As
  unfolding masked
  length_masked_list i [] = refl
  length_masked_list i (A ∷ As) = ap suc (length_masked_list (suc i) As)

  length-masked : (i : ℕ) (s : List ℕ) → length (masked_bytes mask i s) ≡ length s
  unfolding masked_bytes
  length-masked i s = rw (length-take, length-string, length_masked_list, length-blocks) (omega arith)

  masked_below : (i : ℕ) (s : List ℕ) → Bytes (masked_bytes mask i s)
  unfolding masked_bytes
  masked_below i s = below_take (length s) (string (masked mask i (blocks s))) (string_below (masked mask i (blocks s)))

  masked-masked : (i : ℕ) (s : List ℕ) → Bytes s → masked_bytes mask i (masked_bytes mask i s) ≡ s
  masked-masked i s h =
      rw (masked_stream i (masked_bytes mask i s) (masked_below i s), length-masked i s, masked_stream i s h)
      (xor_bytes_cancel s (stream i ((length s + 15) / 16)))

  -- Counter mode is a cipher of n bytes, and its own inverse.
  pub counter_cipher : (i n : ℕ) → Cipher n (masked_bytes mask i) (masked_bytes mask i)
  counter_cipher i n =
      let keeps : (s : List ℕ) → OfLength n s → OfLength n (masked_bytes mask i s) = λ s h. (rw (length-masked i s) h.0, masked_below i s) in
      let undone : (s : List ℕ) → OfLength n s → masked_bytes mask i (masked_bytes mask i s) ≡ s = λ s h. masked-masked i s h.1 in
      record { keeps = keeps; inverse_keeps = keeps; undone = undone; undoes = undone }

  -- Block by block.
  pub masked_nil : (i : ℕ) → masked_bytes mask i [] ≡ []
  unfolding masked_bytes
  masked_nil i = refl

  masked_cons : (i : ℕ) (s : List ℕ) → 0 < length s
      → masked_bytes mask i s ≡ take (length s) (bytes 16 (first_block s ⊕ mask i)) ++ masked_bytes mask (suc i) (drop 16 s)
  unfolding masked_bytes masked string
  masked_cons i s h =
      rw (blocks_cons s h, take-append (length s) (bytes 16 (first_block s ⊕ mask i)), length-bytes, length-drop)

  -- On a string's own bytes: one block is written where it was read, and the rest is to be done.
  pub masked-next : (i at : ℕ) (s : List ℕ) → at < length s
      → let s' = overwrite at (bytes 16 (first_block (drop at s) ⊕ mask i)) s in
      take (at + 16) s' ++ masked_bytes mask (suc i) (drop (at + 16) s') ≡ take at s ++ masked_bytes mask i (drop at s)
  masked-next i at s h =
      let b : List ℕ = bytes 16 (first_block (drop at s) ⊕ mask i) in
      let l : length b ≡ 16 = length-bytes 16 (first_block (drop at s) ⊕ mask i) in
      let front : take (at + 16) (overwrite at b s) ≡ take at s ++ take (length s - at) b = rw l at (take-overwrite at b s) in
      let rest : drop (at + 16) (overwrite at b s) ≡ drop (at + 16) s = rw l at (drop-overwrite at b s) in
      rw (
        front,
        rest,
        masked_cons i (drop at s) (rw length-drop (omega arith)),
        length-drop,
        drop-drop 16 at s,
        append_assoc (take at s) (take (length s - at) b),
      )
