-- Bytes at a place of a string: what `number::get` and `number::put` go by, and a part of a string that is lent by itself.
-- Assumes nothing.
use Prim.Native.Nat.{ℕ, zero, suc, ◌+◌, ◌-◌, ◌*◌, ◌/◌, ◌%◌, ◌^◌, ◌≤◌, ◌<◌, min}
use mathlib.Core.Path.{◌≡◌, sym, ap}
use mathlib.Core.Logic.{⊎_elim}
use mathlib.Core.List.{List, [], ◌∷◌, ◌++◌, append-nil}
use native.Mathlib.Nat.{sub-zero, zero-add, add-suc, pow-suc, div-div-eq-div-mul, add-zero, zero-sub, suc-sub-suc, suc-add, pow-le-pow_right, le_refl, lt_of_lt_of_le, eq-or-lt_of_le}
use native.Mathlib.Numerals.{add-one}
use native.Mathlib.Omega.{arith}
use lib.Arith.{digits_div}
use lib.ListN.{length, get_or, take, drop, set, take-append-drop, length-append, length-drop, length-set, drop_of_length-le}
use lib.Seq.{get_or-drop, drop_at, drop-drop, take-nil, take_all, take-length, drop-nil, drop-length, set_out, set-set, set_comm}
use Rattle.strings.specs.Bytes.{Bytes, number, bytes}
use Rattle.strings.specs.Inner.{padded, overwrite}
use Rattle.strings.proofs.Bytes.{bytes-append, bytes_above, number_below, number_append, length-padded, padded_below, padded_suc, below_drop}

-- Reading one byte more: what has been read is shifted up.
pub number-next : (n at : ℕ) (s : List ℕ)
    → number (padded (n + 1) (drop at s)) ≡ number (padded n (drop at s)) * 256 + get_or s (at + n) 0
unfolding number
number-next n at s = rw (add-one, padded_suc n (drop at s), number_append, get_or-drop) (omega arith)

pub number_fits : (n m at : ℕ) (s : List ℕ) → Bytes s → n ≤ m → number (padded n (drop at s)) < 256 ^ m
number_fits n m at s h l =
    lt_of_lt_of_le
    (rw length-padded at (number_below (padded n (drop at s)) (padded_below n (drop at s) (below_drop at s h))))
    (pow-le-pow_right (omega arith) l)

-- Writing one byte more, at the place before: past the end `set` does nothing.
pub overwrite_nil : (i : ℕ) (s : List ℕ) → overwrite i [] s ≡ s
unfolding overwrite
overwrite_nil i s = rw (take-nil, add-zero, take-append-drop)

pub overwrite_head : (t s : List ℕ) → length t ≤ length s → overwrite 0 t s ≡ t ++ drop (length t) s
unfolding overwrite
overwrite_head t s h = rw (sub-zero, zero-add, take_all (length s) t h)

-- What a copy over the front of a string leaves.
pub copied_front : (t s : List ℕ) → length t ≤ length s → take (length t) t ++ drop (length t) s ≡ overwrite 0 t s
copied_front t s h = rw (overwrite_head t s h, take_all (length t) t (le_refl (length t)))

pub overwrite_whole : (t s : List ℕ) → length t ≡ length s → overwrite 0 t s ≡ t
overwrite_whole t s h = rw (overwrite_head t s (omega (arith, h)), h, drop-length s, append-nil)

overwrite_empty : (i : ℕ) (t : List ℕ) → overwrite i t [] ≡ []
unfolding overwrite
overwrite_empty i t = rw (take-nil, zero-sub, drop-nil)

overwrite_skip : (i : ℕ) (t : List ℕ) (a : ℕ) (s : List ℕ) → overwrite (suc i) t (a ∷ s) ≡ a ∷ overwrite i t s
unfolding overwrite
overwrite_skip i t a s = rw (suc-sub-suc, suc-add)

overwrite_front : (b : ℕ) (t : List ℕ) (a : ℕ) (s : List ℕ) → overwrite 0 (b ∷ t) (a ∷ s) ≡ b ∷ overwrite 0 t s
unfolding overwrite
overwrite_front b t a s = simp (sub-zero, zero-add)

pub overwrite_cons : (i b : ℕ) (t s : List ℕ) → overwrite i (b ∷ t) s ≡ set (overwrite (suc i) t s) i b
overwrite_cons i b t [] = rw (overwrite_empty i (b ∷ t), overwrite_empty (suc i) t)
overwrite_cons zero b t (a ∷ s) = rw (overwrite_front b t a s, overwrite_skip 0 t a s)
overwrite_cons (suc i) b t (a ∷ s) = rw (overwrite_skip i (b ∷ t) a s, overwrite_skip (suc i) t a s, overwrite_cons i b t s)

pub length-overwrite : (i : ℕ) (t s : List ℕ) → length (overwrite i t s) ≡ length s
length-overwrite i [] s = rw overwrite_nil
length-overwrite i (b ∷ t) s = rw (overwrite_cons i b t s, length-set, length-overwrite (suc i) t s)

pub overwrite_past : (i : ℕ) (t s : List ℕ) → length s ≤ i → overwrite i t s ≡ s
overwrite_past i [] s h = overwrite_nil i s
overwrite_past i (b ∷ t) s h =
    rw (overwrite_cons i b t s, overwrite_past (suc i) t s (omega arith), set_out s i b)

overwrite_set : (i b j : ℕ) (t s : List ℕ) → i < j → set (overwrite j t s) i b ≡ overwrite j t (set s i b)
overwrite_set i b j [] s h = rw (overwrite_nil j s, overwrite_nil j (set s i b))
overwrite_set i b j (c ∷ t) s h =
    rw (
      overwrite_cons j c t s,
      set_comm (overwrite (suc j) t s) j i c b (λ e. omega arith),
      overwrite_set i b (suc j) t s (omega arith),
      overwrite_cons j c t (set s i b),
    )

pub overwrite-append : (i : ℕ) (t u s : List ℕ) → overwrite i (t ++ u) s ≡ overwrite (i + length t) u (overwrite i t s)
overwrite-append i [] u s = rw (add-zero, overwrite_nil i s)
overwrite-append i (b ∷ t) u s =
    rw (
      overwrite_cons i b (t ++ u) s,
      overwrite-append (suc i) t u s,
      overwrite_set i b (suc i + length t) u (overwrite (suc i) t s) (omega arith),
      overwrite_cons i b t s,
      add-suc,
      suc-add,
    )

-- Written over by as many bytes at the same place.
pub overwrite_again : (i : ℕ) (a t u s : List ℕ) → length a ≡ length t → overwrite i t (overwrite i (a ++ u) s) ≡ overwrite i (t ++ u) s
overwrite_again i [] [] u s h = overwrite_nil i (overwrite i u s)
overwrite_again i [] (b ∷ t) u s h = absurd (omega arith)
overwrite_again i (b ∷ a) [] u s h = absurd (omega arith)
overwrite_again i (b ∷ a) (c ∷ t) u s h =
    rw (
      overwrite_cons i b (a ++ u) s,
      overwrite_cons i c t (set (overwrite (suc i) (a ++ u) s) i b),
      sym (overwrite_set i b (suc i) t (overwrite (suc i) (a ++ u) s) (omega arith)),
      set-set,
      overwrite_again (suc i) a t u s (omega arith),
      overwrite_cons i c (t ++ u) s,
    )

-- The bytes of a number of two parts.
pub bytes_join : (m n q : ℕ) {r : ℕ} → r < 256 ^ n → bytes (m + n) (q * 256 ^ n + r) ≡ bytes m q ++ bytes n r
bytes_join m n q {r} h = rw (bytes-append m n (q * 256 ^ n + r), digits_div q h, bytes_above n q r)

-- Writing a number's bytes from the last on: the next byte, and what is left above it.
pub overwrite-next : (k n w : ℕ) (s : List ℕ)
    → set (overwrite (k + 1) (bytes n w) s) k (w / 256 ^ n % 256) ≡ overwrite k (bytes (n + 1) w) s
unfolding bytes
overwrite-next k n w s = rw (add-one k, add-one n, overwrite_cons k (w / 256 ^ n % 256) (bytes n w) s)

pub rest_next : (n w : ℕ) → w / 256 ^ (n + 1) ≡ w / 256 ^ n / 256
rest_next n w = rw (add-one, pow-suc, div-div-eq-div-mul)

-- What is in front of the end of what was written, and what is behind it.
pub take-overwrite : (i : ℕ) (t s : List ℕ) → take (i + length t) (overwrite i t s) ≡ take i s ++ take (length s - i) t
take-overwrite i t [] = rw (overwrite_empty i t, take-nil (i + length t), take-nil i, zero-sub i)
take-overwrite zero [] (a ∷ s) = rw take-nil
take-overwrite zero (b ∷ t) (a ∷ s) =
    let h = take-overwrite zero t s in
    rw (overwrite_front b t a s, zero-add, sub-zero) (ap (λ (l : List ℕ). b ∷ l) (simp (zero-add, sub-zero) at h))
take-overwrite (suc i) t (a ∷ s) = rw (overwrite_skip i t a s, suc-add, take-overwrite i t s, suc-sub-suc)

pub drop-overwrite : (i : ℕ) (t s : List ℕ) → drop (i + length t) (overwrite i t s) ≡ drop (i + length t) s
drop-overwrite i t [] = rw overwrite_empty
drop-overwrite zero [] (a ∷ s) = rw overwrite_nil
drop-overwrite zero (b ∷ t) (a ∷ s) =
    let h = drop-overwrite zero t s in
    rw (overwrite_front b t a s, zero-add) (rw zero-add at h)
drop-overwrite (suc i) t (a ∷ s) = rw (overwrite_skip i t a s, suc-add, drop-overwrite i t s)

-- The part behind the first w bytes, lent by itself: what it is, and the whole when it comes back as t.
pub part_behind : (w : ℕ) (s : List ℕ) → take (length s - w) (drop w s) ≡ drop w s
part_behind w s = take_all (length s - w) (drop w s) (rw length-drop (omega arith))

pub put_back : (w : ℕ) (s t : List ℕ) → take w s ++ (t ++ drop (length s - w) (drop w s)) ≡ take w s ++ t
put_back w s t =
    let short : length (drop w s) ≤ length s - w = rw length-drop (omega arith) in
    let none : drop (length s - w) (drop w s) ≡ [] = drop_of_length-le (drop w s) short in
    rw (none, append-nil t)

-- Written to the front of the part behind the first i bytes, as far as it reaches: n is as many bytes as have room.
pub overwrite-part : (i n : ℕ) (t s : List ℕ) → n ≡ min (length t) (length s - i) → take i s ++ (take n t ++ drop n (drop i s)) ≡ overwrite i t s
unfolding overwrite
overwrite-part i n t s e =
    let some : n ≤ length t = omega arith in
    rw drop-drop
    (⊎_elim (λ (h : n ≡ length t). rw (h, take-length t, take_all (length s - i) t (omega arith)))
    (λ (h : n < length t).
    let room : n ≡ length s - i = omega arith in
    rw (
      room,
      drop_of_length-le s {i = i + (length s - i)} (omega arith),
      drop_of_length-le s {i = i + length t} (omega arith),
    )) (eq-or-lt_of_le some))

pub overwrite_front_part : (w : ℕ) (a t u : List ℕ) → length a ≡ w → length u ≡ w → overwrite 0 u (a ++ t) ≡ u ++ t
overwrite_front_part w a t u ha hu =
    rw (overwrite_head u (a ++ t) (rw (length-append, ha, hu) (omega arith)), hu) (ap (λ (r : List ℕ). u ++ r) (drop_at a t w ha))
