-- Laws of byte strings: numbers and bytes undo each other, and exclusive or goes byte by byte.
-- Assumes nothing.
use Prim.Native.Nat.{ℕ, zero, suc, ◌+◌, ◌-◌, ◌*◌, ◌/◌, ◌%◌, ◌^◌, ◌≤◌, ◌<◌}
use mathlib.Core.Path.{◌≡◌, refl, ap}
use mathlib.Core.List.{List, [], ◌∷◌, ◌++◌, append-nil}
use native.Mathlib.Nat.{zero-add, suc-add, add_assoc, add-mul, mul_assoc, mul_comm, mul-zero, mul-suc, pow-zero, pow-suc, pow-succ', one-le-pow, sub-zero, zero-sub, sub_self, suc-sub-suc, le_refl, le_of_suc-le-suc, mod-eq_of_lt, div-div-eq-div-mul, mul-add-div_right, mul-add-mod_self_right}
use native.Mathlib.Numerals.{one-add}
use native.Mathlib.Omega.{arith}
use lib.Arith.{digits_lt, digits_div, mod-mul}
use lib.Pow.{pow-add}
use lib.ListN.{length, get_or, take, drop, replicate, length-append, get_or-eq_default}
use lib.Seq.{get_or-drop, drop-drop, take-nil, take_all, length-take-le}
use Rattle.std.specs.Int.{w32, to_be_bytes, from_be_bytes}
use Rattle.strings.specs.Xor.{◌⊕◌, xor_bytes}
use Rattle.strings.specs.Bytes.{Below, Bytes, number, bytes}
use Rattle.strings.specs.Inner.{padded}
use Rattle.strings.proofs.Xor.{xor_cancel_right, xor_shr, xor_mod}

-- Strings whose entries are below n. Past the end an entry is 0, so n is never 0.
pub below_pos : {n : ℕ} (s : List ℕ) → Below n s → 0 < n
below_pos s h = rw (get_or-eq_default s 0 (le_refl (length s))) at (h (length s))

pub below_append : {n : ℕ} (s t : List ℕ) → Below n s → Below n t → Below n (s ++ t)
below_append [] t h k i = k i
below_append (a ∷ s) t h k zero = h 0
below_append (a ∷ s) t h k (suc i) = below_append s t (λ j. h (suc j)) k i

pub below_drop : {n : ℕ} (m : ℕ) (s : List ℕ) → Below n s → Below n (drop m s)
below_drop m s h i = rw get_or-drop (h (m + i))

pub below_take : {n : ℕ} (m : ℕ) (s : List ℕ) → Below n s → Below n (take m s)
below_take zero s h i = below_pos s h
below_take (suc m) [] h i = h i
below_take (suc m) (a ∷ s) h zero = h 0
below_take (suc m) (a ∷ s) h (suc i) = below_take m s (λ j. h (suc j)) i

-- Numbers and bytes.
pos : (n : ℕ) → 0 < 256 ^ n
pos n = one-le-pow n 256 (omega arith)

pub length-bytes : (n a : ℕ) → length (bytes n a) ≡ n
unfolding bytes
length-bytes zero a = refl
length-bytes (suc n) a = ap suc (length-bytes n a)

pub bytes_below : (n a : ℕ) → Bytes (bytes n a)
unfolding bytes
bytes_below zero a i = omega arith
bytes_below (suc n) a zero = omega arith
bytes_below (suc n) a (suc i) = bytes_below n a i

pub number_below : (s : List ℕ) → Bytes s → number s < 256 ^ length s
unfolding number
number_below [] h = omega arith
number_below (a ∷ s) h = rw pow-succ' (digits_lt (h 0) (number_below s (λ i. h (suc i))))

pub number_append : (s t : List ℕ) → number (s ++ t) ≡ number s * 256 ^ length t + number t
unfolding number
number_append [] t = omega arith
number_append (a ∷ s) t =
    rw (length-append s t, pow-add, number_append s t) (simp (add-mul, mul_assoc, add_assoc))

pub number-bytes : (n a : ℕ) → number (bytes n a) ≡ a % 256 ^ n
unfolding number bytes
number-bytes zero a = omega arith
number-bytes (suc n) a = rw (length-bytes n a, number-bytes n a, pow-succ' 256 n, mod-mul a (pos 1) (pos n))

-- What lies above n bytes is cut.
pub bytes_above : (n q a : ℕ) → bytes n (q * 256 ^ n + a) ≡ bytes n a
unfolding bytes
bytes_above zero q a = refl
bytes_above (suc n) q a =
    rw (pow-succ', ← mul_assoc, bytes_above n (q * 256) a, mul-add-div_right (pos n), mul-add-mod_self_right)

pub bytes-number : (s : List ℕ) → Bytes s → bytes (length s) (number s) ≡ s
unfolding number bytes
bytes-number [] h = refl
bytes-number (a ∷ s) h =
    let r = number_below s (λ i. h (suc i)) in
    rw (digits_div a r, mod-eq_of_lt (h 0), bytes_above (length s) a (number s), bytes-number s (λ i. h (suc i)))

pub bytes-append : (m n a : ℕ) → bytes (m + n) a ≡ bytes m (a / 256 ^ n) ++ bytes n a
unfolding bytes
bytes-append zero n a = rw zero-add
bytes-append (suc m) n a = rw (suc-add, bytes-append m n a, div-div-eq-div-mul, pow-add, mul_comm (256 ^ m))

-- Exclusive or goes byte by byte, since 256 ^ n is a power of 2.
pub pow_mul : (a k n : ℕ) → (a ^ k) ^ n ≡ a ^ (k * n)
pow_mul a k zero = rw (pow-zero, mul-zero, pow-zero)
pow_mul a k (suc n) = rw (pow-suc, pow_mul a k n, mul-suc, pow-add)

pub bytes_xor : (n a b : ℕ) → bytes n (a ⊕ b) ≡ xor_bytes (bytes n a) (bytes n b)
unfolding bytes xor_bytes
bytes_xor zero a b = refl
bytes_xor (suc n) a b = rw (bytes_xor n a b, pow_mul 2 8 n, xor_shr (8 * n) a b, xor_mod 8 (a / 2 ^ (8 * n)) (b / 2 ^ (8 * n)))

pub length-xor_bytes : (s t : List ℕ) → length (xor_bytes s t) ≡ length s
unfolding xor_bytes
length-xor_bytes [] t = refl
length-xor_bytes (a ∷ s) [] = refl
length-xor_bytes (a ∷ s) (b ∷ t) = ap suc (length-xor_bytes s t)

pub xor_bytes_cancel : (s t : List ℕ) → xor_bytes (xor_bytes s t) t ≡ s
unfolding xor_bytes
xor_bytes_cancel [] t = refl
xor_bytes_cancel (a ∷ s) [] = refl
xor_bytes_cancel (a ∷ s) (b ∷ t) = rw (xor_cancel_right a b, xor_bytes_cancel s t)

pub take-xor_bytes : (n : ℕ) (s t : List ℕ) → take n (xor_bytes s t) ≡ xor_bytes (take n s) t
unfolding xor_bytes
take-xor_bytes zero s t = refl
take-xor_bytes (suc n) [] t = refl
take-xor_bytes (suc n) (a ∷ s) [] = refl
take-xor_bytes (suc n) (a ∷ s) (b ∷ t) = rw (take-xor_bytes n s t)

pub xor_bytes-append : (s t u v : List ℕ) → length s ≡ length t → xor_bytes (s ++ u) (t ++ v) ≡ xor_bytes s t ++ xor_bytes u v
unfolding xor_bytes
xor_bytes-append [] [] u v h = refl
xor_bytes-append [] (b ∷ t) u v h = absurd (omega arith)
xor_bytes-append (a ∷ s) [] u v h = absurd (omega arith)
xor_bytes-append (a ∷ s) (b ∷ t) u v h = rw (xor_bytes-append s t u v (omega arith))

-- The front of a string of two parts.
pub take-append : (n : ℕ) (s t : List ℕ) → take n (s ++ t) ≡ take n s ++ take (n - length s) t
take-append n [] t = rw (take-nil n, sub-zero)
take-append zero (a ∷ s) t = rw zero-sub
take-append (suc n) (a ∷ s) t = rw (take-append n s t, suc-sub-suc)

-- The first n entries, 0 past the end.
pub length-padded : (n : ℕ) (s : List ℕ) → length (padded n s) ≡ n
unfolding padded
length-padded zero s = refl
length-padded (suc n) s = ap suc (length-padded n (drop 1 s))

pub padded_below : {k : ℕ} (n : ℕ) (s : List ℕ) → Below k s → Below k (padded n s)
unfolding padded
padded_below zero s h i = below_pos s h
padded_below (suc n) s h zero = h 0
padded_below (suc n) s h (suc i) = padded_below n (drop 1 s) (below_drop 1 s h) i

pub padded_suc : (n : ℕ) (s : List ℕ) → padded (suc n) s ≡ padded n s ++ (get_or s n 0 ∷ [])
unfolding padded
padded_suc zero s = refl
padded_suc (suc n) s = rw (padded_suc n (drop 1 s), get_or-drop 1 s n 0, one-add)

pub padded_add : (m n : ℕ) (s : List ℕ) → padded (m + n) s ≡ padded m s ++ padded n (drop m s)
unfolding padded
padded_add zero n s = rw zero-add
padded_add (suc m) n s = rw (suc-add, padded_add m n (drop 1 s), drop-drop m 1 s, one-add)

pub take-padded : (n : ℕ) (s : List ℕ) → length s ≤ n → take (length s) (padded n s) ≡ s
unfolding padded
take-padded zero s h = rw (take-nil (length s)) (take_all 0 s h)
take-padded (suc n) [] h = refl
take-padded (suc n) (a ∷ s) h = ap (λ (t : List ℕ). a ∷ t) (take-padded n s (le_of_suc-le-suc h))

padded_nil : (n : ℕ) → replicate n 0 ≡ padded n []
unfolding padded
padded_nil zero = refl
padded_nil (suc n) = rw (padded_nil n)

pub take-zeros : (n : ℕ) (s : List ℕ) → take n s ++ replicate (n - length (take n s)) 0 ≡ padded n s
unfolding padded
take-zeros zero s = refl
take-zeros (suc n) [] = rw sub-zero (padded_nil (suc n))
take-zeros (suc n) (a ∷ s) = rw (suc-sub-suc, take-zeros n s)

pub padded-take : (n : ℕ) (s : List ℕ) → n ≤ length s → padded n s ≡ take n s
padded-take n s h = rw (← take-zeros n s, length-take-le n s h, sub_self, append-nil)

-- What std says of a word's four bytes.
pub be_bytes : (w : ℕ) → to_be_bytes w32 w ≡ bytes 4 w
unfolding bytes
be_bytes w =
    let last : w % 256 ≡ w / 256 ^ 0 % 256 = omega arith in
    ap (λ (b : ℕ). w / 256 ^ 3 % 256 ∷ w / 256 ^ 2 % 256 ∷ w / 256 ^ 1 % 256 ∷ b ∷ []) last

pub be_number : (s : List ℕ) → from_be_bytes w32 s ≡ number (get_or s 0 0 ∷ get_or s 1 0 ∷ get_or s 2 0 ∷ get_or s 3 0 ∷ [])
unfolding number
be_number s = omega arith
