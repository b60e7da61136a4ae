-- Laws of hexadecimal. A digit is a decimal one or a letter, and by these two cases `digit` and `value` undo each other; the rest is induction
-- on the text, two characters at a time. Assumes nothing.
use mathlib.Core.Path.{◌≡◌, refl, ap}
use mathlib.Core.Logic.{◌⊎◌, inl, inr, ⊎_elim}
use mathlib.Core.Bool.{Bool, true, false, cond, ◌&&◌, and-eq-true_iff}
use mathlib.Core.List.{List, [], ◌∷◌, ◌++◌}
use Prim.Native.Nat.{ℕ, zero, suc, ◌+◌, ◌-◌, ◌*◌, ◌/◌, ◌%◌, ◌≤◌, ◌<◌}
use native.Mathlib.Nat.{not-suc-le-zero, le_of_suc-le-suc}
use native.Mathlib.Omega.{arith}
use lib.ListN.{length, take, drop, get_or, set}
use lib.Seq.{take_at}
use lib.Dec.{leb, ltb, eqb}
use borrow.Author.Tests.{le-leb, lt-leb, lt-ltb, le-ltb, leb-true, ltb-true, ltb-false, eq-eqb, ne_eqb, eqb-true}
use Rattle.strings.proofs.Refusals.{either}
use Rattle.std.specs.Prelude.{Option, Some, None}
use Rattle.std.specs.List.{list_all}
use Rattle.text.specs.Hex.{digit, is_digit, value, hex, all_digits, is_hex, unhex}
use Rattle.text.specs.Part.{split}
use Rattle.text.specs.Inner.{before, decoded_of, field_of}
use Rattle.text.proofs.Parts.{before_le, split_none}

-- ---- one digit

between : (a b c : ℕ) → (leb a c && leb c b) ≡ true → (a ≤ c) × (c ≤ b)
between a b c e = let h = (and-eq-true_iff (leb a c) (leb c b)).0 e in (leb-true a c h.0, leb-true c b h.1)

-- a digit is a decimal one or a letter
pub cases : (c : ℕ) → is_digit c ≡ true → ((48 ≤ c) × (c ≤ 57)) ⊎ ((97 ≤ c) × (c ≤ 102))
unfolding is_digit
cases c e = ⊎_elim (λ h. inl (between 48 57 c h)) (λ h. inr (between 97 102 c h)) (either (leb 48 c && leb c 57) (leb 97 c && leb c 102) e)

decimal : (c : ℕ) → 48 ≤ c → c ≤ 57 → is_digit c ≡ true
unfolding is_digit
decimal c h k = simp (le-leb 48 c h, le-leb c 57 k)

letter : (c : ℕ) → 97 ≤ c → c ≤ 102 → is_digit c ≡ true
unfolding is_digit
letter c h k = simp (lt-leb c 57 (omega arith), le-leb 97 c h, le-leb c 102 k, le-leb 48 c (omega arith))

pub value_lt : (c : ℕ) → is_digit c ≡ true → value c < 16
unfolding value
value_lt c e = ⊎_elim (λ h. simp (le-leb c 57 h.1) (omega arith)) (λ h. simp (lt-leb c 57 (omega arith)) (omega arith)) (cases c e)

digit_value : (c : ℕ) → is_digit c ≡ true → digit (value c) ≡ c
unfolding digit value
digit_value c e =
    ⊎_elim (λ h. simp (le-leb c 57 h.1, lt-ltb (c - 48) 10 (omega arith)) (omega arith))
    (λ h. simp (lt-leb c 57 (omega arith), le-ltb (c - 87) 10 (omega arith)) (omega arith)) (cases c e)

test : (m n : ℕ) (b : Bool) → ltb m n ≡ b → (m < n) ⊎ (n ≤ m)
test m n true e = inl (ltb-true m n e)
test m n false e = inr (ltb-false m n e)

value-digit : (n : ℕ) → n < 16 → value (digit n) ≡ n
unfolding digit value
value-digit n h =
    ⊎_elim (λ l. simp (lt-ltb n 10 l, le-leb (48 + n) 57 (omega arith)) (omega arith))
    (λ l. simp (le-ltb n 10 l, lt-leb (87 + n) 57 (omega arith)) (omega arith)) (test n 10 (ltb n 10) refl)

pub digit_is : (n : ℕ) → n < 16 → is_digit (digit n) ≡ true
unfolding digit
digit_is n h =
    ⊎_elim (λ l. simp (lt-ltb n 10 l) (decimal (48 + n) (omega arith) (omega arith)))
    (λ l. simp (le-ltb n 10 l) (letter (87 + n) (omega arith) (omega arith))) (test n 10 (ltb n 10) refl)

-- ---- all digits, and an even number of them

-- that is std's word
pub all_digits_is : (s : List ℕ) → all_digits s ≡ list_all is_digit s
unfolding all_digits
all_digits_is [] = refl
all_digits_is (c ∷ s) = rw (all_digits_is s) refl

-- each character of such a text is a digit
pub digit_at : (s : List ℕ) (i : ℕ) → all_digits s ≡ true → i < length s → is_digit (get_or s i 0) ≡ true
unfolding all_digits
digit_at [] i e h = absurd (not-suc-le-zero h)
digit_at (c ∷ s) zero e h = ((and-eq-true_iff (is_digit c) (all_digits s)).0 e).0
digit_at (c ∷ s) (suc i) e h = digit_at s i ((and-eq-true_iff (is_digit c) (all_digits s)).0 e).1 (le_of_suc-le-suc h)

-- the two parts of the test
pub even_digits : (s : List ℕ) → is_hex s ≡ true → (length s % 2 ≡ 0) × (all_digits s ≡ true)
unfolding is_hex
even_digits s e = let h = (and-eq-true_iff (eqb (length s % 2) 0) (all_digits s)).0 e in (eqb-true (length s % 2) 0 h.0, h.1)

-- ---- a turn of each loop: two characters, or one byte, more

pub hex_store : (bs out : List ℕ) (i : ℕ) → i < length bs → 2 * i + 1 < length out
    → set (set (hex (take i bs) ++ drop (2 * i) out) (2 * i) (digit (get_or bs i 0 / 16))) (2 * i + 1) (digit (get_or bs i 0 % 16)) ≡ hex (take (i + 1) bs) ++ drop (2 * (i + 1)) out
unfolding hex
hex_store [] out i h k = absurd (not-suc-le-zero h)
hex_store (b ∷ bs) [] i h k = absurd (not-suc-le-zero k)
hex_store (b ∷ bs) (x ∷ []) i h k = absurd (omega arith)
hex_store (b ∷ bs) (x ∷ y ∷ out) zero h k = refl
hex_store (b ∷ bs) (x ∷ y ∷ out) (suc i) h k =
    let e₁ : 2 * suc i + 1 ≡ suc (suc (2 * i + 1)) = omega arith in
    let e₂ : 2 * suc i ≡ suc (suc (2 * i)) = omega arith in
    let e₃ : 2 * (suc i + 1) ≡ suc (suc (2 * (i + 1))) = omega arith in
    let e₄ : suc i + 1 ≡ suc (i + 1) = omega arith in
    rw (e₁, e₂, e₃, e₄) (ap (λ (l : List ℕ). digit (b / 16) ∷ digit (b % 16) ∷ l) (hex_store bs out i (le_of_suc-le-suc h) (omega arith)))

pub unhex_store : (s out : List ℕ) (i : ℕ) → 2 * i + 1 < length s → i < length out
    → set (unhex (take (2 * i) s) ++ drop i out) i (value (get_or s (2 * i) 0) * 16 + value (get_or s (2 * i + 1) 0)) ≡ unhex (take (2 * (i + 1)) s) ++ drop (i + 1) out
unfolding unhex
unhex_store [] out i h k = absurd (not-suc-le-zero h)
unhex_store (c ∷ []) out i h k = absurd (omega arith)
unhex_store (c ∷ d ∷ s) [] i h k = absurd (not-suc-le-zero k)
unhex_store (c ∷ d ∷ s) (x ∷ out) zero h k = refl
unhex_store (c ∷ d ∷ s) (x ∷ out) (suc i) h k =
    let e₁ : 2 * suc i + 1 ≡ suc (suc (2 * i + 1)) = omega arith in
    let e₂ : 2 * suc i ≡ suc (suc (2 * i)) = omega arith in
    let e₃ : 2 * (suc i + 1) ≡ suc (suc (2 * (i + 1))) = omega arith in
    let e₄ : suc i + 1 ≡ suc (i + 1) = omega arith in
    rw (e₁, e₂, e₃, e₄) (ap (λ (l : List ℕ). (value c * 16 + value d) ∷ l) (unhex_store s out i (omega arith) (le_of_suc-le-suc k)))

-- ---- the two directions undo each other

pub length-hex : (bs : List ℕ) → length (hex bs) ≡ 2 * length bs
unfolding hex
length-hex [] = refl
length-hex (b ∷ bs) = omega (arith, length-hex bs)

-- bytes come back from their digits
pub unhex-hex : (bs : List ℕ) → ((i : ℕ) → get_or bs i 0 < 256) → unhex (hex bs) ≡ bs
unfolding hex unhex
unhex-hex [] all = refl
unhex-hex (b ∷ bs) all =
    let byte : b < 256 = all 0 in
    let rest : unhex (hex bs) ≡ bs = unhex-hex bs (λ i. all (suc i)) in
    simp (value-digit (b / 16) (omega arith), value-digit (b % 16) (omega arith), rest) (ap (λ (n : ℕ). n ∷ bs) (omega arith))

all_hex : (bs : List ℕ) → ((i : ℕ) → get_or bs i 0 < 256) → all_digits (hex bs) ≡ true
unfolding hex all_digits
all_hex [] all = refl
all_hex (b ∷ bs) all =
    let byte : b < 256 = all 0 in
    simp (digit_is (b / 16) (omega arith), digit_is (b % 16) (omega arith)) (all_hex bs (λ i. all (suc i)))

-- the digits of bytes are hexadecimal
pub is_hex-hex : (bs : List ℕ) → ((i : ℕ) → get_or bs i 0 < 256) → is_hex (hex bs) ≡ true
unfolding is_hex
is_hex-hex bs all = simp (eq-eqb (length (hex bs) % 2) 0 (omega (arith, length-hex bs))) (all_hex bs all)

pairs : (s : List ℕ) → length s % 2 ≡ 0 → all_digits s ≡ true → hex (unhex s) ≡ s
unfolding hex unhex all_digits
pairs [] e h = refl
pairs (c ∷ []) e h = absurd (omega arith)
pairs (c ∷ d ∷ s) e h =
    let p = (and-eq-true_iff (is_digit c) (is_digit d && all_digits s)).0 h in
    let q = (and-eq-true_iff (is_digit d) (all_digits s)).0 p.1 in
    let l = value_lt d q.0 in
    let high : (value c * 16 + value d) / 16 ≡ value c = omega arith in
    let low : (value c * 16 + value d) % 16 ≡ value d = omega arith in
    let rest : hex (unhex s) ≡ s = pairs s (omega arith) q.1 in
    simp (high, low, digit_value c p.0, digit_value d q.0, rest)

-- hexadecimal text comes back from its bytes
pub hex-unhex : (s : List ℕ) → is_hex s ≡ true → hex (unhex s) ≡ s
hex-unhex s e = pairs s (even_digits s e).0 (even_digits s e).1

-- ---- a byte that is no digit does not stand among digits

pub before_digits : (b : ℕ) (s : List ℕ) → is_digit b ≡ false → all_digits s ≡ true → before b s ≡ s
unfolding before all_digits
before_digits b [] n e = refl
before_digits b (c ∷ s) n e =
    let h = (and-eq-true_iff (is_digit c) (all_digits s)).0 e in
    let other : c ≡ b → ⊥ = λ same. let z : ◌≡◌ {A = ℕ} 0 1 = cc (h.0, ap is_digit same) in omega arith in
    rw (ne_eqb c b other) (ap (λ (l : List ℕ). c ∷ l) (before_digits b s n h.1))

-- so they are one part
pub split_digits : (b : ℕ) (s : List ℕ) → is_digit b ≡ false → all_digits s ≡ true → split b s ≡ s ∷ []
split_digits b s n e = split_none b [] s (omega (arith, ap length (before_digits b s n e)))

-- ---- what the answers tell

-- a byte for two characters
pub length-unhex : (s : List ℕ) → length (unhex s) ≡ length s / 2
unfolding unhex
length-unhex [] = refl
length-unhex (c ∷ []) = refl
length-unhex (c ∷ d ∷ s) = omega (arith, length-unhex s)

-- so many bytes of what `decode` leaves are those of the text
pub decoded_whole : (s out : List ℕ) → take (length s / 2) (unhex s ++ drop (length s / 2) out) ≡ unhex s
decoded_whole s out = take_at (unhex s) (drop (length s / 2) out) (length s / 2) (length-unhex s)

taken : (t : Bool) (k n : ℕ) → cond t (Some k) None ≡ Some n → (t ≡ true) × (n ≡ k)
taken true k n e = (refl, cc)
taken false k n e = let z : ◌≡◌ {A = ℕ} 0 1 = cc in absurd (omega arith)

-- the text is hexadecimal, and its bytes have room
pub decoded_is : (s out : List ℕ) (n : ℕ) → decoded_of s out ≡ Some n → (is_hex s ≡ true) × (n ≡ length s / 2) × (n ≤ length out)
unfolding decoded_of
decoded_is s out n e =
    let t = taken (is_hex s && leb (length s / 2) (length out)) (length s / 2) n e in
    let h = (and-eq-true_iff (is_hex s) (leb (length s / 2) (length out))).0 t.0 in
    let room = leb-true (length s / 2) (length out) h.1 in
    (h.0, t.1, omega arith)

refused : (t : Bool) (k : ℕ) → cond (t && true) (Some k) None ≡ None → t ≡ false
refused true k e = let z : ◌≡◌ {A = ℕ} 0 1 = cc in absurd (omega arith)
refused false k e = refl

-- the text is not hexadecimal, where its bytes would have room
pub decoded_not : (s out : List ℕ) → decoded_of s out ≡ None → length s / 2 ≤ length out → is_hex s ≡ false
unfolding decoded_of
decoded_not s out e h = refused (is_hex s) (length s / 2) (rw (le-leb (length s / 2) (length out) h) at e)

ended : (t : Bool) (d : Option ℕ) (n : ℕ) → cond t d None ≡ Some n → (t ≡ true) × (d ≡ Some n)
ended true d n e = (refl, e)
ended false d n e = let z : ◌≡◌ {A = ℕ} 0 1 = cc in absurd (omega arith)

-- the field is hexadecimal, has an end, and its bytes have room
pub field_is : (b : ℕ) (s out : List ℕ) (n : ℕ) → field_of b s out ≡ Some n
    → (is_hex (before b s) ≡ true) × (length (before b s) ≡ 2 * n) × (2 * n < length s) × (n ≤ length out)
unfolding field_of
field_is b s out n e =
    let t = ended (ltb (length (before b s)) (length s)) (decoded_of (before b s) out) n e in
    let d = decoded_is (before b s) out n t.1 in
    let short = ltb-true (length (before b s)) (length s) t.0 in
    let even = (even_digits (before b s) d.0).0 in
    (d.0, omega arith, omega arith, d.2)

not_ended : (t : Bool) (d : Option ℕ) → cond t d None ≡ None → (t ≡ false) ⊎ (d ≡ None)
not_ended true d e = inr e
not_ended false d e = inl refl

-- there is no end, or what stands in front of it is not hexadecimal
pub field_not : (b : ℕ) (s out : List ℕ) → field_of b s out ≡ None → length s / 2 ≤ length out → (length s ≤ length (before b s)) ⊎ (is_hex (before b s) ≡ false)
unfolding field_of
field_not b s out e h =
    let shorter = before_le b s in
    ⊎_elim (λ t. inl (ltb-false (length (before b s)) (length s) t)) (λ d. inr (decoded_not (before b s) out d (omega arith)))
    (not_ended (ltb (length (before b s)) (length s)) (decoded_of (before b s) out) e)
