-- The words of a key: their bytes, the round constants, and KeyExpansion word by word.
-- Assumes nothing.
use Rattle.std.proofs.Common.{◌≡◌, ℕ, zero, suc, ◌+◌, ◌-◌, ◌*◌, ◌/◌, ◌%◌, ◌^◌, ◌<◌, ◌≤◌, ◌&&◌, eqb, ltb, List, [], ◌∷◌, ◌++◌, length, get_or, drop, set, replicate, sym, refl, ap, ◌∙◌, append_assoc, lt_of_lt_of_le, le_of_suc-le-suc, not-suc-le-zero, add-zero, add_assoc, mod-eq_of_lt, mul-le-mul_left, lt_of_not-le, mul-zero, zero-add, arith, length-append, get_or-drop, drop-drop, le-ltb, lt-ltb}
use native.Mathlib.Nat.{mul-add-div, mul-add-mod_self_left, div-eq_of_lt}
use lib.ListN.{length-replicate, get_or-append}
use lib.Seq.{set_at}
use Rattle.std.specs.Int.{w32, from_be_bytes}
use Rattle.strings.specs.Xor.{◌⊕◌, xor_bytes}
use Rattle.strings.specs.Bytes.{Bytes, number, bytes}
use Rattle.blocks.specs.Field.{power}
use Rattle.primitives.specs.Aes.{◌•◌, word, byte_of, rot_word, sub_word, rcon, choose, temp, own_word, key_word, key_words}
use Rattle.strings.specs.Inner.{padded}
use Rattle.strings.proofs.Xor.{xor_zero}
use Rattle.strings.proofs.Bytes.{length-bytes, bytes_below, bytes-number, bytes_xor, be_number}
use Rattle.strings.proofs.Place.{number_fits}

pub byte_of_below : (w i : ℕ) → byte_of w i < 256
unfolding byte_of
byte_of_below w i = bytes_below 4 w i

sum_at : (s t : List ℕ) (i : ℕ) → length s ≡ length t → get_or (xor_bytes s t) i 0 ≡ get_or s i 0 ⊕ get_or t i 0
unfolding xor_bytes
sum_at [] [] i e = sym (xor_zero 0)
sum_at [] (b ∷ t) i e = absurd (omega arith)
sum_at (a ∷ s) [] i e = absurd (omega arith)
sum_at (a ∷ s) (b ∷ t) zero e = refl
sum_at (a ∷ s) (b ∷ t) (suc i) e = sum_at s t i (omega arith)

pub byte_of_xor : (a b i : ℕ) → byte_of (a ⊕ b) i ≡ byte_of a i ⊕ byte_of b i
unfolding byte_of
byte_of_xor a b i = ap (λ (s : List ℕ). get_or s i 0) (bytes_xor 4 a b) ∙ sum_at (bytes 4 a) (bytes 4 b) i (length-bytes 4 a ∙ sym (length-bytes 4 b))

four : (a b c d : ℕ) → a < 256 → b < 256 → c < 256 → d < 256 → Bytes (a ∷ b ∷ c ∷ d ∷ [])
four a b c d ha hb hc hd zero = ha
four a b c d ha hb hc hd (suc zero) = hb
four a b c d ha hb hc hd (suc (suc zero)) = hc
four a b c d ha hb hc hd (suc (suc (suc zero))) = hd
four a b c d ha hb hc hd (suc (suc (suc (suc i)))) = omega arith

pub word_bytes : (a b c d : ℕ) → a < 256 → b < 256 → c < 256 → d < 256 → bytes 4 (number (a ∷ b ∷ c ∷ d ∷ [])) ≡ a ∷ b ∷ c ∷ d ∷ []
word_bytes a b c d ha hb hc hd = bytes-number (a ∷ b ∷ c ∷ d ∷ []) (four a b c d ha hb hc hd)

pub rot_bytes : (w : ℕ) → bytes 4 (rot_word w) ≡ byte_of w 1 ∷ byte_of w 2 ∷ byte_of w 3 ∷ byte_of w 0 ∷ []
unfolding rot_word word
rot_bytes w = word_bytes (byte_of w 1) (byte_of w 2) (byte_of w 3) (byte_of w 0) (byte_of_below w 1) (byte_of_below w 2) (byte_of_below w 3) (byte_of_below w 0)

-- The four bytes from place 4 i on are word i of the key itself.
module _ (i : ℕ) (s : List ℕ) (h : Bytes s) where
  four_fit : number (padded 4 (drop (4 * i) s)) < 256 ^ 4
  four_fit = number_fits 4 4 (4 * i) s h (omega arith)

  four_small : number (padded 4 (drop (4 * i) s)) < 2 ^ 64
  four_small = lt_of_lt_of_le four_fit (omega arith)

  pub read_own : number (padded 4 (drop (4 * i) s)) % 2 ^ 64 ≡ own_word s i
  unfolding own_word word padded
  read_own = mod-eq_of_lt four_small ∙ simp (get_or-drop, drop-drop, add-zero, add_assoc)

  pub read_fits : {r : ℕ} → r ≡ number (padded 4 (drop (4 * i) s)) % 2 ^ 64 → r < 2 ^ 32
  read_fits e = rw (e, mod-eq_of_lt four_small) four_fit

-- x, 2 x, 4 x, .. in the field of bytes, n of them: what the round constants are tested to be.
unfoldable pub doubles : ℕ → ℕ → List ℕ
doubles zero x = []
doubles (suc n) x = x ∷ doubles n (0x02 • x)

doubled : (n k j : ℕ) → j < n → get_or (doubles n (power 1 ◌•◌ 0x02 k)) j 0 ≡ power 1 ◌•◌ 0x02 (k + j)
unfolding doubles power
doubled zero k j l = absurd (not-suc-le-zero l)
doubled (suc n) k zero l = rw add-zero
doubled (suc n) k (suc j) l =
    let e : k + suc j ≡ suc k + j = omega arith in
    rw e (doubled n (suc k) j (le_of_suc-le-suc l))

pub constant : {n : ℕ} {t : List ℕ} → t ≡ doubles n 1 → (j : ℕ) → j < n → get_or t j 0 ≡ power 1 ◌•◌ 0x02 j
unfolding power
constant {n} e j l = rw e (rw zero-add at (doubled n 0 j l))

-- What is added to the word Nk places back to give the word Nk * j + m.
pub temp_place : (Nk j m t : ℕ) → m < Nk
    → temp Nk (Nk * j + m) t ≡ choose (eqb m 0) (sub_word (rot_word t) ⊕ rcon j) (choose (ltb 6 Nk && eqb m 4) (sub_word t) t)
unfolding temp
temp_place Nk j m t h =
    let pos : 0 < Nk = omega arith in
    let rest : (Nk * j + m) % Nk ≡ m = mul-add-mod_self_left Nk j m ∙ mod-eq_of_lt h in
    let whole : (Nk * j + m) / Nk ≡ j = mul-add-div pos j m ∙ ap (λ (q : ℕ). j + q) (div-eq_of_lt h) ∙ add-zero j in
    rw (rest, whole)

-- The words of a key one after the other, in an array of n with zeros behind them.
length-key_words : (Nk : ℕ) (key : List ℕ) (i : ℕ) → length (key_words Nk key i) ≡ i
unfolding key_words
length-key_words Nk key zero = refl
length-key_words Nk key (suc i) = rw (length-append, length-key_words Nk key i) (omega arith)

abbrev pub Held : (n Nk : ℕ) → List ℕ → (i : ℕ) → List ℕ → Type 0
Held n Nk key i words = words ≡ key_words Nk key i ++ replicate (n - i) 0

module _ (n Nk : ℕ) (key : List ℕ) (i : ℕ) (words : List ℕ) (held : Held n Nk key i words) where
  read_held : (j : ℕ) → j < i → get_or words j 0 ≡ get_or (key_words Nk key i) j 0
  read_held j l = rw held (get_or-append (key_words Nk key i) (replicate (n - i) 0) 0 j (rw (length-key_words Nk key i) l))

  pub length_held : i ≤ n → length words ≡ n
  length_held l = rw (held, length-append, length-key_words Nk key i, length-replicate) (omega arith)

  module _ (v : ℕ) (fits : i < n) where
    put : v ≡ key_word Nk key i (key_words Nk key i) → Held n Nk key (i + 1) (set words i v)
    unfolding key_words
    put e =
        let more : n - i ≡ suc (n - (i + 1)) = omega arith in
        let next : i + 1 ≡ suc i = omega arith in
        rw (held, more, next, ← e)
        (set_at (key_words Nk key i) 0 (replicate (n - suc i) 0) v i (length-key_words Nk key i)
        ∙ sym (append_assoc (key_words Nk key i) (v ∷ []) (replicate (n - suc i) 0)))

    -- One of the key's own, and one of those that follow.
    pub put_own : i < Nk → v ≡ own_word key i → Held n Nk key (i + 1) (set words i v)
    unfolding key_word
    put_own l e = put (rw (lt-ltb i Nk l) e)

    pub put_next : 0 < Nk → Nk ≤ i → v ≡ get_or words (i - Nk) 0 ⊕ temp Nk i (get_or words (i - 1) 0) → Held n Nk key (i + 1) (set words i v)
    unfolding key_word
    put_next pos l e = put (rw (le-ltb i Nk l, ← read_held (i - Nk) (omega arith), ← read_held (i - 1) (omega arith)) e)

-- Word i, at the place Nk * j + m behind the key's own words, has a round constant, where a key has at least four words.
pub groups : (Nk j m : ℕ) {i : ℕ} → 4 ≤ Nk → m < Nk → i ≡ Nk * j + m → Nk ≤ i → i < 4 * (Nk + 7) → (1 ≤ j) × (j ≤ 10)
groups Nk zero m four h e own end = absurd (omega (arith, mul-zero Nk))
groups Nk (suc j) m four h e own end =
    let few : suc j < 11 = lt_of_not-le (λ (over : 11 ≤ suc j). omega (arith, mul-le-mul_left Nk over)) in
    (omega arith, omega arith)

-- What std makes of four bytes is their word.
pub be_word : (a b c d : ℕ) → from_be_bytes w32 (a ∷ b ∷ c ∷ d ∷ []) ≡ word a b c d
unfolding word
be_word a b c d = be_number (a ∷ b ∷ c ∷ d ∷ [])
