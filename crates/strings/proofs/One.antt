-- A test that exactly one passes has the count 1, among numbers and among byte strings; a cipher of n bytes has one preimage of each string.
-- Assumes nothing.
use Prim.Native.Nat.{ℕ, zero, suc, ◌+◌, ◌^◌, ◌<◌}
use mathlib.Core.Path.{◌≡◌, refl, sym, ap, ◌∙◌}
use mathlib.Core.Bool.{Bool, true, false, ◌&&◌}
use mathlib.Core.List.{List, [], ◌∷◌, ◌++◌}
use mathlib.Core.Logic.{⊎_elim}
use native.Mathlib.Nat.{eq-or-lt_of_le, le_of_suc-le-suc, not-suc-le-zero, mod-eq_of_lt}
use native.Mathlib.Omega.{arith}
use lib.ListN.{length, take, drop, length-append, length-drop, take-append-drop}
use lib.Seq.{take_at, drop_at, length-take-le}
use Rattle.strings.specs.Bytes.{Bytes, OfLength, number, bytes}
use Rattle.strings.specs.One.{ExactlyOne, tally, count, OneString, OnePreimage}
use Rattle.strings.specs.Cipher.{Cipher}
use Rattle.strings.proofs.Bytes.{below_append, below_take, below_drop, length-bytes, bytes_below, number_below, number-bytes, bytes-number}
use Rattle.strings.proofs.Equal.{both, equal_refl, equal_true}

below_nil : Bytes []
below_nil i = omega arith

empty : (s : List ℕ) → length s ≡ 0 → s ≡ []
empty [] h = refl
empty (a ∷ s) h = absurd (omega (arith, h))

tally_none : (t : Bool) → (t ≡ true → ⊥) → tally t ≡ 0
unfolding tally
tally_none true h = absurd (h refl)
tally_none false h = refl

tally_one : (t : Bool) → t ≡ true → tally t ≡ 1
unfolding tally
tally_one t e = rw e

count_none : (test : ℕ → Bool) (n : ℕ) → ((v : ℕ) → v < n → test v ≡ true → ⊥) → count test n ≡ 0
unfolding count
count_none test zero h = refl
count_none test (suc n) h =
    rw (tally_none (test n) (h n (omega arith)), count_none test n (λ v l. h v (omega arith)))

pub count_one : (test : ℕ → Bool) (n a : ℕ) → ExactlyOne (λ v. v < n) test a → count test n ≡ 1
unfolding count
count_one test zero a one = absurd (not-suc-le-zero one.among)
count_one test (suc n) a one =
    ⊎_elim
    (λ e. rw (tally_one (test n) (rw e at one.passes), count_none test n (λ v l t. omega (arith, one.only v (omega arith) t))))
    (λ l.
    rw (
      tally_none (test n) (λ t. omega (arith, one.only n (omega arith) t)),
      count_one test n a (record { among = l; passes = one.passes; only = λ b k. one.only b (omega arith) }),
    ))
    (eq-or-lt_of_le (le_of_suc-le-suc one.among))

-- Strings of n bytes are the numbers below 256 ^ n.
pub count_strings : (test : List ℕ → Bool) (n : ℕ) (s : List ℕ) → ExactlyOne (OfLength n) test s
    → count (λ v. test (bytes n v)) (256 ^ n) ≡ 1
count_strings test n s one =
    let back : bytes n (number s) ≡ s = rw one.among.0 at (bytes-number s one.among.1) in
    count_one (λ v. test (bytes n v)) (256 ^ n) (number s) (record {
      among = rw one.among.0 at (number_below s one.among.1);
      passes = rw back one.passes;
      only = λ v l t. sym (mod-eq_of_lt l) ∙ sym (number-bytes n v)
          ∙ ap number (one.only (bytes n v) (length-bytes n v, bytes_below n v) t);
    })

pub one_string : {n : ℕ} {test : List ℕ → Bool} {s : List ℕ} → ExactlyOne (OfLength n) test s → OneString n test s
one_string {n} {test} {s} one = record { one = one; counted = count_strings test n s one }

-- A cipher of n bytes sends exactly one string of n bytes to each.
pub one_preimage : {n : ℕ} {f g : List ℕ → List ℕ} → Cipher n f g → (s : List ℕ) → OfLength n s → OnePreimage n f s (g s)
one_preimage {n} {f} {g} c s h =
    one_string (record {
      among = c.inverse_keeps s h;
      passes = rw (c.undoes s h) (equal_refl s);
      only = λ t k e. sym (c.undone t k) ∙ ap g (equal_true (f t) s e);
    })

-- ---- tests of the parts of a string

-- One string passes each of two tests, of the first m bytes and of the n behind them: one passes both.
pub two_parts : {m n : ℕ} {f g : List ℕ → Bool} {s t : List ℕ} → OneString m f s → OneString n g t
    → OneString (m + n) (λ u. f (take m u) && g (drop m u)) (s ++ t)
two_parts {m} {n} {f} {g} {s} {t} first second =
    let a = first.one in
    let b = second.one in
    one_string (record {
      among = (rw (length-append, a.among.0, b.among.0), below_append s t a.among.1 b.among.1);
      passes = rw (take_at s t m a.among.0, drop_at s t m a.among.0, a.passes) b.passes;
      only = λ u h e.
          let passed = both (f (take m u)) (g (drop m u)) e in
          let front = a.only (take m u) (length-take-le m u (omega (arith, h.0)), below_take m u h.1) passed.0 in
          let behind = b.only (drop m u) (rw length-drop (omega (arith, h.0)), below_drop m u h.1) passed.1 in
          sym (take-append-drop m u) ∙ rw (front, behind);
    })

-- One string of no byte passes the test that all pass.
pub no_part : OneString 0 (λ u. true) []
no_part = one_string (record { among = (refl, below_nil); passes = refl; only = λ u h e. empty u h.0 })

-- Another test that the same strings of n bytes pass.
pub same_test : {n : ℕ} {f g : List ℕ → Bool} {s : List ℕ} → ((u : List ℕ) → OfLength n u → f u ≡ true → g u ≡ true) → ((u : List ℕ) → OfLength n u → g u ≡ true → f u ≡ true)
    → OneString n f s → OneString n g s
same_test {n} {f} {g} {s} to from one =
    let a = one.one in
    one_string (record { among = a.among; passes = to s a.among a.passes; only = λ u h e. a.only u h (from u h e) })
