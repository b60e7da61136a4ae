-- Number 9 is answered to no line that is understood: the digits of a result begin with no letter of `no`, and 9 is no number of the library.
-- Assumes nothing.
use Prim.Native.Nat.{ℕ, zero, suc, ◌+◌, ◌-◌, ◌/◌, ◌%◌, ◌<◌}
use mathlib.Core.Path.{◌≡◌, refl, ap}
use mathlib.Core.Bool.{false≢true}
use mathlib.Core.List.{List, [], ◌∷◌}
use mathlib.Core.Logic.{⊎_elim}
use native.Mathlib.Nat.{mod-lt, mod-eq_of_lt, eq-zero-or-pos}
use native.Mathlib.Omega.{arith}
use borrow.Author.Tests.{lt-ltb, le-ltb}
use lib.Dec.{lit<}
use lib.ListN.{get_or}
use Rattle.strings.specs.Bytes.{bytes}
use Rattle.std.specs.Prelude.{Ok, Err}
use Rattle.strings.specs.Call.{Answer, number_of}
use Rattle.strings.proofs.Refusals.{refusal_range, number_range}
use Rattle.hch.specs.Hch.{encipher, decipher, enciphered_by, deciphered_by, enciphered, deciphered}
use Rattle.hch.specs.Call.{answer_of}
use Rattle.text.specs.Hex.{digit, is_digit, hex}
use Rattle.text.proofs.Digits.{digit_is}
use Rattle.line.specs.Line.{Request, Encipher, Decipher, Unknown, request_of, decimal, refusal, reply, reply_to, answer}

-- The first byte that HCH writes is a byte.
first_enciphered : (key tweak P : List ℕ) → get_or (enciphered key tweak P) 0 0 < 256
unfolding enciphered enciphered_by encipher bytes
first_enciphered key tweak P = mod-lt _ (lit< tt)

first_deciphered : (key tweak C : List ℕ) → get_or (deciphered key tweak C) 0 0 < 256
unfolding deciphered deciphered_by decipher bytes
first_deciphered key tweak C = mod-lt _ (lit< tt)

-- A number of at most two digits is written as 9 only if it is 9.
written_9 : (n : ℕ) → n < 100 → refusal n ≡ refusal 9 → n ≡ 9
unfolding refusal decimal
written_9 n h e = ⊎_elim
    (λ (two : 10 - n ≡ 0).
    let fifth : 48 + n % 10 ≡ 10 = rw (le-ltb n 10 (omega (arith, two))) at (ap (λ (s : List ℕ). get_or s 4 0) e) in
    absurd (omega (arith, fifth)))
    (λ (one : 0 < 10 - n).
    let less : n < 10 = omega (arith, one) in
    let same : n % 10 ≡ n = mod-eq_of_lt less in
    let fourth : 48 + n ≡ 57 = rw (lt-ltb n 10 less, same) at (ap (λ (s : List ℕ). get_or s 3 0) e) in
    omega (arith, fourth))
    (eq-zero-or-pos (10 - n))

not_9 : (n : ℕ) (work : List ℕ) → n < 100 → (n ≡ 9 → ⊥) → get_or work 0 0 < 256 → reply n work ≡ refusal 9 → ⊥
unfolding reply hex is_digit refusal
not_9 zero [] h other b e = omega (arith, ap (λ (s : List ℕ). get_or s 0 0) e)
not_9 zero (c ∷ cs) h other b e =
    let first : digit (c / 16) ≡ 110 = ap (λ (s : List ℕ). get_or s 0 0) e in
    false≢true (rw first at (digit_is (c / 16) (omega (arith, b))))
not_9 (suc n) work h other b e = other (written_9 (suc n) h e)

answer_not_9 : (a : Answer) → number_of a ≡ 9 → ⊥
answer_not_9 (Ok a) e = omega (arith, e)
answer_not_9 (Err why) e = (refusal_range why).2 e

asked : (r : Request) → reply_to r ≡ refusal 9 → r ≡ Unknown
unfolding reply_to
asked (Encipher key tweak message) e = absurd (not_9 _ _ (number_range (answer_of key tweak message)) (answer_not_9 (answer_of key tweak message)) (first_enciphered key tweak message) e)
asked (Decipher key tweak message) e = absurd (not_9 _ _ (number_range (answer_of key tweak message)) (answer_not_9 (answer_of key tweak message)) (first_deciphered key tweak message) e)
asked Unknown e = refl

pub line_9_only : (line : List ℕ) → answer line ≡ refusal 9 → request_of line ≡ Unknown
unfolding answer
line_9_only line e = asked (request_of line) e
