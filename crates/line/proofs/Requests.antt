-- What the fields of a line say, read one after the other: c is the command, and ps are those that were read behind it.
-- Assumes nothing.
use mathlib.Core.Path.{◌≡◌, refl, sym, ◌∙◌}
use mathlib.Core.Logic.{◌⊎◌, inl, inr, ⊎_elim}
use mathlib.Core.Bool.{Bool, true, false, cond, ◌&&◌, and-false}
use mathlib.Core.List.{List, [], ◌∷◌, ◌++◌}
use Prim.Native.Nat.{ℕ, suc, ◌+◌, ◌*◌, ◌/◌, ◌≤◌, ◌<◌}
use native.Mathlib.Nat.{not-suc-le-zero, le_of_suc-le-suc}
use native.Mathlib.Omega.{arith}
use lib.ListN.{length, drop, get_or}
use lib.Dec.{ltb, eqb}
use borrow.Author.Tests.{ltb-true, ltb-false, eqb-true, lt-leb, le-leb, eq-eqb, ne_eqb}
use Rattle.text.specs.Hex.{is_digit, is_hex, unhex}
use Rattle.text.specs.Part.{split_from, split}
use Rattle.text.specs.Inner.{before, field_of, decoded_of, decoded_in}
use Rattle.std.specs.Prelude.{None, Some}
use Rattle.text.proofs.Digits.{even_digits, split_digits, decoded_not, decoded_whole, field_is, field_not}
use Rattle.text.proofs.Parts.{split_none, split_first}
use Rattle.std.specs.Prelude.{Result, Ok, Err}
use Rattle.line.specs.Inner.{character, command_of, Field, Answered}
use Rattle.line.specs.declared.answering.NoResult.{NoResult}
use Rattle.line.specs.declared.answering.NoResult.TheVariants.{NotUnderstood}
use Rattle.line.specs.declared.answering.Command.{Command}
use Rattle.line.specs.declared.answering.Command.TheVariants.{Encipher, Decipher}
use Rattle.line.specs.Line as Line
use Rattle.line.specs.Line.{Request, Unknown, commanded, requested, request_of, refusal, reply_to, answer}

-- ---- lines that are not understood

-- one field behind the command, or two
few : (c : List ℕ) (ps : List (List ℕ)) (f : List ℕ) → length ps ≤ 1 → requested (c ∷ ps ++ f ∷ []) ≡ Unknown
unfolding requested
few c [] f h = refl
few c (a ∷ []) f h = refl
few c (a ∷ b ∷ ps) f h = absurd (not-suc-le-zero (le_of_suc-le-suc h))

-- four, or more
many : (c : List ℕ) (a b d : List ℕ) (ps : List (List ℕ)) → 0 < length ps → requested (c ∷ a ∷ b ∷ d ∷ ps) ≡ Unknown
unfolding requested
many c a b d [] h = absurd (not-suc-le-zero h)
many c a b d (e ∷ ps) h = refl

-- a field that is not hexadecimal
not_hex : (c : List ℕ) (ps qs : List (List ℕ)) (f : List ℕ) → is_hex f ≡ false → requested (c ∷ ps ++ f ∷ qs) ≡ Unknown
unfolding requested
not_hex c [] [] f e = refl
not_hex c [] (a ∷ []) f e = refl
not_hex c [] (a ∷ b ∷ []) f e = simp e
not_hex c [] (a ∷ b ∷ d ∷ qs) f e = refl
not_hex c (a ∷ []) [] f e = refl
not_hex c (a ∷ []) (b ∷ []) f e = simp (e, and-false)
not_hex c (a ∷ []) (b ∷ d ∷ qs) f e = refl
not_hex c (a ∷ b ∷ []) [] f e = simp (e, and-false)
not_hex c (a ∷ b ∷ []) (d ∷ qs) f e = refl
not_hex c (a ∷ b ∷ d ∷ []) qs f e = refl
not_hex c (a ∷ b ∷ d ∷ g ∷ ps) qs f e = refl

-- the parts of a string are one or more
some : (t : Bool) (p : List ℕ) (ps qs : List (List ℕ)) → 0 < length qs → 0 < length (cond t (p ∷ ps) qs)
some true p ps qs h = omega arith
some false p ps qs h = h

parts : (b : ℕ) (u xs : List ℕ) → 0 < length (split_from b u xs)
unfolding split_from
parts b u [] = omega arith
parts b u (x ∷ xs) = some (eqb x b) u (split_from b [] xs) (split_from b (u ++ x ∷ []) xs) (parts b (u ++ x ∷ []) xs)

-- whether a separator follows
follows : (s : List ℕ) → (length (before 32 s) < length s) ⊎ (length s ≤ length (before 32 s))
follows s = by (ltb (length (before 32 s)) (length s)) refl
  where
    by : (t : Bool) → ltb (length (before 32 s)) (length s) ≡ t → (length (before 32 s) < length s) ⊎ (length s ≤ length (before 32 s))
    by true e = inl (ltb-true _ _ e)
    by false e = inr (ltb-false _ _ e)

-- ---- the key and the tweak, behind which a space and further fields stand

pub field_refused : (c : List ℕ) (ps : List (List ℕ)) (s out : List ℕ) → length ps ≤ 1 → field_of 32 s out ≡ None → length s / 2 ≤ length out
    → requested (c ∷ ps ++ split 32 s) ≡ Unknown
field_refused c ps s out l e room =
    ⊎_elim (λ h. ⊎_elim (λ n. absurd (omega arith)) (λ n. rw (split_first 32 [] s h) (not_hex c ps _ (before 32 s) n)) (field_not 32 s out e room))
    (λ h. rw (split_none 32 [] s h) (few c ps s l)) (follows s)

pub field_read : (s out left : List ℕ) (n : ℕ) → field_of 32 s out ≡ Some n → left ≡ decoded_in (Some n) (before 32 s) out → length left ≡ length out → Field s n left
unfolding decoded_in
field_read s out left n e l same =
    let f = field_is 32 s out n e in
    let half : n ≡ length (before 32 s) / 2 = omega arith in
    let behind : suc (length (before 32 s)) ≡ 2 * n + 1 = omega arith in
    record {
      parts = rw (← behind) (split_first 32 [] s (omega arith));
      within = omega arith;
      digits = f.0;
      decoded = rw (l, half) (decoded_whole (before 32 s) out);
      fits = omega arith;
    }

-- ---- the message, behind which nothing stands

pub message_refused : (c : List ℕ) (a b s out : List ℕ) → decoded_of s out ≡ None → length s / 2 ≤ length out → requested (c ∷ a ∷ b ∷ split 32 s) ≡ Unknown
message_refused c a b s out e room =
    ⊎_elim (λ h. rw (split_first 32 [] s h) (many c a b _ _ (parts 32 [] _)))
    (λ h. rw (split_none 32 [] s h) (not_hex c (a ∷ b ∷ []) [] s (decoded_not s out e room))) (follows s)

space : is_digit 32 ≡ false
unfolding is_digit
space = refl

pub message_read : (c a b s : List ℕ) → is_hex a ≡ true → is_hex b ≡ true → is_hex s ≡ true → requested (c ∷ a ∷ b ∷ split 32 s) ≡ commanded c (unhex a) (unhex b) (unhex s)
unfolding requested
message_read c a b s h k l = rw (split_digits 32 s space (even_digits s l).1, h, k, l) refl

-- ---- the command

pub command_none : (c : ℕ) (why : NoResult) → command_of c ≡ Err why → (why ≡ NotUnderstood) × ((key tweak message : List ℕ) → commanded (c ∷ []) key tweak message ≡ Unknown)
unfolding commanded
command_none c why = by (eqb c 69) (eqb c 68)
  where
    by : (t u : Bool) → cond t (Ok Encipher) (cond u (Ok Decipher) (Err NotUnderstood)) ≡ Err why
        → (why ≡ NotUnderstood) × ((key tweak message : List ℕ) → cond t (Line.Encipher key tweak message) (cond u (Line.Decipher key tweak message) Unknown) ≡ Unknown)
    by true u e = let z : ◌≡◌ {A = ℕ} 0 1 = cc in absurd (omega arith)
    by false true e = let z : ◌≡◌ {A = ℕ} 0 1 = cc in absurd (omega arith)
    by false false e = (cc, λ key tweak message. refl)

pub command_some : (c : ℕ) (command : Command) → command_of c ≡ Ok command → c ≡ character command
command_some c command = by (eqb c 69) (eqb c 68) refl refl
  where
    by : (t u : Bool) → eqb c 69 ≡ t → eqb c 68 ≡ u → cond t (Ok Encipher) (cond u (Ok Decipher) (Err NotUnderstood)) ≡ Ok command → c ≡ character command
    by true u e f h = let k : Encipher ≡ command = cc in rw (← k) (eqb-true c 69 e)
    by false true e f h = let k : Decipher ≡ command = cc in rw (← k) (eqb-true c 68 f)
    by false false e f h = let z : ◌≡◌ {A = ℕ} 0 1 = cc in absurd (omega arith)

-- ---- the whole line

-- a command that asks for nothing
pub no_command : (c : List ℕ) (ps : List (List ℕ)) → ((key tweak message : List ℕ) → commanded c key tweak message ≡ Unknown) → requested (c ∷ ps) ≡ Unknown
unfolding requested
no_command c [] h = refl
no_command c (a ∷ []) h = refl
no_command c (a ∷ b ∷ []) h = refl
no_command c (a ∷ b ∷ d ∷ []) h = rw (h (unhex a) (unhex b) (unhex d)) (same (is_hex a && is_hex b && is_hex d))
  where
    same : (t : Bool) → cond t Unknown Unknown ≡ Unknown
    same true = refl
    same false = refl
no_command c (a ∷ b ∷ d ∷ e ∷ ps) h = refl

none : (ps : List (List ℕ)) → requested ([] ∷ ps) ≡ Unknown
unfolding commanded
none ps = no_command [] ps (λ k t m. refl)

-- a command of two characters or more, however the line goes on
long : (a b : ℕ) (u xs : List ℕ) → requested (split_from 32 (a ∷ b ∷ u) xs) ≡ Unknown
unfolding split_from commanded
long a b u [] = no_command (a ∷ b ∷ u) [] (λ k t m. refl)
long a b u (x ∷ xs) = by (eqb x 32) (no_command (a ∷ b ∷ u) (split_from 32 [] xs) (λ k t m. refl)) (long a b (u ++ x ∷ []) xs)
  where
    by : (t : Bool) → requested ((a ∷ b ∷ u) ∷ split_from 32 [] xs) ≡ Unknown → requested (split_from 32 (a ∷ b ∷ u ++ x ∷ []) xs) ≡ Unknown
        → requested (cond t ((a ∷ b ∷ u) ∷ split_from 32 [] xs) (split_from 32 (a ∷ b ∷ u ++ x ∷ []) xs)) ≡ Unknown
    by true h k = h
    by false h k = k

-- the first character is a space, or stands in the command
first : (c : ℕ) (rest : List ℕ) (q : Request) → (c ≡ 32 → requested ([] ∷ split 32 rest) ≡ q) → requested (split_from 32 (c ∷ []) rest) ≡ q
    → requested (split 32 (c ∷ rest)) ≡ q
unfolding split_from
first c rest q h k = by (eqb c 32) refl
  where
    by : (t : Bool) → eqb c 32 ≡ t → requested (cond t ([] ∷ split 32 rest) (split_from 32 (c ∷ []) rest)) ≡ q
    by true e = h (eqb-true c 32 e)
    by false e = k

pub line_short : (line : List ℕ) → length line < 2 → requested (split 32 line) ≡ Unknown
unfolding split_from requested
line_short [] h = refl
line_short (c ∷ []) h = first c [] Unknown (λ z. refl) refl
line_short (c ∷ d ∷ rest) h = absurd (omega arith)

pub line_other : (line : List ℕ) → 2 ≤ length line → (get_or line 1 0 ≡ 32 → ⊥) → requested (split 32 line) ≡ Unknown
unfolding split_from
line_other [] h n = absurd (omega arith)
line_other (c ∷ []) h n = absurd (omega arith)
line_other (c ∷ d ∷ rest) h n = first c (d ∷ rest) Unknown (λ z. none (split 32 (d ∷ rest))) (rw (ne_eqb d 32 n) (long c d [] rest))

pub line_fields : (line : List ℕ) → 2 ≤ length line → get_or line 1 0 ≡ 32
    → requested (split 32 line) ≡ requested ((get_or line 0 0 ∷ []) ∷ split 32 (drop 2 line))
unfolding split_from commanded
line_fields [] h e = absurd (omega arith)
line_fields (c ∷ []) h e = absurd (omega arith)
line_fields (c ∷ d ∷ rest) h e =
    first c (d ∷ rest) _ (λ z. none (split 32 (d ∷ rest)) ∙ sym (no_command (c ∷ []) (split 32 rest) (λ k t m. rw z refl))) (rw (eq-eqb d 32 e) refl)

pub request_fields : (line : List ℕ) → length line ≤ 8300 → request_of line ≡ requested (split 32 line)
unfolding request_of
request_fields line h = rw (le-leb (length line) 8300 h) refl

pub request_long : (line : List ℕ) → 8300 < length line → request_of line ≡ Unknown
unfolding request_of
request_long line h = rw (lt-leb (length line) 8300 h) refl

-- what is not understood has number 9, and nothing is written
pub not_understood : {request : Request} {result : Result ℕ NoResult} (out : List ℕ) → request ≡ Unknown → result ≡ Err NotUnderstood → Answered request result out out
unfolding reply_to
not_understood out e f = rw (e, f) (refl, refl)

pub answer_long : (line : List ℕ) → 8300 < length line → answer line ≡ refusal 9
unfolding answer reply_to
answer_long line h = rw (request_long line h) refl
