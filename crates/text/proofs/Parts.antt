-- Laws of `before` and `split_from`, by induction on the list, and of a line that goes on. Assumes nothing.
use mathlib.Core.Path.{◌≡◌, refl, sym, ap, ◌∙◌}
use mathlib.Core.Bool.{Bool, true, false, cond}
use mathlib.Core.List.{List, [], ◌∷◌, ◌++◌, append-nil, append_assoc}
use Prim.Native.Nat.{ℕ, suc, ◌+◌, ◌≤◌, ◌<◌, zero-le, suc-le-suc}
use native.Mathlib.Nat.{not-suc-le-zero, le_of_suc-le-suc, le_of_lt, add_assoc}
use native.Mathlib.Numerals.{add-one}
use native.Mathlib.Omega.{arith}
use lib.ListN.{length, take, drop, length-append}
use lib.Seq.{take-append-add}
use lib.Dec.{eqb, leb, ltb}
use borrow.Author.Tests.{eq-eqb, eqb-true, lt-leb, leb-false, ltb-true, ltb-false}
use Rattle.std.specs.List.{position_or_len}
use Rattle.std.proofs.lemmas.List.Recursion.{is_position_or_len}
use Rattle.strings.specs.Inner.{overwrite}
use Rattle.strings.proofs.Place.{length-overwrite, overwrite_past, overwrite-append}
use Rattle.text.specs.Part.{split_from}
use Rattle.text.specs.Inner.{before, line_with, kept_with}
use Rattle.std.specs.Prelude.{Option, Some, None, position}

-- its length is the place of the first b, or the length of the list
length_before : (b : ℕ) (xs : List ℕ) → length (before b xs) ≡ position_or_len (λ x. eqb x b) xs
unfolding before
length_before b xs = is_position_or_len (λ l. length (before b l)) (λ x. eqb x b) refl (λ x l. by (eqb x b) x (before b l)) xs
  where
    by : (t : Bool) (x : ℕ) (l : List ℕ) → length (cond t [] (x ∷ l)) ≡ cond t 0 (1 + length l)
    by true x l = refl
    by false x l = omega arith

-- so it is the place that `position` finds, and where there is none it is that of the list
found_at : (t : Bool) (k m n : ℕ) → ltb k m ≡ t → cond t (Some k) None ≡ Some n → (n ≡ k) × (k < m)
found_at true k m n e h = (cc, ltb-true k m e)
found_at false k m n e h = let z : ◌≡◌ {A = ℕ} 0 1 = cc in absurd (omega arith)

pub place_found : (b : ℕ) (xs : List ℕ) (n : ℕ) → position (λ x. eqb x b) xs ≡ Some n → (n ≡ length (before b xs)) × (length (before b xs) < length xs)
place_found b xs n h = found_at (ltb (length (before b xs)) (length xs)) _ (length xs) n refl (rw (← length_before b xs) at h)

none_at : (t : Bool) (k m : ℕ) → ltb k m ≡ t → cond t (Some k) None ≡ None → m ≤ k
none_at true k m e h = let z : ◌≡◌ {A = ℕ} 0 1 = cc in absurd (omega arith)
none_at false k m e h = ltb-false k m e

pub place_none : (b : ℕ) (xs : List ℕ) → position (λ x. eqb x b) xs ≡ None → length xs ≤ length (before b xs)
place_none b xs h = none_at (ltb (length (before b xs)) (length xs)) _ (length xs) refl (rw (← length_before b xs) at h)

shorter : (t : Bool) (x : ℕ) (xs ys : List ℕ) → length ys ≤ length xs → length (cond t [] (x ∷ ys)) ≤ suc (length xs)
shorter true x xs ys h = zero-le
shorter false x xs ys h = suc-le-suc h

-- it is no longer than the list
pub before_le : (b : ℕ) (xs : List ℕ) → length (before b xs) ≤ length xs
unfolding before
before_le b [] = zero-le
before_le b (x ∷ xs) = shorter (eqb x b) x xs (before b xs) (before_le b xs)

-- The part in front of the first b stands at the front. Each law goes by the test whether the first byte is b, its value t.
take_test : (t : Bool) (x : ℕ) (xs ys : List ℕ) → take (length ys) xs ≡ ys → take (length (cond t [] (x ∷ ys))) (x ∷ xs) ≡ cond t [] (x ∷ ys)
take_test true x xs ys e = refl
take_test false x xs ys e = ap (λ (l : List ℕ). x ∷ l) e

pub before-take : (b : ℕ) (xs : List ℕ) → take (length (before b xs)) xs ≡ before b xs
unfolding before
before-take b [] = refl
before-take b (x ∷ xs) = take_test (eqb x b) x xs (before b xs) (before-take b xs)

-- as long as the list: there is no b, and it is the list
all_test : (t : Bool) (x : ℕ) (xs ys : List ℕ) → (length xs ≤ length ys → ys ≡ xs) → suc (length xs) ≤ length (cond t [] (x ∷ ys)) → cond t [] (x ∷ ys) ≡ x ∷ xs
all_test true x xs ys all h = absurd (not-suc-le-zero h)
all_test false x xs ys all h = ap (λ (l : List ℕ). x ∷ l) (all (le_of_suc-le-suc h))

pub before_all : (b : ℕ) (xs : List ℕ) → length xs ≤ length (before b xs) → before b xs ≡ xs
unfolding before
before_all b [] h = refl
before_all b (x ∷ xs) h = all_test (eqb x b) x xs (before b xs) (before_all b xs) h

-- shorter than the list: b follows, and then the rest
found_test : (t : Bool) (b x : ℕ) (xs ys : List ℕ) → eqb x b ≡ t → (length ys < length xs → xs ≡ ys ++ b ∷ drop (suc (length ys)) xs)
    → length (cond t [] (x ∷ ys)) < suc (length xs) → x ∷ xs ≡ cond t [] (x ∷ ys) ++ b ∷ drop (length (cond t [] (x ∷ ys))) xs
found_test true b x xs ys e found h = ap (λ (n : ℕ). n ∷ xs) (eqb-true x b e)
found_test false b x xs ys e found h = ap (λ (l : List ℕ). x ∷ l) (found (le_of_suc-le-suc h))

pub before-found : (b : ℕ) (xs : List ℕ) → length (before b xs) < length xs → xs ≡ before b xs ++ b ∷ drop (suc (length (before b xs))) xs
unfolding before
before-found b [] h = absurd (not-suc-le-zero h)
before-found b (x ∷ xs) h = found_test (eqb x b) b x xs (before b xs) refl (before-found b xs) h

one_more : (ys zs xs : List ℕ) (b : ℕ) → xs ≡ ys ++ b ∷ zs → take (suc (length ys)) xs ≡ ys ++ b ∷ []
one_more ys zs xs b e = rw (e, ← add-one (length ys)) (take-append-add ys (b ∷ zs) 1)

pub before_end : (b : ℕ) (xs : List ℕ) → length (before b xs) < length xs → take (suc (length (before b xs))) xs ≡ before b xs ++ b ∷ []
before_end b xs h = one_more (before b xs) (drop (suc (length (before b xs))) xs) xs b (before-found b xs h)

-- ---- the parts between the b's: what stands in front of the first b is of the first part, and b ends it

before_test : (t : Bool) (b x : ℕ) (u ys z : List ℕ) → eqb x b ≡ t → split_from b (u ++ x ∷ []) (ys ++ z) ≡ split_from b ((u ++ x ∷ []) ++ ys) z
    → split_from b u (cond t [] (x ∷ ys) ++ z) ≡ split_from b (u ++ cond t [] (x ∷ ys)) z
unfolding split_from
before_test true b x u ys z e h = rw (append-nil u) refl
before_test false b x u ys z e h = rw (e, ← append_assoc u (x ∷ []) ys) h

pub split-before : (b : ℕ) (u xs z : List ℕ) → split_from b u (before b xs ++ z) ≡ split_from b (u ++ before b xs) z
unfolding before
split-before b u [] z = rw (append-nil u) refl
split-before b u (x ∷ xs) z = before_test (eqb x b) b x u (before b xs) z refl (split-before b (u ++ x ∷ []) xs z)

pub split_end : (b : ℕ) (u z : List ℕ) → split_from b u (b ∷ z) ≡ u ∷ split_from b [] z
unfolding split_from
split_end b u z = rw (eq-eqb b b refl) refl

pub split_none : (b : ℕ) (u xs : List ℕ) → length xs ≤ length (before b xs) → split_from b u xs ≡ (u ++ xs) ∷ []
unfolding split_from
split_none b u xs h = rw (append-nil (before b xs), before_all b xs h) at (split-before b u xs [])

pub split_first : (b : ℕ) (u xs : List ℕ) → length (before b xs) < length xs
    → split_from b u xs ≡ (u ++ before b xs) ∷ split_from b [] (drop (suc (length (before b xs))) xs)
split_first b u xs h =
    let rest = drop (suc (length (before b xs))) xs in
    ap (λ (l : List ℕ). split_from b u l) (before-found b xs h) ∙ split-before b u xs (b ∷ rest) ∙ split_end b (u ++ before b xs) rest

-- ---- a line goes on with more

-- what is kept, by the test whether there is room, its value t
bytes_test : (t : Bool) (line : List ℕ) (n : ℕ) (a b : List ℕ) → leb (n + length a) (length line) ≡ t
    → line_with (overwrite n a line) (cond t (Some (n + length a)) None) b ≡ overwrite n (a ++ b) line
unfolding line_with
bytes_test true line n a b e = sym (overwrite-append n a b line)
bytes_test false line n a b e =
    let past : length (overwrite n a line) ≤ n + length a = rw length-overwrite (le_of_lt (leb-false (n + length a) (length line) e)) in
    rw (overwrite-append n a b line) (sym (overwrite_past (n + length a) b (overwrite n a line) past))

-- the bytes of a line that goes on with two parts, one after the other, are those of one that goes on with both
pub bytes_twice : (line : List ℕ) (kept : Option ℕ) (a b : List ℕ)
    → line_with (line_with line kept a) (kept_with line kept a) b ≡ line_with line kept (a ++ b)
unfolding line_with kept_with
bytes_twice line (Some n) a b = bytes_test (leb (n + length a) (length line)) line n a b refl
bytes_twice line None a b = refl

kept_test : (t : Bool) (line line' : List ℕ) (n : ℕ) (a b : List ℕ) → length line' ≡ length line → leb (n + length a) (length line) ≡ t
    → kept_with line' (cond t (Some (n + length a)) None) b ≡ kept_with line (Some n) (a ++ b)
unfolding kept_with
kept_test true line line' n a b same e = rw (same, length-append a b, add_assoc n (length a) (length b)) refl
kept_test false line line' n a b same e =
    let long : length line < n + length (a ++ b) = rw length-append (omega (arith, leb-false (n + length a) (length line) e)) in
    rw (lt-leb (n + length (a ++ b)) (length line) long) refl

-- and so is what is kept of it
pub kept_twice : (line : List ℕ) (kept : Option ℕ) (a b : List ℕ)
    → kept_with (line_with line kept a) (kept_with line kept a) b ≡ kept_with line kept (a ++ b)
unfolding line_with kept_with
kept_twice line (Some n) a b =
    kept_test (leb (n + length a) (length line)) line (overwrite n a line) n a b (length-overwrite n a line) refl
kept_twice line None a b = refl
