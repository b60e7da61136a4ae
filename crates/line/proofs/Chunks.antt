-- An input in chunks: after any run of calls, what was written is the answers to the lines that have ended, and the line under way is kept.
-- Assumes nothing.
use mathlib.Core.Path.{◌≡◌, refl, sym, ap, ◌∙◌}
use mathlib.Core.Bool.{Bool, true, false, cond, true≢false}
use mathlib.Core.List.{List, [], ◌∷◌, ◌++◌, flat_map, append-nil, append_assoc}
use Prim.Native.Nat.{ℕ, zero, suc, ◌+◌, ◌-◌, ◌≤◌, ◌<◌}
use native.Mathlib.Omega.{arith}
use lib.ListN.{length, take}
use lib.Seq.{take-length, take_all}
use lib.Dec.{leb}
use borrow.Author.Tests.{leb-true, leb-false, ltb-true, ltb-false, ne_eqb}
use Rattle.strings.proofs.Place.{overwrite_nil, length-overwrite, take-overwrite}
use Rattle.text.specs.Part.{split_from, split}
use Rattle.text.specs.Inner.{before, line_with, kept_with, line_of, is_empty}
use Rattle.std.specs.Prelude.{Option, None, Some}
use Rattle.text.proofs.Parts.{before_all, before_end, split-before, split_end, bytes_twice, kept_twice}
use Rattle.line.specs.Line.{answer, refusal}
use Rattle.line.specs.Input.{lines_of, ended_of, answers, answers_so_far, last_answer}
use Rattle.line.specs.Input.{Run, begin, call}
use Rattle.line.specs.Inner.{ends_in, used_by, kept_line, kept_of, kept_after, kept_answer, answer_after}
use Rattle.line.proofs.Requests.{answer_long}
use Rattle.line.proofs.Written.{written_bytes}

-- ---- a line u, of any length, as it is kept: as if it had been appended all at once, where `first` stood when it began

record Held (u line : List ℕ) (kept : Option ℕ) : Type 0 where
  first : List ℕ
  room : length first ≡ 8300
  characters : line ≡ line_with first (Some 0) u
  counted : kept ≡ kept_with first (Some 0) u

held_none : (line : List ℕ) → length line ≡ 8300 → Held [] line (Some 0)
unfolding line_with kept_with
held_none line h = record { first = line; room = h; characters = sym (overwrite_nil 0 line); counted = rw h }

held_more : {u line : List ℕ} {kept : Option ℕ} (p : List ℕ) → Held u line kept → Held (u ++ p) (line_with line kept p) (kept_with line kept p)
held_more {u} p h = record {
  first = h.first;
  room = h.room;
  characters = rw (h.characters, h.counted) (bytes_twice h.first (Some 0) u p);
  counted = rw (h.characters, h.counted) (kept_twice h.first (Some 0) u p);
}

held_room : {u line : List ℕ} {kept : Option ℕ} → Held u line kept → length line ≡ 8300
unfolding line_with
held_room {u} h = rw (h.characters, length-overwrite 0 u h.first) h.room

-- What is kept answers as the whole line does: a line that has no room is longer than any that is understood.
held_answer : {u line : List ℕ} {kept : Option ℕ} → Held u line kept → kept_answer line kept ≡ answer u
unfolding kept_answer line_with kept_with
held_answer {u} h = rw (h.characters, h.counted) (by (leb (0 + length u) (length h.first)) refl)
  where
    by : (t : Bool) → leb (0 + length u) (length h.first) ≡ t
        → kept_answer (line_with h.first (Some 0) u) (cond t (Some (0 + length u)) None) ≡ answer u
    by true e =
        let fits : 0 + length u ≤ length h.first = leb-true _ _ e in
        rw (
          length-overwrite 0 u h.first,
          e,
          take-overwrite 0 u h.first,
          take_all (length h.first - 0) u (omega arith),
        )
    by false e =
        let long : length h.first < 0 + length u = leb-false _ _ e in
        sym (answer_long u (omega (arith, h.room)))

-- What is kept is the line that is answered, or none is.
pub kept_line_answer : (line : List ℕ) (kept : Option ℕ) {u : List ℕ} → line_of line kept ≡ Some u → kept_answer line kept ≡ answer u
unfolding kept_answer
kept_line_answer line (Some n) {u} e = by (leb n (length line)) e
  where
    by : (t : Bool) → cond t (Some (take n line)) None ≡ Some u → cond t (answer (take n line)) (refusal 9) ≡ answer u
    by true e = ap answer cc
    by false e = let z : ◌≡◌ {A = ℕ} 0 1 = cc in absurd (omega arith)
kept_line_answer line None e = let z : ◌≡◌ {A = ℕ} 0 1 = cc in absurd (omega arith)

pub kept_none_answer : (line : List ℕ) (kept : Option ℕ) → line_of line kept ≡ None → kept_answer line kept ≡ refusal 9
unfolding kept_answer
kept_none_answer line (Some n) e = by (leb n (length line)) e
  where
    by : (t : Bool) → cond t (Some (take n line)) None ≡ None → cond t (answer (take n line)) (refusal 9) ≡ refusal 9
    by true e = let z : ◌≡◌ {A = ℕ} 0 1 = cc in absurd (omega arith)
    by false e = refl
kept_none_answer line None e = refl

-- ---- the parts of an input: all but the last have ended

ended_all : (done : List (List ℕ)) (u : List ℕ) → ended_of (done ++ u ∷ []) ≡ done
unfolding ended_of
ended_all [] u = refl
ended_all (a ∷ []) u = refl
ended_all (a ∷ b ∷ done) u = ap (λ (l : List (List ℕ)). a ∷ l) (ended_all (b ∷ done) u)

lines_all : (done : List (List ℕ)) (u : List ℕ) → lines_of (done ++ u ∷ []) ≡ done ++ lines_of (u ∷ [])
unfolding lines_of
lines_all [] u = refl
lines_all (a ∷ []) u = refl
lines_all (a ∷ b ∷ done) u = ap (λ (l : List (List ℕ)). a ∷ l) (lines_all (b ∷ done) u)

-- lines are answered one after the other
answers-append : (done more : List (List ℕ)) → flat_map answer (done ++ more) ≡ flat_map answer done ++ flat_map answer more
unfolding flat_map
answers-append [] more = refl
answers-append (u ∷ done) more = rw (answers-append done more) (sym (append_assoc (answer u) (flat_map answer done) (flat_map answer more)))

-- ---- a run of calls

-- The lines that have ended and the characters of the line under way. What follows in the input, z, goes on from there.
record SoFar (input written line : List ℕ) (kept : Option ℕ) : Type 0 where
  done : List (List ℕ)
  under : List ℕ
  parts : (z : List ℕ) → split 10 (input ++ z) ≡ done ++ split_from 10 under z
  told : written ≡ flat_map answer done
  held : Held under line kept

-- One call, by the test whether the line ends in the chunk, its value t.
step : (t : Bool) {input written line : List ℕ} {kept : Option ℕ} (rest : List ℕ) → ends_in rest ≡ t → SoFar input written line kept
    → let line' = kept_line line kept rest in
    let kept' = kept_of line kept rest in
    let used = take (cond t (suc (length (before 10 rest))) (length rest)) rest in
    SoFar (input ++ used) (written ++ cond t (kept_answer line' kept') []) line' (cond t (Some 0) kept')
unfolding ends_in kept_line kept_of flat_map
step true {input} rest e k =
    let p : List ℕ = before 10 rest in
    let whole : List ℕ = k.under ++ p in
    let used : take (suc (length p)) rest ≡ p ++ 10 ∷ [] = before_end 10 rest (ltb-true _ _ e) in
    let now = held_more p k.held in
    record {
      done = k.done ++ whole ∷ [];
      under = [];
      parts = λ z.
          rw (used, append_assoc input, append_assoc p, k.parts (p ++ 10 ∷ z), split-before 10 k.under rest (10 ∷ z), split_end 10 whole z)
          (sym (append_assoc k.done (whole ∷ []) (split_from 10 [] z)));
      told = rw (k.told, held_answer now, answers-append k.done (whole ∷ []), append-nil (answer whole));
      held = held_none _ (held_room now);
    }
step false {input} {written} rest e k =
    let p : List ℕ = before 10 rest in
    let used : take (length rest) rest ≡ p = take-length rest ∙ sym (before_all 10 rest (ltb-false _ _ e)) in
    record {
      done = k.done;
      under = k.under ++ p;
      parts = λ z. rw (used, append_assoc input p z, k.parts (p ++ z), split-before 10 k.under rest z);
      told = append-nil written ∙ k.told;
      held = held_more p k.held;
    }

-- One call, as its contract has it.
one_call : {input written line : List ℕ} {kept : Option ℕ} (rest : List ℕ) → SoFar input written line kept
    → SoFar (input ++ take (used_by rest) rest) (written ++ answer_after line kept rest) (kept_line line kept rest) (kept_after line kept rest)
unfolding used_by kept_after answer_after
one_call rest k = step (ends_in rest) rest refl k

so_far_as : {input input' written written' line line' : List ℕ} {kept kept' : Option ℕ} → input' ≡ input → written' ≡ written → line' ≡ line → kept' ≡ kept
    → SoFar input written line kept → SoFar input' written' line' kept'
so_far_as e f g h k = rw (e, f, g, h) k

so_far : {line₀ input written line : List ℕ} {kept : Option ℕ} → length line₀ ≡ 8300 → Run line₀ input written line kept → SoFar input written line kept
unfolding flat_map
so_far {line₀} h begin = record { done = []; under = []; parts = λ z. refl; told = refl; held = held_none line₀ h }
so_far h (call {input} {written} {rest = rest} r s) =
    so_far_as (ap (λ (n : ℕ). input ++ take n rest) s.used) (ap (λ (u : List ℕ). written ++ u) (written_bytes s.answered)) s.collected s.keeps
    (one_call rest (so_far h r))

-- nothing follows
at_end : {input written line : List ℕ} {kept : Option ℕ} (k : SoFar input written line kept) → split 10 input ≡ k.done ++ k.under ∷ []
unfolding split_from
at_end {input} k = rw (append-nil input) at (k.parts [])

-- The last line is answered unless it has no character: then a line feed was the last, or there was no input.
pub last_none : (line : List ℕ) (kept : Option ℕ) → is_empty kept ≡ true → last_answer line kept ≡ []
unfolding last_answer
last_none line (Some zero) e = refl
last_none line (Some (suc n)) e = absurd (true≢false (sym e ∙ ne_eqb (suc n) 0 (λ z. omega arith)))
last_none line None e = absurd (true≢false (sym e))

pub last_some : (line : List ℕ) (kept : Option ℕ) → is_empty kept ≡ false → last_answer line kept ≡ kept_answer line kept
unfolding last_answer
last_some line (Some zero) e = absurd (true≢false e)
last_some line (Some (suc n)) e = refl
last_some line None e = refl

last_answer_lem : (u : List ℕ) {line : List ℕ} {kept : Option ℕ} → Held u line kept → last_answer line kept ≡ flat_map answer (lines_of (u ∷ []))
unfolding flat_map lines_of last_answer kept_with
last_answer_lem [] h = rw (h.counted, h.room)
last_answer_lem (x ∷ xs) {line} h =
    rw (append-nil, ← held_answer h, h.counted) (by (leb (0 + length (x ∷ xs)) (length h.first)))
  where
    by : (t : Bool) → let kept = cond t (Some (0 + length (x ∷ xs))) None in last_answer line kept ≡ kept_answer line kept
    by true = last_some line (Some (0 + length (x ∷ xs))) (ne_eqb (0 + length (x ∷ xs)) 0 (λ e. omega arith))
    by false = refl

pub in_chunks : {line₀ input written line : List ℕ} {kept : Option ℕ} → length line₀ ≡ 8300 → Run line₀ input written line kept
    → (written ≡ answers_so_far input) × (written ++ last_answer line kept ≡ answers input)
unfolding answers_so_far answers
in_chunks h r =
    let k = so_far h r in (
      rw (at_end k, ended_all k.done k.under) k.told,
      rw (at_end k, lines_all k.done k.under, answers-append k.done, ← last_answer_lem k.under k.held, ← k.told),
    )
