-- What the calls that refuse have in common: the reasons with the numbers of 01 and 02, the first test that holds, and what is left of the lent bytes.
use Rattle.std.specs.Prelude.{ℕ, zero, suc, Bool, cond, List, [], ◌∷◌, ⊤, Result, Ok, Err}
use Rattle.strings.specs.declared.refusal.Refusal.{Refusal}
use Rattle.strings.specs.declared.refusal.Refusal.TheVariants.{KeyLength, TweakLength, TooShort, TooLong, PayloadTooLong, PlaceTooHigh, BlockLength, CheckFailed, PackLength, ListLength, Blank, ForwardTooShort}

-- 01, "Numbers for a call that was not done", and 02's. Number 9 is the program's.
abbrev pub refusal_number : Refusal → ℕ
refusal_number KeyLength = 1
refusal_number TweakLength = 2
refusal_number TooShort = 3
refusal_number TooLong = 4
refusal_number PayloadTooLong = 5
refusal_number PlaceTooHigh = 6
refusal_number BlockLength = 7
refusal_number CheckFailed = 8
refusal_number PackLength = 10
refusal_number ListLength = 11
refusal_number Blank = 12
refusal_number ForwardTooShort = 13

-- A call that was done has 0, whatever it returns beside.
abbrev pub number_of : {A : Type 0} → Result A Refusal → ℕ
number_of (Ok a) = 0
number_of (Err why) = refusal_number why

-- What a call answers that returns nothing beside its number.
abbrev pub Answer : Type 0
Answer = Result ⊤ Refusal

-- Done, it returns nothing, as a refused call does: 01, "returns its number alone".
abbrev pub values_of : Answer → List ℕ
values_of (Ok a) = []
values_of (Err why) = []

-- What a call looks at, in its order: conditions, each with the refusal that it is answered with.
abbrev pub Tests : Type 0
Tests = List (Bool × Refusal)

-- 01, "Where several conditions hold, the first in the order below is the one returned"; where none holds the call is done.
abbrev pub looks_at : Tests → Answer
looks_at [] = Ok tt
looks_at ((holds, why) ∷ tests) = cond holds (Err why) (looks_at tests)

-- 01, "Each leaves the lent bytes unchanged": a call of number 0 was done and leaves its work, and one of any other number what was lent.
abbrev pub left_by : (number : ℕ) (work lent : List ℕ) → List ℕ
left_by zero work lent = work
left_by (suc n) work lent = lent
