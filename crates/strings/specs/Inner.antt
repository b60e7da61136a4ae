-- What the contracts of inner functions cite: nobody has to believe it.
use Rattle.std.specs.Prelude.{ℕ, zero, suc, ◌+◌, ◌-◌, Bool, cond, Ok, Err, List, [], ◌∷◌, ◌++◌, length, get_or, take, drop}
use Rattle.strings.specs.declared.refusal.Refusal.{Refusal}
use Rattle.strings.specs.Call.{Answer, Tests}

-- The first n bytes of a string, 0 past its end.
unfoldable pub padded : ℕ → List ℕ → List ℕ
padded zero s = []
padded (suc n) s = get_or s 0 0 ∷ padded n (drop 1 s)

-- A string with t written over it from place i on, as far as it reaches.
unfoldable pub overwrite : ℕ → List ℕ → List ℕ → List ℕ
overwrite i t s = take i s ++ (take (length s - i) t ++ drop (i + length t) s)

-- An answer after one test more: a refusal stays, and else the test decides.
abbrev pub refuse_if : Answer → Bool → Refusal → Answer
refuse_if (Ok a) holds why = cond holds (Err why) (Ok tt)
refuse_if (Err first) holds why = Err first

-- An answer after tests one by one. That this is the first test that holds is a law, `in_turn_lem`.
unfoldable pub in_turn : Answer → Tests → Answer
in_turn answer [] = answer
in_turn answer ((holds, why) ∷ tests) = in_turn (refuse_if answer holds why) tests
