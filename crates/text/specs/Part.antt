-- Lines and fields: the parts between separators.
use Rattle.std.specs.Prelude.{ℕ, cond, List, [], ◌∷◌, ◌++◌, eqb}

-- The parts of xs between its b's, one more than there are b's. u stands in front of the first part.
unfoldable pub split_from : ℕ → List ℕ → List ℕ → List (List ℕ)
split_from b u [] = u ∷ []
split_from b u (x ∷ xs) = cond (eqb x b) (u ∷ split_from b [] xs) (split_from b (u ++ x ∷ []) xs)

-- The parts of xs between its b's.
abbrev pub split : ℕ → List ℕ → List (List ℕ)
split b xs = split_from b [] xs
