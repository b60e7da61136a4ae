-- 01, "For the app, and at the desk": the whole case of `boardline`.
use Rattle.std.specs.Prelude.{ℕ, ◌≡◌, List, [], ◌∷◌, ◌++◌, replicate}
use Rattle.text.specs.Hex.{hex}
use Rattle.line.specs.Input.{answers}

-- A line of `E`, 69, or `D`, 68, and its three fields.
abbrev pub line : ℕ → List ℕ → List ℕ → List ℕ → List ℕ
line command key tweak message = command ∷ 32 ∷ hex key ++ 32 ∷ hex tweak ++ 32 ∷ hex message ++ 10 ∷ []

abbrev pub zeros : ℕ → List ℕ
zeros n = replicate n 0

pub record Program : Type 0 where
  -- E 00 00000000000000000000000000000000 00
  -- D 00000000000000000000000000000000 00 00
  -- D 00000000000000000000000000000000 00000000000000000000000000000000 00
  -- Q
  -- is answered `no 1`, `no 2`, `no 3` and `no 9`, a line each.
  pub whole_case : answers (line 69 (zeros 1) (zeros 16) (zeros 1) ++ line 68 (zeros 16) (zeros 1) (zeros 1) ++ line 68 (zeros 16) (zeros 16) (zeros 1) ++ 81 ∷ 10 ∷ [])
      ≡ 110 ∷ 111 ∷ 32 ∷ 49 ∷ 10 ∷ 110 ∷ 111 ∷ 32 ∷ 50 ∷ 10 ∷ 110 ∷ 111 ∷ 32 ∷ 51 ∷ 10 ∷ 110 ∷ 111 ∷ 32 ∷ 57 ∷ 10 ∷ []
