-- The elements of an array that a function takes by value are numbers of their type: g is what the function is told of it on entry, `c.good`.
-- Assumes nothing.
use Prim.Native.Nat.{ℕ, zero, suc, ◌^◌}
use mathlib.Core.List.{List, [], ◌∷◌}
use lib.Pow.{pow_pos}
use mir.Syntax.{Width}
use mir.Val.{Val, bits}
use denote.Shadow.{shadow}
use denote.Plain.{UInt}
use denote.Laws.{Is}
use denote.Array.{Array, each}
use Rattle.strings.specs.Bytes.{Below}

each_below : (w : Width) (xs : List ℕ) (us : List Val) → shadow (each ℕ (UInt w).own_val xs us) → Below (2 ^ bits w) xs
each_below w [] us p i = pow_pos (bits w)
each_below w (x ∷ xs) [] p i = absurd p
each_below w (x ∷ xs) (u ∷ us) p zero = p.0.1
each_below w (x ∷ xs) (u ∷ us) p (suc i) = each_below w xs us p.1 i

pub elements : (w : Width) (n : ℕ) (xs : List ℕ) (vs : List Val) → Is (Array (UInt w) n) xs vs → Below (2 ^ bits w) xs
elements w n xs vs g = each_below w xs g.0 g.1.1
