-- A function's values, computed in a row and compared with a list, give what the function is at each place.
-- Assumes nothing.
use mathlib.Core.Path.{◌≡◌, refl, sym, ap, ◌∙◌}
use mathlib.Core.List.{List, [], ◌∷◌}
use Prim.Native.Nat.{ℕ, zero, suc, ◌+◌, ◌<◌}
use native.Mathlib.Nat.{add-zero, zero-add, add-suc, suc-add, le_of_suc-le-suc, not-suc-le-zero}
use native.Mathlib.Omega.{arith}
use lib.ListN.{length, get_or}
use lib.Seq.{ext_get_or}
use Rattle.strings.specs.Bytes.{Below}

-- The values of f at the n places from i on.
abbrev pub table : (ℕ → ℕ) → ℕ → ℕ → List ℕ
table f zero i = []
table f (suc n) i = f i ∷ table f n (suc i)

from : (f : ℕ → ℕ) (n i k : ℕ) → k < n → get_or (table f n i) k 0 ≡ f (i + k)
from f zero i k h = absurd (not-suc-le-zero h)
from f (suc n) i zero h = rw add-zero
from f (suc n) i (suc k) h = rw (add-suc, ← suc-add i k) (from f n (suc i) k (le_of_suc-le-suc h))

pub entry : (f : ℕ → ℕ) (n : ℕ) {t : List ℕ} → t ≡ table f n 0 → (k : ℕ) → k < n → get_or t k 0 ≡ f k
entry f n e k h = rw (e, from f n 0 k h, zero-add)

pub same : (f g : ℕ → ℕ) (n : ℕ) → table f n 0 ≡ table g n 0 → (k : ℕ) → k < n → f k ≡ g k
same f g n e k h = sym (entry f n refl k h) ∙ entry g n e k h

length_table : (f : ℕ → ℕ) (n i : ℕ) → length (table f n i) ≡ n
length_table f zero i = refl
length_table f (suc n) i = ap suc (length_table f n (suc i))

pub table_below : {m : ℕ} (f : ℕ → ℕ) (n i : ℕ) → ((j : ℕ) → f j < m) → Below m (table f n i)
table_below f zero i h j = let l = h 0 in omega arith
table_below f (suc n) i h zero = h i
table_below f (suc n) i h (suc j) = table_below f n (suc i) h j

-- A list with f's values is f's table.
pub is_table : (f : ℕ → ℕ) (n : ℕ) (s : List ℕ) → length s ≡ n → ((j : ℕ) → j < n → get_or s j 0 ≡ f j) → s ≡ table f n 0
is_table f n s e h =
    ext_get_or 0 s (table f n 0) (e ∙ sym (length_table f n 0)) (λ j l. h j (omega arith) ∙ sym (entry f n refl j (omega arith)))
