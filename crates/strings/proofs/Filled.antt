-- An array that a loop fills from the front.
-- Assumes nothing.
use Prim.Native.Nat.{ℕ, ◌+◌, ◌≤◌, ◌<◌, zero-le}
use mathlib.Core.Path.{◌≡◌, ◌∙◌}
use mathlib.Core.List.{List}
use mathlib.Core.Logic.{⊎_elim}
use native.Mathlib.Nat.{le_of_suc-le-suc, not-suc-le-zero, eq-or-lt_of_le}
use native.Mathlib.Omega.{arith}
use lib.ListN.{length, get_or, set, length-set}
use lib.Seq.{get_or-set_same, get_or-set_other}
use Rattle.strings.proofs.Table.{table, is_table}

-- The first i of n entries are g's.
pub record Filled (n i : ℕ) (g : ℕ → ℕ) (s : List ℕ) : Type 0 where
  pub within : i ≤ n
  pub same_length : length s ≡ n
  pub front : (j : ℕ) → j < i → get_or s j 0 ≡ g j

pub none_filled : (n : ℕ) (g : ℕ → ℕ) {s : List ℕ} → length s ≡ n → Filled n 0 g s
none_filled n g h = record { within = zero-le; same_length = h; front = λ j l. absurd (not-suc-le-zero l) }

pub one_filled : {n i : ℕ} {g : ℕ → ℕ} {s : List ℕ} (v : ℕ) → Filled n i g s → i < n → v ≡ g i → Filled n (i + 1) g (set s i v)
one_filled {n} {i} {g} {s} v f h e =
    record {
      within = omega arith;
      same_length = length-set s i v ∙ f.same_length;
      front = λ j l.
          ⊎_elim (λ (k : j ≡ i). rw k (get_or-set_same s i v 0 (omega (arith, f.same_length)) ∙ e))
          (λ (k : j < i). get_or-set_other s i j v 0 (λ q. omega arith) ∙ f.front j k) (eq-or-lt_of_le (le_of_suc-le-suc (omega arith)));
    }

pub refilled : {n i : ℕ} {g h : ℕ → ℕ} {s : List ℕ} → ((j : ℕ) → g j ≡ h j) → Filled n i g s → Filled n i h s
refilled e f = record { within = f.within; same_length = f.same_length; front = λ j l. f.front j l ∙ e j }

-- Filled to its end, the array is the table of g's entries.
pub all_filled : {n i : ℕ} {g : ℕ → ℕ} {s : List ℕ} → Filled n i g s → n ≤ i → s ≡ table g n 0
all_filled {n} {i} {g} {s} f h = is_table g n s f.same_length (λ j l. f.front j (omega arith))
