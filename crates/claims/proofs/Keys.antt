-- The two lengths of a key, and the test of the definitions.
-- Assumes nothing.
use Prim.Native.Nat.{ℕ}
use mathlib.Core.Path.{◌≡◌}
use mathlib.Core.Bool.{true, false}
use mathlib.Core.List.{List}
use mathlib.Core.Logic.{inl, inr}
use borrow.Author.Tests.{ne_eqb}
use lib.ListN.{length}
use Rattle.primitives.specs.Aes.{is_key}
use Rattle.claims.specs.Demand1.{IsKey}

pub is_key_lem : (key : List ℕ) → IsKey key → is_key key ≡ true
unfolding is_key
is_key_lem key (inl e) = rw e
is_key_lem key (inr e) = rw e

pub no_key : (key : List ℕ) → (IsKey key → ⊥) → is_key key ≡ false
unfolding is_key
no_key key none = rw (ne_eqb (length key) 16 (λ e. none (inl e)), ne_eqb (length key) 32 (λ e. none (inr e)))
