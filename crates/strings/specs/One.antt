-- "Exactly one", said twice: as a record, and as a count.
use Rattle.std.specs.Prelude.{ℕ, zero, suc, ◌+◌, ◌^◌, ◌≡◌, Bool, true, false, List}
use Rattle.strings.specs.Bytes.{OfLength, bytes, equal}

-- Among those that have P, a passes the test, and each that passes is a.
pub record ExactlyOne {A : Type 0} (P : A → Type 0) (test : A → Bool) (a : A) : Type 0 where
  pub among : P a
  pub passes : test a ≡ true
  pub only : (b : A) → P b → test b ≡ true → b ≡ a

-- 1 where a test passed, and 0 where it failed.
unfoldable pub tally : Bool → ℕ
tally true = 1
tally false = 0

-- How many numbers below n pass the test.
unfoldable pub count : (ℕ → Bool) → ℕ → ℕ
count test zero = 0
count test (suc n) = tally (test n) + count test n

-- Exactly one string of n bytes passes the test, and it is s; counted over all strings of n bytes, there is 1.
pub record OneString (n : ℕ) (test : List ℕ → Bool) (s : List ℕ) : Type 0 where
  pub one : ExactlyOne (OfLength n) test s
  pub counted : count (λ v. test (bytes n v)) (256 ^ n) ≡ 1

-- Exactly one string of n bytes is sent to s by f, and it is t.
abbrev pub OnePreimage : ℕ → (List ℕ → List ℕ) → (s t : List ℕ) → Type 0
OnePreimage n f s t = OneString n (λ u. equal (f u) s) t
