-- The theorems of this crate, each by name. One value of this record, proofs/Theorems.antt, proves them all.
use Rattle.std.specs.Prelude.{ℕ, ◌+◌, ◌%◌, ◌^◌, ◌<◌, ◌≡◌, Bool, ◌&&◌, Ok, List, ◌++◌, length, take, drop}
use Rattle.strings.specs.Xor.{◌⊕◌, xor_bytes}
use Rattle.strings.specs.Call.{Tests, looks_at}
use Rattle.strings.specs.Inner.{in_turn}
use Rattle.strings.specs.Bytes.{Bytes, OfLength, number, bytes}
use Rattle.strings.specs.Cipher.{Cipher}
use Rattle.strings.specs.One.{ExactlyOne, count, OneString, OnePreimage}

pub record Theorems : Type 0 where
  -- Exclusive or is a commutative group in which each number is its own inverse, and keeps the numbers of k digits.
  pub sum_assoc : (a b c : ℕ) → a ⊕ b ⊕ c ≡ a ⊕ (b ⊕ c)
  pub sum_comm : (a b : ℕ) → a ⊕ b ≡ b ⊕ a
  pub sum_zero : (a : ℕ) → a ⊕ 0 ≡ a
  pub sum_self : (a : ℕ) → a ⊕ a ≡ 0
  pub sum_below : (k a b : ℕ) → a < 2 ^ k → b < 2 ^ k → a ⊕ b < 2 ^ k
  -- Numbers and byte strings undo each other; the bytes of a sum are the sum of the bytes.
  pub number_of_bytes : (n a : ℕ) → number (bytes n a) ≡ a % 256 ^ n
  pub bytes_of_number : (s : List ℕ) → Bytes s → bytes (length s) (number s) ≡ s
  pub bytes_of_sum : (n a b : ℕ) → bytes n (a ⊕ b) ≡ xor_bytes (bytes n a) (bytes n b)
  -- Where exactly one passes a test the count is 1, of numbers below a bound and of strings of n bytes.
  pub count_numbers : (test : ℕ → Bool) (n a : ℕ) → ExactlyOne (λ v. v < n) test a → count test n ≡ 1
  pub count_strings : (test : List ℕ → Bool) (n : ℕ) (s : List ℕ) → ExactlyOne (OfLength n) test s → count (λ v. test (bytes n v)) (256 ^ n) ≡ 1
  -- Where exactly one string of m bytes passes a test, and exactly one of n bytes another, exactly one of m + n bytes passes both with its two parts: those two,
  -- one behind the other. The count is 1.
  pub two_parts : (m n : ℕ) (f g : List ℕ → Bool) (s t : List ℕ) → OneString m f s → OneString n g t
      → OneString (m + n) (λ u. f (take m u) && g (drop m u)) (s ++ t)
  -- A cipher of n bytes sends exactly one string of n bytes to each.
  pub one_preimage : (n : ℕ) (f g : List ℕ → List ℕ) → Cipher n f g → (s : List ℕ) → OfLength n s → OnePreimage n f s (g s)
  -- Tests one by one, as the calls of all crates make them, answer as the first that holds does.
  pub tests_one_by_one : (tests : Tests) → in_turn (Ok tt) tests ≡ looks_at tests
