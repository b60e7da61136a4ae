-- The theorems of this crate, each by name. One value of this record, proofs/Theorems.antt, proves them all.
use Rattle.std.specs.Prelude.{ℕ, ◌≡◌, true, Option, List, ◌++◌}
use Rattle.strings.specs.Bytes.{Bytes}
use Rattle.text.specs.Hex.{hex, is_hex, unhex}
use Rattle.text.specs.Inner.{line_with, kept_with}

pub record Theorems : Type 0 where
  -- Bytes come back from their digits, which are hexadecimal, and hexadecimal text comes back from its bytes.
  pub bytes_back : (bs : List ℕ) → Bytes bs → unhex (hex bs) ≡ bs
  pub digits_of_bytes : (bs : List ℕ) → Bytes bs → is_hex (hex bs) ≡ true
  pub text_back : (s : List ℕ) → is_hex s ≡ true → hex (unhex s) ≡ s
  -- A line that goes on with two parts, one after the other, is the line that goes on with both: its bytes, and what is kept.
  pub append_bytes : (line : List ℕ) (kept : Option ℕ) (a b : List ℕ)
      → line_with (line_with line kept a) (kept_with line kept a) b ≡ line_with line kept (a ++ b)
  pub append_kept : (line : List ℕ) (kept : Option ℕ) (a b : List ℕ)
      → kept_with (line_with line kept a) (kept_with line kept a) b ≡ kept_with line kept (a ++ b)
