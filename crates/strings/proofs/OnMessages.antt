-- Laws of a scheme's calls on a message: what a call looks at first, what one that was done tells of what was lent, and how the call under a key comes from that under the expanded
-- key.
-- Assumes nothing.
use Prim.Native.Nat.{ℕ, ◌≤◌}
use mathlib.Core.Path.{◌≡◌, refl, sym, ap}
use mathlib.Core.Bool.{Bool, true, false, not}
use mathlib.Core.List.{List, []}
use lib.ListN.{length}
use borrow.Author.Tests.{ltb-false, eqb-true, eq-eqb, le-ltb}
use Rattle.strings.specs.Bytes.{Bytes}
use Rattle.strings.specs.Cipher.{Cipher, Scheme, Same}
use Rattle.strings.specs.Call.{Answer, number_of, looks_at, left_by}
use Rattle.strings.specs.Message.{tests_behind_key, tests, IsCipher, OnePlaintext}
use Rattle.strings.specs.declared.refusal.Refusal.{Refusal}
use Rattle.strings.specs.declared.refusal.Refusal.TheVariants.{KeyLength}
use Rattle.std.specs.Prelude.{cond, Ok, Err}
use Rattle.strings.proofs.One.{one_preimage}
use Rattle.strings.proofs.Refusals.{none_holds, all_passed, not_false}

-- What the work needs to know of what was lent.
pub record Admitted (least : ℕ) (tweak message : List ℕ) : Type 0 where
  pub tweak-length : length tweak ≡ 16
  pub at_least : least ≤ length message
  pub at_most : length message ≤ 4096

by_key : (k : Bool) (behind : Answer) → cond (not k) (Err KeyLength) behind ≡ cond k behind (Err KeyLength)
by_key true behind = refl
by_key false behind = refl

module _ (least : ℕ) (short : Refusal) (tweak message : List ℕ) where
  -- A wrong key is told first; behind a right one the other tests decide.
  pub key_first : (S : Scheme) (key : List ℕ)
      → looks_at (tests S least short key tweak message) ≡ cond (S.is_key key) (looks_at (tests_behind_key least short tweak message)) (Err KeyLength)
  key_first S key = by_key (S.is_key key) (looks_at (tests_behind_key least short tweak message))

  -- No test holds where the lengths are those that the scheme takes.
  pub all_admitted : Admitted least tweak message → looks_at (tests_behind_key least short tweak message) ≡ Ok tt
  all_admitted a = rw (eq-eqb (length tweak) 16 a.tweak-length, le-ltb (length message) least a.at_least, le-ltb 4096 (length message) a.at_most) refl

  pub admitted_behind_key : number_of (looks_at (tests_behind_key least short tweak message)) ≡ 0 → Admitted least tweak message
  admitted_behind_key e =
      let t = none_holds (tests_behind_key least short tweak message) e in
      record {
        tweak-length = eqb-true (length tweak) 16 (not_false _ t.0);
        at_least = ltb-false (length message) least t.1.0;
        at_most = ltb-false 4096 (length message) t.1.1.0;
      }

  pub admitted : (S : Scheme) (key : List ℕ) → number_of (looks_at (tests S least short key tweak message)) ≡ 0 → Admitted least tweak message
  admitted S key e = admitted_behind_key (ap number_of (all_passed (tests_behind_key least short tweak message) (none_holds (tests S least short key tweak message) e).1))

-- What deciphering leaves, under what was made of a key, is the one message that enciphers under the key to what was lent.
pub one_plaintext : (S : Scheme) (key tweak C : List ℕ) {S' : Scheme} {number : ℕ} {P : List ℕ} → Same S' [] S key → IsCipher S' number [] tweak (length C)
    → P ≡ left_by number (S'.decipher [] tweak C) C → Bytes C → OnePlaintext S number key tweak C P
one_plaintext S key tweak C {number = number} {P = P} same cipher left bytes done =
    let under_key : Cipher (length C) (S.encipher key tweak) (S.decipher key tweak) = rw (sym same.enciphers, sym same.deciphers) (cipher done) in
    let deciphered : P ≡ S.decipher key tweak C = rw (done, same.deciphers) at left in
    rw deciphered (one_preimage under_key C (refl, bytes))
