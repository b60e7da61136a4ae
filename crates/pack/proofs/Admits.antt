-- A scheme does its work on a block of 512 bytes under an expanded key and the tweak of a pack and a place, as its contract has it.
-- Assumes nothing.
use Prim.Native.Nat.{ℕ, ◌≤◌}
use mathlib.Core.Path.{◌≡◌, ap, ◌∙◌}
use mathlib.Core.List.{List, []}
use native.Mathlib.Omega.{arith}
use lib.ListN.{length}
use Rattle.strings.specs.Cipher.{Scheme}
use Rattle.strings.specs.Call.{Answer, number_of, looks_at, left_by}
use Rattle.strings.specs.Message.{tests_behind_key, IsCipher}
use Rattle.strings.specs.declared.refusal.Refusal.{Refusal}
use Rattle.strings.proofs.OnMessages.{all_admitted}
use Rattle.layout.specs.Layout.{tweak}
use Rattle.layout.proofs.Check.{tweak_of_length}
use Rattle.pack.specs.Inner.{CipherAt}

pub by_contract : (S : Scheme) (least : ℕ) (short : Refusal) (pack place : ℕ) (block : List ℕ) → least ≤ 512 → length block ≡ 512
    → {work left : List ℕ} {answer : Answer} → answer ≡ looks_at (tests_behind_key least short (tweak pack place) block)
    → left ≡ left_by (number_of answer) work block → IsCipher S (number_of answer) [] (tweak pack place) (length block)
    → (left ≡ work) × CipherAt S [] pack place
by_contract S least short pack place block low size e l cipher =
    let done = e ∙ all_admitted least short (tweak pack place) block (record {
      tweak-length = (tweak_of_length pack place).0;
      at_least = omega (arith, size, low);
      at_most = omega (arith, size);
    }) in
    (rw done at l, rw size at (cipher (ap number_of done)))
