-- The theorems that specs/Theorems.antt names.
-- Assumes nothing.
use Prim.Native.Nat.{ℕ, ◌≤◌}
use mathlib.Core.Path.{◌≡◌, ap}
use mathlib.Core.Bool.{true}
use mathlib.Core.List.{List}
use native.Mathlib.Omega.{arith}
use lib.ListN.{length}
use Rattle.strings.specs.Bytes.{Bytes}
use Rattle.strings.specs.Cipher.{TweakableCipher, Scheme}
use Rattle.layout.specs.Layout.{tweak}
use Rattle.layout.proofs.Check.{tweak_of_length, take_plain}
use Rattle.layout.proofs.Parts.{none_refused, found_limit}
use Rattle.layout.proofs.Theorems as Layout
use Rattle.strings.specs.Call.{number_of}
use Rattle.pack.specs.Sealing.{seal, WithinLimits}
use Rattle.pack.specs.Opening.{values_of}
use Rattle.pack.specs.Inner.{CipherAt}
use Rattle.pack.specs.Theorems.{IsFound, Pack, Theorems}
use Rattle.pack.proofs.OneBlock.{deciphered_sealed, answer_sealed, only_sealed, one_block, unopened}

-- A place that is found is within the limits.
within : {payload : List ℕ} (place : ℕ) (blocks : List ℕ) → Bytes payload → length payload ≤ 496 → IsFound place blocks → WithinLimits payload place
within place blocks b h e = record {
  payload_bytes = b;
  payload_length = h;
  place_limit = omega (arith, found_limit place blocks (none_refused place blocks e));
}

any_cipher : (S : Scheme) (key : List ℕ) → S.is_key key ≡ true → TweakableCipher 16 512 (S.encipher key) (S.decipher key) → Pack S key
any_cipher S key k cipher =
    let at : (pack place : ℕ) → CipherAt S key pack place = λ pack place. cipher (tweak pack place) (tweak_of_length pack place) in
    record {
      open_sealed = λ payload pack place w.
          let answer = answer_sealed S key pack place (at pack place) payload w.payload_bytes w.payload_length k w.place_limit in (
            ap number_of answer,
            ap values_of answer,
            deciphered_sealed S key pack place (at pack place) payload w.payload_bytes w.payload_length,
            take_plain payload pack place w.payload_length,
          );
      only_sealed = λ payload pack place. only_sealed S key pack place (at pack place) payload;
      one_block = λ payload pack place. one_block S key pack place (at pack place) payload k;
      opened_in_place = λ payload pack place blocks b h e.
          let sealed = (one_block S key pack place (at pack place) payload k (within place blocks b h e)).one in
          rw ((Layout.theorems).written_found place (seal S key payload pack place) blocks e sealed.among.0) sealed.passes;
      others_in_place = λ payload pack place blocks b h e other apart key' payload' pack' place'.
          let sealed = (one_block S key pack place (at pack place) payload k (within place blocks b h e)).one in
          rw ((Layout.theorems).others_found place other (seal S key payload pack place) blocks e sealed.among.0 apart);
      unopened = λ pack place. unopened S key pack place (at pack place);
    }

pub theorems : Theorems
theorems = record { any_cipher = any_cipher }
