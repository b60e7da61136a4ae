-- Each sentence is cited from the theorems of the crates below.
-- Assumes nothing.
use Prim.Native.Nat.{ℕ}
use mathlib.Core.Path.{◌≡◌, refl}
use mathlib.Core.List.{List}
use native.Mathlib.Omega.{arith}
use lib.Dec.{leb}
use lib.ListN.{length}
use Rattle.strings.specs.Cipher.{TweakableCipher}
use Rattle.strings.specs.One.{tally, count}
use Rattle.primitives.proofs.Theorems as Aes
use Rattle.hch.specs.Hch.{hch}
use Rattle.hch.proofs.Theorems as Hch
use Rattle.pack.specs.Theorems.{Pack}
use Rattle.pack.proofs.Theorems as Packs
use Rattle.claims.specs.Demand1.{IsKey}
use Rattle.claims.specs.Demand3.{Demand3}
use Rattle.claims.proofs.Keys.{is_key_lem}

pub hch_tweakable : (key : List ℕ) → TweakableCipher 16 512 (hch.encipher key) (hch.decipher key)
hch_tweakable key T h = (Hch.theorems).hch_cipher key T 512 h (omega arith)

pub hch_pack : (key : List ℕ) → IsKey key → Pack hch key
hch_pack key k = (Packs.theorems).any_cipher hch key (is_key_lem key k) (hch_tweakable key)

three_of_ten : count (λ v. leb 7 v) 10 ≡ 3
unfolding tally count
three_of_ten = refl

pub demand_3 : Demand3
demand_3 = record {
  any_permutation = λ c p T t C b n. ((Hch.theorems).permutation_one_plaintext c p T (length C) t n C (refl, b)).one;
  any_permutation_counted = λ c p T t C b n. ((Hch.theorems).permutation_one_plaintext c p T (length C) t n C (refl, b)).counted;
  aes_permutation = (Aes.theorems).aes_permutation;
  one_message = λ key tweak C t b n. ((Hch.theorems).one_plaintext key tweak (length C) t n C (refl, b)).one;
  one_message_counted = λ key tweak C t b n. ((Hch.theorems).one_plaintext key tweak (length C) t n C (refl, b)).counted;
  hch_tweakable = hch_tweakable;
  hch_pack = hch_pack;
  one_block = λ key payload pack place k b h l.
      ((hch_pack key k).one_block payload pack place (record { payload_bytes = b; payload_length = h; place_limit = l })).one;
  one_block_counted = λ key payload pack place k b h l.
      ((hch_pack key k).one_block payload pack place (record { payload_bytes = b; payload_length = h; place_limit = l })).counted;
  three_of_ten = three_of_ten;
}
