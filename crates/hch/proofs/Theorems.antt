-- Every theorem of specs/Theorems.antt: the scheme's from its two passes, those for AES cited from them.
-- Assumes nothing.
use Prim.Native.Nat.{ℕ, ◌≤◌}
use mathlib.Core.Path.{◌≡◌}
use mathlib.Core.Bool.{true}
use mathlib.Core.List.{List, [], append-nil}
use native.Mathlib.Omega.{arith}
use lib.Dec.{lit<}
use lib.ListN.{length, drop_of_length-le}
use lib.Seq.{take_all}
use Rattle.strings.specs.Xor.{◌⊕◌}
use Rattle.strings.specs.Bytes.{OfLength, number, bytes}
use Rattle.blocks.specs.Blocks.{string, IsBlock}
use Rattle.blocks.specs.Field.{power_sum as power_sum_over}
use Rattle.blocks.specs.BlockField.{times_x, power_sum}
use Rattle.blocks.specs.Counter.{masked}
use Rattle.strings.specs.One.{OnePreimage}
use Rattle.strings.specs.Cipher.{Cipher, Same}
use Rattle.blocks.specs.BlockCipher.{BlockCipher, BlockPermutation}
use Rattle.primitives.specs.Aes.{aes}
use Rattle.primitives.specs.Expanded.{expanded_key, under}
use Rattle.primitives.specs.declared.aes.ExpandedKey.{ExpandedKey}
use Rattle.strings.proofs.Xor.{xor_zero, xor_comm}
use Rattle.strings.proofs.Bytes.{number_below}
use Rattle.blocks.proofs.Blocks.{blocks_nil}
use Rattle.strings.proofs.One.{one_preimage}
use Rattle.blocks.proofs.Ring.{x_below, ring_of_blocks}
use Rattle.blocks.proofs.Horner.{power_sum_below}
use Rattle.primitives.proofs.Theorems as Aes
use Rattle.hch.specs.Hch.{length_block, H, Ctr, encipher, Parts, enciphered_by, deciphered_by, enciphered, deciphered, hch}
use Rattle.hch.specs.Expanded.{hch_under}
use Rattle.hch.proofs.Call.{key_first}
use Rattle.hch.specs.Theorems.{Theorems}
use Rattle.hch.proofs.Scheme.{scheme_cipher}

own_parts : (c : BlockCipher) → BlockPermutation c → Parts c.E c.D times_x power_sum
own_parts c p = record {
  permutation = p;
  step_keeps = λ a h. x_below 128 0x87 (lit< tt) a;
  sum_keeps = λ R As hR h. power_sum_below ring_of_blocks R hR As h;
}

tweak_block : (tweak : List ℕ) → OfLength 16 tweak → IsBlock (number tweak)
tweak_block tweak h = rw h.0 at (number_below tweak h.1)

-- HCH with 01's step and sum and any block permutation; under any expanded key; under any key.
by_cipher : (c : BlockCipher) → BlockPermutation c → (tweak : List ℕ) (n : ℕ) → OfLength 16 tweak → 16 ≤ n → Cipher n (enciphered_by c tweak) (deciphered_by c tweak)
unfolding enciphered_by deciphered_by
by_cipher c p tweak n h l = scheme_cipher (own_parts c p) (number tweak) n (tweak_block tweak h) l

pub under-cipher : (expanded : ExpandedKey) (tweak : List ℕ) (n : ℕ) → OfLength 16 tweak → 16 ≤ n
    → Cipher n (enciphered_by (under expanded) tweak) (deciphered_by (under expanded) tweak)
under-cipher expanded = by_cipher (under expanded) ((Aes.theorems).under_permutation expanded)

pub hch_cipher : (key tweak : List ℕ) (n : ℕ) → OfLength 16 tweak → 16 ≤ n → Cipher n (enciphered key tweak) (deciphered key tweak)
unfolding enciphered deciphered
hch_cipher key = by_cipher (aes key) ((Aes.theorems).aes_permutation key)

one_plaintext : (key tweak : List ℕ) (n : ℕ) → OfLength 16 tweak → 16 ≤ n
    → (C : List ℕ) → OfLength n C → OnePreimage n (enciphered key tweak) C (deciphered key tweak C)
one_plaintext key tweak n h l C k = one_preimage (hch_cipher key tweak n h l) C k

pub same_expanded : (key : List ℕ) → hch.is_key key ≡ true → Same (hch_under (expanded_key key)) [] hch key
unfolding enciphered deciphered
same_expanded key k =
    let same = (Aes.theorems).expanded_aes key k in
    record { takes = rw k; enciphers = rw same; deciphers = rw same }

one_block : (E times_x : ℕ → ℕ) (T : ℕ) (P : List ℕ) → length P ≡ 16
    → let Q = E (E T ⊕ length_block 16) in encipher E times_x power_sum T P ≡ bytes 16 (times_x Q ⊕ E (number P ⊕ Q))
unfolding encipher H Ctr masked string power_sum_over
one_block E step T P h =
    let Q : ℕ = E (E T ⊕ length_block 16) in
    let short : length P ≤ 16 = omega (arith, h) in
    rw (h, take_all 16 P short, drop_of_length-le P short, blocks_nil, append-nil) (simp (xor_zero, xor_comm Q (number P)))

pub theorems : Theorems
theorems = record {
  scheme_cipher = λ E D times_x sum. scheme_cipher;
  scheme_one_plaintext = λ E D times_x sum parts T n h l. one_preimage (scheme_cipher parts T n h l);
  one_block = one_block;
  own_parts = own_parts;
  permutation_one_plaintext = λ c p T n h l. one_preimage (scheme_cipher (own_parts c p) T n h l);
  hch_cipher = hch_cipher;
  one_plaintext = one_plaintext;
  same_expanded = same_expanded;
  key_first = key_first;
}
