-- Every theorem of specs/Theorems.antt: the scheme's from its two passes, those for AES cited from them.
-- Assumes nothing.
use Prim.Native.Nat.{ℕ, suc, ◌^◌, ◌≤◌}
use mathlib.Core.Path.{◌≡◌, refl, sym, ap, ◌∙◌}
use mathlib.Core.Bool.{true}
use mathlib.Core.List.{List, [], ◌∷◌}
use native.Mathlib.Omega.{arith}
use lib.Dec.{lit<}
use lib.ListN.{length}
use Rattle.strings.specs.Xor.{◌⊕◌}
use Rattle.strings.specs.Bytes.{Below, number, bytes}
use Rattle.strings.specs.Cipher.{TweakableCipher, Same}
use Rattle.blocks.specs.BlockCipher.{BlockCipher}
use Rattle.blocks.specs.Blocks.{IsBlock, bin, pad, first_block, cut, blocks, string}
use Rattle.blocks.specs.Counter.{masked, φ}
use Rattle.blocks.specs.Field.{times01, times_x as times_x_over, product_n, product, power, power_sum as power_sum_over}
use Rattle.blocks.specs.BlockField.{times_x, ◌·◌, power_sum}
use Rattle.primitives.specs.Aes.{aes}
use Rattle.primitives.specs.Expanded.{expanded_key, under}
use Rattle.primitives.specs.declared.aes.ExpandedKey.{ExpandedKey}
use Rattle.strings.proofs.Bytes.{number_below}
use Rattle.strings.proofs.One.{one_preimage}
use Rattle.blocks.proofs.Ring.{x_below, ring_of_blocks}
use Rattle.blocks.proofs.Horner.{power_below, power_sum_below}
use Rattle.primitives.proofs.Theorems as Aes
use Rattle.forward.specs.Forward.{KeyDef1, MCTR, Υ, Feistel, swapped_feistel, encipher, decipher, Parts, Poly, enciphered_by, deciphered_by, enciphered, deciphered, forward}
use Rattle.forward.specs.Expanded.{forward_under}
use Rattle.forward.specs.Theorems.{BlockFunction, example_function, example_tweak, example_plaintext, example_ciphertext, Theorems}
use Rattle.forward.proofs.Scheme as Scheme

own_parts : (E : ℕ → ℕ) → BlockFunction E → Parts E times_x power_sum
own_parts E keeps = record {
  function_keeps = keeps;
  step_keeps = λ a h. x_below 128 0x87 (lit< tt) a;
  hash_keeps = λ τ Xs hτ h. power_sum_below ring_of_blocks τ hτ Xs h;
}

by_function : (E : ℕ → ℕ) → BlockFunction E → (n : ℕ) → 33 ≤ n → TweakableCipher 16 n (enciphered_by E) (deciphered_by E)
unfolding enciphered_by deciphered_by
by_function E keeps n l tweak t = Scheme.scheme_cipher (own_parts E keeps) (number tweak) n (rw t.0 at (number_below tweak t.1)) (omega (arith, l))

pub under-cipher : (expanded : ExpandedKey) (n : ℕ) → 33 ≤ n → TweakableCipher 16 n ((forward_under expanded).encipher []) ((forward_under expanded).decipher [])
under-cipher expanded = by_function (under expanded).E ((Aes.theorems).under_permutation expanded).keeps

forward_cipher : (key : List ℕ) (n : ℕ) → 33 ≤ n → TweakableCipher 16 n (enciphered key) (deciphered key)
unfolding enciphered deciphered
forward_cipher key = by_function (aes key).E ((Aes.theorems).aes_permutation key).keeps

pub same_expanded : (key : List ℕ) → forward.is_key key ≡ true → Same (forward_under (expanded_key key)) [] forward key
unfolding enciphered deciphered
same_expanded key k =
    let same : (under (expanded_key key)).E ≡ (aes key).E = ap (λ (c : BlockCipher). c.E) ((Aes.theorems).expanded_aes key k) in
    record { takes = rw k; enciphers = ap enciphered_by same; deciphers = ap deciphered_by same }

polynomial_hash : (τ : ℕ) (Xs : List ℕ) → IsBlock τ → Below (2 ^ 128) Xs → τ · Poly τ Xs ≡ power_sum τ Xs
unfolding Poly power_sum_over power
polynomial_hash τ [] hτ h = ring_of_blocks.zero_right τ
polynomial_hash τ (X ∷ Xs) hτ h =
    let τⁿ : ℕ = power 1 ◌·◌ τ (length Xs) in
    let hτⁿ : IsBlock τⁿ = power_below ring_of_blocks τ (length Xs) hτ in
    let turned : τ · (τⁿ · X) ≡ X · (τ · τⁿ) = sym (ring_of_blocks.assoc τ τⁿ X hτ hτⁿ (h 0)) ∙ ring_of_blocks.comm (τ · τⁿ) X (ring_of_blocks.below τ τⁿ hτ) (h 0) in
    rw (ring_of_blocks.add_right τ (τⁿ · X) (Poly τ Xs), turned, polynomial_hash τ Xs hτ (λ i. h (suc i)))

example_enciphered : encipher example_function times_x power_sum example_tweak example_plaintext ≡ example_ciphertext
unfolding encipher KeyDef1 MCTR Υ Feistel φ masked blocks cut first_block pad string bin number bytes power_sum_over power product product_n times_x_over times01 ◌⊕◌
example_enciphered = refl

example_deciphered : decipher example_function times_x power_sum example_tweak example_ciphertext ≡ example_plaintext
unfolding decipher KeyDef1 MCTR Υ Feistel swapped_feistel φ masked blocks cut first_block pad string bin number bytes power_sum_over power product product_n times_x_over times01 ◌⊕◌
example_deciphered = refl

-- The scheme is a cipher from 32 bytes on; 33 is the paper's least length.
pub theorems : Theorems
theorems = record {
  feistel_undone = Scheme.feistel_undone;
  scheme_cipher = λ E times_x h parts T n hT l. Scheme.scheme_cipher parts T n hT (omega (arith, l));
  scheme_one_plaintext = λ E times_x h parts T n hT l. one_preimage (Scheme.scheme_cipher parts T n hT (omega (arith, l)));
  polynomial_hash = polynomial_hash;
  own_parts = own_parts;
  function_cipher = by_function;
  example_enciphered = example_enciphered;
  example_deciphered = example_deciphered;
  forward_cipher = forward_cipher;
  one_plaintext = λ key tweak n t l. one_preimage (forward_cipher key n l tweak t);
  same_expanded = same_expanded;
}
