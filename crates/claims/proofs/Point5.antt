-- Each sentence is cited from the theorems of the crates below, or comes by the definitions.
-- Assumes nothing.
use Prim.Native.Nat.{ℕ, ◌≤◌}
use mathlib.Core.Path.{◌≡◌, refl, sym}
use mathlib.Core.List.{List, []}
use native.Mathlib.Omega.{arith}
use lib.Dec.{lit<}
use lib.ListN.{length, length-drop}
use lib.Pow.{pow_pos}
use Rattle.strings.specs.Xor.{◌⊕◌}
use Rattle.strings.specs.Bytes.{Bytes}
use Rattle.strings.specs.declared.refusal.Refusal.TheVariants.{ForwardTooShort}
use Rattle.blocks.specs.Blocks.{IsBlock}
use Rattle.blocks.specs.BlockField.{times_x, ◌·◌}
use Rattle.blocks.specs.Counter.{φ}
use Rattle.blocks.specs.Field.{times01, times_x as times_x_over, power}
use Rattle.blocks.proofs.Theorems as Blocks
use Rattle.primitives.proofs.Theorems as Aes
use Rattle.forward.specs.Forward.{enciphered_by, deciphered_by, enciphered, deciphered, forward, forward_by}
use Rattle.forward.specs.Theorems.{BlockFunction}
use Rattle.forward.proofs.Theorems as Forward
use Rattle.pack.specs.Sealing.{seal}
use Rattle.pack.specs.Opening.{OneBlock}
use Rattle.pack.specs.Theorems.{Pack}
use Rattle.pack.proofs.Theorems as Packs
use Rattle.claims.specs.Demand1.{IsKey}
use Rattle.claims.specs.Point5.{x, Point5}
use Rattle.claims.proofs.Keys.{is_key_lem}
use Rattle.claims.proofs.Demand1.{message_numbers, sealing_numbers, opening_numbers}

forward_pack : (key : List ℕ) → IsKey key → Pack forward key
forward_pack key k = (Packs.theorems).any_cipher forward key (is_key_lem key k) ((Forward.theorems).forward_cipher key 512 (omega arith))

-- The block's rule, for every function.
function_block : (E : ℕ → ℕ) → BlockFunction E → (payload : List ℕ) (pack place : ℕ) → Bytes payload → length payload ≤ 496 → place ≤ 65535
    → OneBlock (forward_by E) [] payload pack place (seal (forward_by E) [] payload pack place)
function_block E f payload pack place b h l =
    ((Packs.theorems).any_cipher (forward_by E) [] refl ((Forward.theorems).function_cipher E f 512 (omega arith))
    ).one_block payload pack place (record { payload_bytes = b; payload_length = h; place_limit = l })

aes_block : (key payload : List ℕ) (pack place : ℕ) → IsKey key → Bytes payload → length payload ≤ 496 → place ≤ 65535
    → OneBlock forward key payload pack place (seal forward key payload pack place)
aes_block key payload pack place k b h l = (forward_pack key k).one_block payload pack place (record { payload_bytes = b; payload_length = h; place_limit = l })

x_is : times_x 1 ≡ x
unfolding times_x_over times01 ◌⊕◌
x_is = refl

primitive_element : (β i : ℕ) → IsBlock β → φ times_x β i ≡ power 1 ◌·◌ x i · β
primitive_element β i h = rw x_is at ((Blocks.theorems).phi_power 128 0x87 (lit< tt) (lit< tt) β i h)

pub point_5 : Point5
unfolding enciphered deciphered enciphered_by deciphered_by seal
point_5 = record {
  enciphered_by_aes = λ key tweak P. refl;
  deciphered_by_aes = λ key tweak C. refl;
  polynomial_hash = λ τ Xs hτ h. sym ((Forward.theorems).polynomial_hash τ Xs hτ h);
  primitive_element = primitive_element;
  feistel_undone = (Forward.theorems).feistel_undone;
  forward_numbers = message_numbers forward (λ key. refl) 33 ForwardTooShort (omega arith);
  forward_33 = λ message h. rw (length-drop, h);
  forward_sealing = sealing_numbers forward (λ key. refl);
  forward_opening = opening_numbers forward (λ key. refl);
  sealed = λ key payload pack place. refl;
  forward_pack = forward_pack;
  any_function = λ E f T t C b n. ((Forward.theorems).scheme_one_plaintext E _ _ ((Forward.theorems).own_parts E f) T (length C) t n C (refl, b)).one;
  any_function_counted = λ E f T t C b n. ((Forward.theorems).scheme_one_plaintext E _ _ ((Forward.theorems).own_parts E f) T (length C) t n C (refl, b)).counted;
  any_function_block = λ E f payload pack place b h l. (function_block E f payload pack place b h l).one;
  any_function_block_counted = λ E f payload pack place b h l. (function_block E f payload pack place b h l).counted;
  zero_function = λ a h. pow_pos 128;
  aes_function = λ key. ((Aes.theorems).aes_permutation key).keeps;
  one_message = λ key tweak C t b n. ((Forward.theorems).one_plaintext key tweak (length C) t n C (refl, b)).one;
  one_message_counted = λ key tweak C t b n. ((Forward.theorems).one_plaintext key tweak (length C) t n C (refl, b)).counted;
  one_block = λ key payload pack place k b h l. (aes_block key payload pack place k b h l).one;
  one_block_counted = λ key payload pack place k b h l. (aes_block key payload pack place k b h l).counted;
}
