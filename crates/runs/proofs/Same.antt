-- Two schemes that do the same under their keys seal and open runs alike.
-- Assumes nothing.
use Prim.Native.Nat.{ℕ, zero, suc, ◌+◌}
use mathlib.Core.Path.{◌≡◌, refl}
use mathlib.Core.List.{List}
use lib.ListN.{get_or, take}
use Rattle.strings.specs.Cipher.{Scheme, Same}
use Rattle.layout.specs.Finding.{block_count, part}
use Rattle.pack.specs.Sealing.{seal}
use Rattle.pack.specs.Opening.{deciphered_block}
use Rattle.pack.proofs.Same.{same_seal, same_deciphered, same_answer}
use Rattle.runs.specs.Sealing.{sealed_run}
use Rattle.runs.specs.Opening.{deciphered_run, in_turn}
use Rattle.runs.proofs.Blocks.{blockwise_same}

module _ {S S' : Scheme} {key key' : List ℕ} (same : Same S key S' key') (pack first : ℕ) (run : List ℕ) where
  pub same_sealed : (lengths : List ℕ) → sealed_run S key pack first lengths run ≡ sealed_run S' key' pack first lengths run
  unfolding sealed_run
  same_sealed lengths =
      blockwise_same (λ i B. seal S key (take (get_or lengths i 0) B) pack (first + i)) (λ i B. seal S' key' (take (get_or lengths i 0) B) pack (first + i)) (block_count run) run run
      (λ i h. same_seal same (take (get_or lengths i 0) (part i run)) pack (first + i))

  pub same_deciphered_run : deciphered_run S key pack first run ≡ deciphered_run S' key' pack first run
  unfolding deciphered_run
  same_deciphered_run =
      blockwise_same (λ i C. deciphered_block S key pack (first + i) C) (λ i C. deciphered_block S' key' pack (first + i) C) (block_count run) run run
      (λ i h. same_deciphered same pack (first + i) (part i run))

  pub same_in_turn : (n : ℕ) → in_turn S key pack first n run ≡ in_turn S' key' pack first n run
  unfolding in_turn
  same_in_turn zero = refl
  same_in_turn (suc n) = rw (same_in_turn n, same_answer same pack (first + n) (part n run))
