-- The calls, one after another, are Table 1.
use Prim.Native.Nat.{ℕ}
use mathlib.Core.Path.{ap}
use Rattle.blocks.specs.BlockField.{times_x, power_sum}
use Rattle.blocks.specs.Inner.{value}
use Rattle.primitives.specs.Expanded.{under}
use Rattle.forward.specs.Forward.{HashKey}
use Rattle.forward.proofs.LentBytes.{deciphering}
use Rattle.forward.proofs.decipher_message.Goals as goal

pub returns : goal.returns
returns c =
    let E = (under c.args.expanded).E in
    simp (
      c.finish.ensures,
      c.sum.ensures,
      ap (λ (p : ℕ × ℕ). p.0) c.swapped_feistel-a.ensures,
      ap (λ (p : ℕ × ℕ). p.1) c.swapped_feistel-a.ensures,
      ap (λ (p : ℕ × ℕ). p.0) c.hash-b.ensures,
      ap (λ (p : ℕ × ℕ). p.1) c.hash-b.ensures,
      ap (λ (p : ℕ × ℕ). p.0) c.first_two.ensures,
      ap (λ (p : ℕ × ℕ). p.1) c.first_two.ensures,
      ap (λ (K : HashKey). K.τ) c.key_def1-key.ensures,
      ap (λ (K : HashKey). K.τ') c.key_def1-key.ensures,
      ap (λ (K : HashKey). K.β₁) c.key_def1-key.ensures,
      ap (λ (K : HashKey). K.β₂) c.key_def1-key.ensures,
    )
    (deciphering E times_x power_sum (value c.args.tweak) c.args.message.now c.requires.0)
