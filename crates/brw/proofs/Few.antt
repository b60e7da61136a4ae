-- None, one, two and three blocks of a string, where they stand.
-- Assumes nothing.
use Prim.Native.Nat.{ℕ, ◌≤◌, ◌<◌}
use mathlib.Core.Path.{◌≡◌, refl}
use mathlib.Core.List.{List, [], ◌∷◌}
use native.Mathlib.Nat.{zero-lt-suc}
use native.Mathlib.Omega.{arith}
use lib.Count.{count_leading_zeros}
use lib.ListN.{length, drop, length-drop, drop_of_length-le}
use lib.Seq.{drop-drop}
use Rattle.strings.specs.Xor.{◌⊕◌}
use Rattle.strings.specs.Bytes.{number}
use Rattle.blocks.specs.Blocks.{pad, first_block, blocks}
use Rattle.blocks.specs.BlockField.{◌·◌}
use Rattle.blocks.proofs.Blocks.{blocks_nil, blocks_cons}
use Rattle.brw.specs.Brw.{polynomial, products_within, products}
use Rattle.brw.specs.Inner.{power_at, exponent_of, lent_power, lent_polynomial}

-- What is handed back, a value and a count, is that of the blocks.
abbrev pub Evaluates : (words s : List ℕ) (value count : ℕ) → Type 0
Evaluates words s value count = (value ≡ lent_polynomial words (blocks s)) × (count ≡ products (length (blocks s)))

blocks_end : (s : List ℕ) → length s ≤ 16 → blocks (drop 16 s) ≡ []
blocks_end s h = rw (drop_of_length-le s h) blocks_nil

one_block : (s : List ℕ) → 0 < length s → length s ≤ 16 → blocks s ≡ first_block s ∷ []
one_block s h l = rw (blocks_cons s h, blocks_end s l)

two_blocks : (s : List ℕ) → 16 < length s → length s ≤ 32 → blocks s ≡ first_block s ∷ first_block (drop 16 s) ∷ []
two_blocks s h l =
    rw (blocks_cons s (omega (arith, h)), one_block (drop 16 s) (rw length-drop (omega (arith, h))) (rw length-drop (omega (arith, l))))

three_blocks : (s : List ℕ) → 32 < length s → length s ≤ 48 → blocks s ≡ first_block s ∷ first_block (drop 16 s) ∷ first_block (drop 32 s) ∷ []
three_blocks s h l =
    rw (
      blocks_cons s (omega (arith, h)),
      two_blocks (drop 16 s) (rw length-drop (omega (arith, h))) (rw length-drop (omega (arith, l))),
      drop-drop 16 16 s,
    )

pub up_to_one : (words s : List ℕ) → length s ≤ 16 → Evaluates words s (first_block s) 0
unfolding lent_polynomial polynomial products products_within first_block pad number
up_to_one words [] h = rw blocks_nil (refl, refl)
up_to_one words (b ∷ s) h = rw (one_block (b ∷ s) (zero-lt-suc (length s)) h) (refl, refl)

pub two : (words s : List ℕ) → 16 < length s → length s ≤ 32 → Evaluates words s (first_block s · power_at words 0 ⊕ first_block (drop 16 s)) 1
unfolding lent_polynomial polynomial products products_within
two words s h l = rw (two_blocks s h l) (refl, refl)

second_power : (words : List ℕ) → lent_power words 2 ≡ power_at words 1
unfolding lent_power exponent_of count_leading_zeros
second_power words = refl

pub three : (words s : List ℕ) → 32 < length s → length s ≤ 48
    → Evaluates words s ((power_at words 0 ⊕ first_block s) · (power_at words 1 ⊕ first_block (drop 16 s)) ⊕ first_block (drop 32 s)) 1
unfolding lent_polynomial polynomial products products_within
three words s h l = rw (three_blocks s h l, second_power words) (refl, refl)
