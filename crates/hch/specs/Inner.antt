-- What the contracts of inner functions cite: nobody has to believe it.
use Rattle.std.specs.Prelude.{ℕ, List, ◌++◌}
use Rattle.strings.specs.Xor.{◌⊕◌}
use Rattle.strings.specs.Bytes.{bytes}
use Rattle.blocks.specs.Blocks.{blocks, bin}
use Rattle.blocks.specs.Counter.{masked_bytes}
use Rattle.hch.specs.Hch.{H}

-- Steps 5 and 6 on the bytes behind the first block.
unfoldable pub ctr_bytes : (E : ℕ → ℕ) → ℕ → List ℕ → List ℕ
ctr_bytes E S = masked_bytes (λ i. E (S ⊕ bin i)) 1

-- From I on, which is the same both ways: Q stands for the key of step 7, which is xQ in enciphering, A₁ for its first block, and s for the
-- bytes behind the first block.
unfoldable pub from_i : (E : ℕ → ℕ) (sum : ℕ → List ℕ → ℕ) (R Q I A₁ : ℕ) → List ℕ → List ℕ
from_i E sum R Q I A₁ s =
    let t = ctr_bytes E (E I) s in
    bytes 16 (H sum R Q A₁ (blocks t)) ++ t
