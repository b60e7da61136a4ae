-- What the contracts of inner functions cite: nobody has to believe it.
use Rattle.std.specs.Prelude.{ℕ, List, ◌++◌}
use Rattle.strings.specs.Xor.{◌⊕◌}
use Rattle.strings.specs.Bytes.{bytes}
use Rattle.blocks.specs.Blocks.{blocks}
use Rattle.blocks.specs.Counter.{masked_bytes, φ}
use Rattle.blocks.specs.Inner.{value}
use Rattle.blocks.specs.declared.block.Block.{Block}
use Rattle.forward.specs.Forward.{HashKey, Υ}
use Rattle.forward.specs.declared.Key.{Key}

-- The blocks that the code's two stand for, and the hash key that its own stands for.
abbrev pub values : Block × Block → ℕ × ℕ
values p = (value p.0, value p.1)

abbrev pub hash_key : Key → HashKey
hash_key k = record { τ = value k.tau; τ' = value k.tau_prime; β₁ = value k.beta1; β₂ = value k.beta2 }

-- Two blocks as bytes.
abbrev pub bytes_of : ℕ × ℕ → List ℕ
bytes_of p = bytes 16 p.0 ++ bytes 16 p.1

-- Step 4 on the bytes behind the first two blocks.
unfoldable pub mctr_bytes : (E times_x : ℕ → ℕ) (β S : ℕ) → List ℕ → List ℕ
mctr_bytes E times_x β S = masked_bytes (λ i. E (φ times_x β i ⊕ S)) 0

-- From M on, which is the same both ways: β stands for the key of step 5, which is β₂ in enciphering, X for what comes out of the Feistel, and s for the bytes
-- behind the first two blocks.
unfoldable pub from_m : (E times_x : ℕ → ℕ) (h : ℕ → List ℕ → ℕ) (τ β₁ β M : ℕ) (X : ℕ × ℕ) → List ℕ → List ℕ
from_m E times_x h τ β₁ β M X s =
    let t = mctr_bytes E times_x β₁ M s in
    bytes_of (Υ h τ (X.0 ⊕ β) (X.1 ⊕ β) (blocks t)) ++ t
