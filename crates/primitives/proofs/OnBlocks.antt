-- Permutations of 16 bytes, carried to blocks.
-- Assumes nothing.
use Rattle.std.proofs.Common.{◌≡◌, ℕ, List, mod-eq_of_lt}
use Rattle.strings.specs.Bytes.{OfLength, number, bytes}
use Rattle.strings.specs.Cipher.{Permutation}
use Rattle.strings.proofs.Bytes.{length-bytes, bytes_below, number_below, number-bytes, bytes-number}
use Rattle.strings.proofs.Permutations.{backwards}
use Rattle.blocks.specs.Blocks.{IsBlock}

-- The 16 bytes of a block are carried there, and back again: half of `on_blocks`.
bytes_are : (b : ℕ) → OfLength 16 (bytes 16 b)
bytes_are b = (length-bytes 16 b, bytes_below 16 b)

there : {f g : List ℕ → List ℕ} → Permutation (OfLength 16) f g → (b : ℕ) → IsBlock b → IsBlock (number (f (bytes 16 b)))
there {f} p b h =
    let k = p.keeps (bytes 16 b) (bytes_are b) in
    rw k.0 at (number_below (f (bytes 16 b)) k.1)

again : {f g : List ℕ → List ℕ} → Permutation (OfLength 16) f g → (b : ℕ) → IsBlock b → number (g (bytes 16 (number (f (bytes 16 b))))) ≡ b
again {f} p b h =
    let k = p.keeps (bytes 16 b) (bytes_are b) in
    let e : bytes 16 (number (f (bytes 16 b))) ≡ f (bytes 16 b) = rw k.0 at (bytes-number (f (bytes 16 b)) k.1) in
    rw (e, p.undone (bytes 16 b) (bytes_are b), number-bytes) (mod-eq_of_lt h)

pub on_blocks : {f g : List ℕ → List ℕ} → Permutation (OfLength 16) f g
    → Permutation IsBlock (λ b. number (f (bytes 16 b))) (λ b. number (g (bytes 16 b)))
on_blocks p = record { keeps = there p; inverse_keeps = there (backwards p); undone = again p; undoes = again (backwards p) }
