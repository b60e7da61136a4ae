-- What the code does with the lent bytes, as steps of Tables 1 and 2.
-- Assumes nothing.
use Prim.Native.Nat.{ℕ, ◌-◌, ◌*◌, ◌≤◌}
use mathlib.Core.Path.{◌≡◌, sym, ◌∙◌}
use mathlib.Core.List.{List, [], ◌∷◌, ◌++◌}
use native.Mathlib.Omega.{arith}
use lib.ListN.{length, take, drop, length-append, length-drop}
use lib.Seq.{drop_at, length-take-le}
use Rattle.strings.specs.Xor.{◌⊕◌}
use Rattle.strings.specs.Bytes.{number, bytes}
use Rattle.strings.specs.Inner.{overwrite}
use Rattle.blocks.specs.Blocks.{IsBlock, first_block, blocks}
use Rattle.blocks.specs.BlockField.{◌·◌, power_sum}
use Rattle.blocks.specs.Counter.{masked_bytes}
use Rattle.blocks.specs.Field.{power, power_sum as power_sum_over}
use Rattle.strings.proofs.Bytes.{length-bytes}
use Rattle.strings.proofs.Xor.{xor_zero}
use Rattle.strings.proofs.Place.{part_behind, put_back, overwrite-append, overwrite_front_part}
use Rattle.blocks.proofs.Blocks.{block_first}
use Rattle.blocks.proofs.Ring.{ring_of_blocks}
use Rattle.forward.specs.Forward.{KeyDef1, MCTR, Υ, Feistel, swapped_feistel, encipher, decipher}
use Rattle.forward.specs.Inner.{bytes_of, mctr_bytes, from_m}

-- The polynomial hash of one block.
pub hash_one : (τ X : ℕ) → IsBlock τ → power_sum τ (X ∷ []) ≡ X · τ
unfolding power_sum_over power
hash_one τ X h = rw (xor_zero, ring_of_blocks.one_right τ h)

-- Two blocks written in front.
written_two : (p : ℕ × ℕ) (a t : List ℕ) → length a ≡ 32 → overwrite 16 (bytes 16 p.1) (overwrite 0 (bytes 16 p.0) (a ++ t)) ≡ bytes_of p ++ t
written_two p a t h =
    let both : overwrite 0 (bytes_of p) (a ++ t) ≡ overwrite 16 (bytes 16 p.1) (overwrite 0 (bytes 16 p.0) (a ++ t)) =
    rw (length-bytes 16 p.0) at (overwrite-append 0 (bytes 16 p.0) (bytes 16 p.1) (a ++ t)) in
    sym both ∙ overwrite_front_part 32 a t (bytes_of p) h (rw (length-append, length-bytes 16 p.0, length-bytes 16 p.1))

-- The counter step on the part behind the first two blocks, the part put back, the hash of it written in front.
pub finished : (E times_x : ℕ → ℕ) (h : ℕ → List ℕ → ℕ) (τ β₁ β M : ℕ) (X : ℕ × ℕ) (s : List ℕ) → 32 ≤ length s
    → let t = mctr_bytes E times_x β₁ M (take (length s - 32) (drop 32 s)) in
    let s' = take 32 s ++ (t ++ drop (length s - 32) (drop 32 s)) in
    let C = Υ h τ (X.0 ⊕ β) (X.1 ⊕ β) (blocks (drop 32 s')) in
    overwrite 16 (bytes 16 C.1) (overwrite 0 (bytes 16 C.0) s') ≡ from_m E times_x h τ β₁ β M X (drop 32 s)
unfolding from_m
finished E times_x h τ β₁ β M X s l =
    let t : List ℕ = mctr_bytes E times_x β₁ M (drop 32 s) in
    let front : length (take 32 s) ≡ 32 = length-take-le 32 s l in
    rw (part_behind 32 s, put_back 32 s t, drop_at (take 32 s) t 32 front) (written_two (Υ h τ (X.0 ⊕ β) (X.1 ⊕ β) (blocks t)) (take 32 s) t front)

-- The first two blocks read where they stand.
second_block : (s : List ℕ) → 32 ≤ length s → first_block (drop 16 s) ≡ number (take 16 (drop 16 s))
second_block s l = block_first (drop 16 s) (rw length-drop (omega (arith, l)))

-- Table 1, both ways.
pub enciphering : (E times_x : ℕ → ℕ) (h : ℕ → List ℕ → ℕ) (T : ℕ) (s : List ℕ) → 32 ≤ length s
    → let K = KeyDef1 E times_x T (8 * length s) in
    let A = Υ h K.τ (first_block s ⊕ K.β₁) (first_block (drop 16 s) ⊕ K.β₁) (blocks (drop 32 s)) in
    let B = Feistel E h K.τ' A.0 A.1 in
    from_m E times_x h K.τ K.β₁ K.β₂ (A.0 ⊕ A.1 ⊕ B.0 ⊕ B.1) B (drop 32 s) ≡ encipher E times_x h T s
unfolding encipher from_m mctr_bytes masked_bytes MCTR
enciphering E times_x h T s l = rw (block_first s (omega (arith, l)), second_block s l)

pub deciphering : (E times_x : ℕ → ℕ) (h : ℕ → List ℕ → ℕ) (T : ℕ) (s : List ℕ) → 32 ≤ length s
    → let K = KeyDef1 E times_x T (8 * length s) in
    let B = Υ h K.τ (first_block s ⊕ K.β₂) (first_block (drop 16 s) ⊕ K.β₂) (blocks (drop 32 s)) in
    let A = swapped_feistel E h K.τ' B.0 B.1 in
    from_m E times_x h K.τ K.β₁ K.β₁ (A.0 ⊕ A.1 ⊕ B.0 ⊕ B.1) A (drop 32 s) ≡ decipher E times_x h T s
unfolding decipher from_m mctr_bytes masked_bytes MCTR
deciphering E times_x h T s l = rw (block_first s (omega (arith, l)), second_block s l)
