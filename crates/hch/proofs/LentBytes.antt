-- What the code does with the lent bytes, as steps of Table II.
-- Assumes nothing.
use Prim.Native.Nat.{ℕ, ◌-◌, ◌≤◌}
use mathlib.Core.Path.{◌≡◌}
use mathlib.Core.List.{List, ◌++◌}
use lib.ListN.{length, take, drop}
use lib.Seq.{drop_at, length-take-le}
use Rattle.strings.specs.Xor.{◌⊕◌}
use Rattle.strings.specs.Bytes.{bytes}
use Rattle.strings.specs.Inner.{overwrite}
use Rattle.blocks.specs.Blocks.{first_block, blocks}
use Rattle.blocks.specs.Counter.{masked_bytes}
use Rattle.strings.proofs.Bytes.{length-bytes}
use Rattle.blocks.proofs.Blocks.{block_first}
use Rattle.strings.proofs.Place.{part_behind, put_back, overwrite_front_part}
use Rattle.hch.specs.Hch.{length_block, H, Ctr, encipher, decipher}
use Rattle.hch.specs.Inner.{ctr_bytes, from_i}

-- The counter step on the part behind the first block, the part put back, the hash of it written in front.
pub finished : (E : ℕ → ℕ) (sum : ℕ → List ℕ → ℕ) (R Q I A₁ : ℕ) (s : List ℕ) → 16 ≤ length s
    → let t = ctr_bytes E (E I) (take (length s - 16) (drop 16 s)) in
    let s' = take 16 s ++ (t ++ drop (length s - 16) (drop 16 s)) in
    overwrite 0 (bytes 16 (H sum R Q A₁ (blocks (drop 16 s')))) s' ≡ from_i E sum R Q I A₁ (drop 16 s)
unfolding from_i
finished E sum R Q I A₁ s h =
    let t : List ℕ = ctr_bytes E (E I) (drop 16 s) in
    let front : length (take 16 s) ≡ 16 = length-take-le 16 s h in
    rw (part_behind 16 s, put_back 16 s t, drop_at (take 16 s) t 16 front)
    (overwrite_front_part 16 (take 16 s) t (bytes 16 (H sum R Q A₁ (blocks t))) front (length-bytes 16 (H sum R Q A₁ (blocks t))))

-- The first block read where it stands: Table II, either side.
pub enciphering : (E times_x : ℕ → ℕ) (sum : ℕ → List ℕ → ℕ) (T : ℕ) (s : List ℕ) → 16 ≤ length s
    → let R = E T in
    let Q = E (R ⊕ length_block (length s)) in
    let M₁ = H sum R Q (first_block s) (blocks (drop 16 s)) in
    from_i E sum R (times_x Q) (M₁ ⊕ E M₁) (E M₁) (drop 16 s) ≡ encipher E times_x sum T s
unfolding encipher from_i ctr_bytes masked_bytes Ctr
enciphering E times_x sum T s h = rw (block_first s h)

pub deciphering : (E D times_x : ℕ → ℕ) (sum : ℕ → List ℕ → ℕ) (T : ℕ) (s : List ℕ) → 16 ≤ length s
    → let R = E T in
    let Q = E (R ⊕ length_block (length s)) in
    let U₁ = H sum R (times_x Q) (first_block s) (blocks (drop 16 s)) in
    from_i E sum R Q (D U₁ ⊕ U₁) (D U₁) (drop 16 s) ≡ decipher E D times_x sum T s
unfolding decipher from_i ctr_bytes masked_bytes Ctr
deciphering E D times_x sum T s h = rw (block_first s h)
