-- The blocks of parts of a string that begin or end where a block does.
-- Assumes nothing.
use Prim.Native.Nat.{ℕ, zero, suc, ◌+◌, ◌*◌, ◌≤◌, ◌<◌}
use mathlib.Core.Path.{◌≡◌, refl, sym, ap, ◌∙◌}
use mathlib.Core.List.{List, [], ◌∷◌}
use native.Mathlib.Nat.{zero-lt-suc, add-zero}
use native.Mathlib.Omega.{arith}
use lib.ListN.{length, get_or, take, drop, length-drop}
use lib.Seq.{drop-drop, drop-nil, take-add, take-take, length-take-le, get_or-drop, drop_at}
use Rattle.blocks.specs.Blocks.{first_block, blocks}
use Rattle.blocks.proofs.Blocks.{blocks_nil, blocks_cons, length-blocks}

-- 16 times one more.
next : (k : ℕ) (s : List ℕ) → drop (16 * suc k) s ≡ drop (16 * k) (drop 16 s)
next k s =
    let e : 16 * suc k ≡ 16 + 16 * k = omega arith in
    rw e (sym (drop-drop (16 * k) 16 s))

pub blocks-drop : (k : ℕ) (s : List ℕ) → blocks (drop (16 * k) s) ≡ drop k (blocks s)
blocks-drop zero s = refl
blocks-drop (suc k) [] = rw (drop-nil (16 * suc k), blocks_nil)
blocks-drop (suc k) (b ∷ s) = rw (next k (b ∷ s), blocks_cons (b ∷ s) (zero-lt-suc (length s))) (blocks-drop k (drop 16 (b ∷ s)))

pub blocks_get : (j : ℕ) (s : List ℕ) → j < length (blocks s) → first_block (drop (16 * j) s) ≡ get_or (blocks s) j 0
blocks_get j s h =
    let some : 0 < length (drop (16 * j) s) = rw length-drop (omega (arith, rw length-blocks at h)) in
    ap (λ (l : List ℕ). get_or l 0 0) (sym (blocks_cons (drop (16 * j) s) some) ∙ blocks-drop j s) ∙ get_or-drop j (blocks s) 0 0 ∙ ap (λ (i : ℕ). get_or (blocks s) i 0) (add-zero j)

first_taken : (n : ℕ) (s : List ℕ) → 16 ≤ n → first_block (take n s) ≡ first_block s
unfolding first_block
first_taken n s h = rw (take-take 16 n s h)

drop_taken : (n : ℕ) (s : List ℕ) → 16 ≤ length s → drop 16 (take (16 + n) s) ≡ take n (drop 16 s)
drop_taken n s h = rw (take-add 16 n s) (drop_at (take 16 s) (take n (drop 16 s)) 16 (length-take-le 16 s h))

pub blocks-take : (j : ℕ) (s : List ℕ) → 16 * j ≤ length s → blocks (take (16 * j) s) ≡ take j (blocks s)
blocks-take zero s h = blocks_nil
blocks-take (suc j) s h =
    let e : 16 * suc j ≡ 16 + 16 * j = omega arith in
    let l : 16 + 16 * j ≤ length s = omega (arith, h) in
    let t : List ℕ = take (16 + 16 * j) s in
    let some : 0 < length t = rw (length-take-le (16 + 16 * j) s l) (omega arith) in
    let rest : blocks (take (16 * j) (drop 16 s)) ≡ take j (blocks (drop 16 s)) = blocks-take j (drop 16 s) (rw length-drop (omega (arith, l))) in
    rw (e, blocks_cons t some, first_taken (16 + 16 * j) s (omega arith), drop_taken (16 * j) s (omega (arith, l)), rest, blocks_cons s (omega (arith, l)))
