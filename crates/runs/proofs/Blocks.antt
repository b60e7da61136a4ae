-- The blocks of a run: what is made of them one behind the other, and what a loop over them leaves.
-- Assumes nothing.
use Prim.Native.Nat.{ℕ, zero, suc, ◌+◌, ◌-◌, ◌*◌, ◌≤◌, ◌<◌}
use mathlib.Core.Path.{◌≡◌, refl, sym, ap, ◌∙◌}
use mathlib.Core.Logic.{⊎_elim}
use mathlib.Core.List.{List, [], ◌∷◌, ◌++◌, append_assoc, append-nil}
use native.Mathlib.Nat.{eq-or-lt_of_le, mul-suc, one-mul}
use native.Mathlib.Numerals.{add-one}
use native.Mathlib.Omega.{arith}
use lib.ListN.{length, get_or, take, drop, length-append, length-drop, drop_of_length-le, take-append-drop}
use lib.Seq.{take-add, take_all, take_at, drop_at, drop-drop, get_or-drop, get_or-take}
use Rattle.layout.specs.Finding.{part}
use Rattle.layout.proofs.Parts.{before_or_from}
use Rattle.runs.specs.Run.{blockwise}
use Rattle.runs.specs.Inner.{walked}

-- ---- what f makes of n blocks, w entries of each

module _ (w : ℕ) (f : ℕ → List ℕ → List ℕ) (run : List ℕ) where
  pub length-blockwise : (n : ℕ) → ((i : ℕ) → i < n → length (f i (part i run)) ≡ w) → length (blockwise f n run) ≡ w * n
  unfolding blockwise
  length-blockwise zero sized = omega arith
  length-blockwise (suc n) sized =
      rw (length-append, length-blockwise n (λ i h. sized i (omega (arith, h))), sized n (omega arith), mul-suc)

  -- Block j of them, also where something stands behind them.
  pub nth_blockwise : (n : ℕ) → ((i : ℕ) → i < n → length (f i (part i run)) ≡ w) → (j : ℕ) → j < n → (rest : List ℕ)
      → take w (drop (w * j) (blockwise f n run ++ rest)) ≡ f j (part j run)
  unfolding blockwise
  nth_blockwise zero sized j h rest = absurd (omega (arith, h))
  nth_blockwise (suc n) sized j h rest =
      let before : (i : ℕ) → i < n → length (f i (part i run)) ≡ w = λ i l. sized i (omega (arith, l)) in
      rw (append_assoc (blockwise f n run) (f n (part n run)) rest)
      (⊎_elim (λ (e : suc j ≡ suc n).
      let same : j ≡ n = omega (arith, e) in
      rw (same, drop_at (blockwise f n run) (f n (part n run) ++ rest) (w * n) (length-blockwise n before))
      (take_at (f n (part n run)) rest w (sized n (omega arith))))
      (λ (l : suc j < suc n). nth_blockwise n before j (omega (arith, l)) (f n (part n run) ++ rest)) (eq-or-lt_of_le h))

pub part-blockwise : (f : ℕ → List ℕ → List ℕ) (run : List ℕ) (n : ℕ) → ((i : ℕ) → i < n → length (f i (part i run)) ≡ 512) → (j : ℕ) → j < n
    → part j (blockwise f n run) ≡ f j (part j run)
unfolding part
part-blockwise f run n sized j h = rw (append-nil (blockwise f n run)) at (nth_blockwise 512 f run n sized j h [])

-- A number for each block.
pub get_or-blockwise : (g : ℕ → List ℕ → ℕ) (run : List ℕ) (n j : ℕ) → j < n → get_or (blockwise (λ i B. g i B ∷ []) n run) j 0 ≡ g j (part j run)
get_or-blockwise g run n j h =
    let made = blockwise (λ i B. g i B ∷ []) n run in
    let e : take 1 (drop j made) ≡ g j (part j run) ∷ [] = rw (append-nil made, one-mul) at (nth_blockwise 1 (λ i B. g i B ∷ []) run n (λ i l. refl) j h []) in
    let there : j ≡ j + 0 = omega arith in
    ap (λ (k : ℕ). get_or made k 0) there ∙ sym (get_or-drop j made 0 0) ∙ sym (get_or-take 1 (drop j made) 0 0 (omega arith)) ∙ ap (λ (s : List ℕ). get_or s 0 0) e

-- Two makings that agree on each block agree.
pub blockwise_same : (f g : ℕ → List ℕ → List ℕ) (n : ℕ) (run other : List ℕ) → ((i : ℕ) → i < n → f i (part i run) ≡ g i (part i other))
    → blockwise f n run ≡ blockwise g n other
unfolding blockwise
blockwise_same f g zero run other same = refl
blockwise_same f g (suc n) run other same =
    rw (blockwise_same f g n run other (λ i h. same i (omega (arith, h))), same n (omega arith))

-- The blocks themselves are the run.
pub blockwise_self : (n : ℕ) (run : List ℕ) → blockwise (λ i B. B) n run ≡ take (512 * n) run
unfolding blockwise part
blockwise_self zero run = refl
blockwise_self (suc n) run =
    let more : 512 * suc n ≡ 512 * n + 512 = omega arith in
    rw (blockwise_self n run, more) (sym (take-add (512 * n) 512 run))

-- Two strings of n blocks with the same blocks are the same.
pub same_blocks : (n : ℕ) (run other : List ℕ) → length run ≡ 512 * n → length other ≡ 512 * n → ((i : ℕ) → i < n → part i run ≡ part i other) → run ≡ other
same_blocks n run other h k same =
    sym (take_all (512 * n) run (omega (arith, h))) ∙ sym (blockwise_self n run) ∙ blockwise_same (λ i B. B) (λ i B. B) n run other same
    ∙ blockwise_self n other ∙ take_all (512 * n) other (omega (arith, k))

-- A block, as the code has its ends.
pub lent_part : (i : ℕ) (run : List ℕ) → take (512 * i + 512 - 512 * i) (drop (512 * i) run) ≡ part i run
unfolding part
lent_part i run =
    let long : 512 * i + 512 - 512 * i ≡ 512 = omega arith in
    rw long

-- ---- a loop over the blocks: the first i are made, the others are as they were

module _ (f : ℕ → List ℕ → List ℕ) (run : List ℕ) where
  pub walked_none : walked f run 0 ≡ run
  unfolding walked blockwise
  walked_none = refl

  pub walked_all : (n : ℕ) → length run ≡ 512 * n → walked f run n ≡ blockwise f n run
  unfolding walked
  walked_all n h =
      let none : drop (512 * n) run ≡ [] = drop_of_length-le run {i = 512 * n} (omega (arith, h)) in
      rw (none, append-nil (blockwise f n run))

  walked_suc : (i : ℕ) → walked f run (suc i) ≡ blockwise f i run ++ (f i (part i run) ++ drop (512 * suc i) run)
  unfolding walked blockwise
  walked_suc i = append_assoc (blockwise f i run) (f i (part i run)) (drop (512 * suc i) run)

  module _ (i : ℕ) (sized : (j : ℕ) → j < i → length (f j (part j run)) ≡ 512) where
    -- What is made, and what is left.
    pub walked_front : take (512 * i) (walked f run i) ≡ blockwise f i run
    unfolding walked
    walked_front = take_at (blockwise f i run) (drop (512 * i) run) (512 * i) (length-blockwise 512 f run i sized)

    pub walked_rest : drop (512 * i) (walked f run i) ≡ drop (512 * i) run
    unfolding walked
    walked_rest = drop_at (blockwise f i run) (drop (512 * i) run) (512 * i) (length-blockwise 512 f run i sized)

    -- The next block, lent by itself, and the whole when it comes back as t.
    pub walked_block : take (512 * i + 512 - 512 * i) (drop (512 * i) (walked f run i)) ≡ part i run
    walked_block = rw walked_rest (lent_part i run)

    pub walked_next : {t : List ℕ} → t ≡ f i (part i run)
        → take (512 * i) (walked f run i) ++ (t ++ drop (512 * i + 512 - 512 * i) (drop (512 * i) (walked f run i))) ≡ walked f run (i + 1)
    walked_next {t} e =
        let long : 512 * i + 512 - 512 * i ≡ 512 = omega arith in
        let there : 512 * i + 512 ≡ 512 * suc i = omega arith in
        let behind : drop 512 (drop (512 * i) (walked f run i)) ≡ drop (512 * suc i) run = rw (walked_rest, drop-drop 512 (512 * i) run, there) in
        rw (long, walked_front, behind, e, add-one i) (sym (walked_suc i))

    -- A turn of a loop that makes t of the next block by h, which is f there.
    pub turn : {R t : List ℕ} (h : List ℕ → List ℕ) → R ≡ walked f run i → t ≡ h (take (512 * i + 512 - 512 * i) (drop (512 * i) R)) → h (part i run) ≡ f i (part i run)
        → take (512 * i) R ++ (t ++ drop (512 * i + 512 - 512 * i) (drop (512 * i) R)) ≡ walked f run (i + 1)
    turn {R} {t} h here made same =
        rw here (walked_next (made ∙ ap (λ (s : List ℕ). h (take (512 * i + 512 - 512 * i) (drop (512 * i) s))) here ∙ ap h walked_block ∙ same))

    pub walked-length : 512 * i ≤ length run → length (walked f run i) ≡ length run
    unfolding walked
    walked-length h = rw (length-append, length-blockwise 512 f run i sized, length-drop) (omega (arith, h))

-- A part that comes back as it was lent.
pub part_same : {R t : List ℕ} (a k : ℕ) → t ≡ take k (drop a R) → take a R ++ (t ++ drop k (drop a R)) ≡ R
part_same {R} {t} a k e = rw (e, take-append-drop k (drop a R)) (take-append-drop a R)

-- What holds of the numbers below i and of i holds of those below i + 1.
pub below_more : (P : ℕ → Type 0) (i : ℕ) → ((j : ℕ) → j < i → P j) → P i → (j : ℕ) → j < i + 1 → P j
below_more P i before here j h =
    before_or_from j i (λ less. before j less) (λ from. let same : i ≡ j = omega (arith, h, from) in rw same at here)
