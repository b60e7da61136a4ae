-- Point 2 of 02: a run is n blocks, one behind the other, and its block i stands for the place first + i.
use Rattle.std.specs.Prelude.{ℕ, zero, suc, ◌+◌, ◌-◌, ◌≡◌, List, [], ◌∷◌, ◌++◌, ltb, eqb}
use Rattle.strings.specs.One.{tally}
use Rattle.layout.specs.Finding.{block_count, part, with_part}

-- The place of the last block.
abbrev pub last_place : (first : ℕ) (run : List ℕ) → ℕ
last_place first run = first + block_count run - 1

-- What f makes of the blocks 0 to n - 1 of a run, one behind the other.
unfoldable pub blockwise : (f : ℕ → List ℕ → List ℕ) (n : ℕ) (run : List ℕ) → List ℕ
blockwise f zero run = []
blockwise f (suc n) run = blockwise f n run ++ f n (part n run)

-- 02, "the one-block calls made one by one": `call i` is made on block i where it stands, for each i of the order, and what it leaves stands there then.
unfoldable pub one_by_one : (call : ℕ → List ℕ → List ℕ) (order run : List ℕ) → List ℕ
one_by_one call [] run = run
one_by_one call (i ∷ order) run = one_by_one call order (with_part i (call i (part i run)) run)

-- How often a number stands in a list.
unfoldable pub times : ℕ → List ℕ → ℕ
times i [] = 0
times i (j ∷ order) = tally (eqb i j) + times i order

-- An order of n blocks: the numbers below n stand in it once each, and no other does.
abbrev pub OrderOf : (n : ℕ) (order : List ℕ) → Type 0
OrderOf n order = (i : ℕ) → times i order ≡ tally (ltb i n)
