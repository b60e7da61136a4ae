-- What is opened and what is left to do make the run, and each block so far opens.
use Prim.Native.Nat.{ℕ, ◌+◌}
use mathlib.Core.Path.{◌≡◌}
use mathlib.Core.List.{List, []}
use lib.ListN.{length}
use Rattle.strings.specs.Cipher.{Scheme}
use Rattle.pack.specs.Opening.{deciphered_block}
use Rattle.runs.specs.Opening.{EarlierOpen}
use Rattle.runs.specs.Inner.{walked}
use Rattle.runs.proofs.opening.open_in_turn.Given as goal

abbrev pub one : (S : Scheme) (pack first : ℕ) → ℕ → List ℕ → List ℕ
one S pack first i C = deciphered_block S [] pack (first + i) C

abbrev pub invariant-loop-i : goal.invariant-loop-i
invariant-loop-i g l =
    let S = g.S.Scheme.under l.expanded in
    (l.run ≡ walked (one S l.start.pack l.start.place) l.initial.run l.i) × EarlierOpen S [] l.start.pack l.start.place l.initial.run l.i
    × (length l.run ≡ length l.initial.run)
