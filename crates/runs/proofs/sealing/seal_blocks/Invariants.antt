-- What is sealed and what is left to do make the run: one block goes from the one to the other at each turn.
use Prim.Native.Nat.{ℕ, ◌+◌}
use mathlib.Core.Path.{◌≡◌}
use mathlib.Core.List.{List, []}
use lib.ListN.{length, get_or, take}
use Rattle.strings.specs.Cipher.{Scheme}
use Rattle.pack.specs.Sealing.{seal}
use Rattle.runs.specs.Inner.{walked}
use Rattle.runs.proofs.sealing.seal_blocks.Given as goal

abbrev pub one : (S : Scheme) (pack first : ℕ) (lengths : List ℕ) → ℕ → List ℕ → List ℕ
one S pack first lengths i B = seal S [] (take (get_or lengths i 0) B) pack (first + i)

abbrev pub invariant-loop-i : goal.invariant-loop-i
invariant-loop-i g l =
    (l.run ≡ walked (one (g.S.Scheme.under l.expanded) l.start.pack l.start.place l.lengths) l.initial.run l.i) × (length l.run ≡ length l.initial.run)
