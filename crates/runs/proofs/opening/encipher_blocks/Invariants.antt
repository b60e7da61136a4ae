-- What is enciphered and what is left to do make the run: one block goes from the one to the other at each turn.
use Prim.Native.Nat.{ℕ, ◌+◌}
use mathlib.Core.Path.{◌≡◌}
use mathlib.Core.List.{List, []}
use lib.ListN.{length}
use Rattle.strings.specs.Cipher.{Scheme}
use Rattle.layout.specs.Layout.{tweak}
use Rattle.runs.specs.Inner.{walked}
use Rattle.runs.proofs.opening.encipher_blocks.Given as goal

abbrev pub again : (S : Scheme) (pack first : ℕ) → ℕ → List ℕ → List ℕ
again S pack first i B = S.encipher [] (tweak pack (first + i)) B

abbrev pub invariant-loop-i : goal.invariant-loop-i
invariant-loop-i g l =
    (l.run ≡ walked (again (g.S.Scheme.under l.expanded) l.start.pack l.start.place) l.initial.run l.i) × (length l.run ≡ length l.initial.run)
