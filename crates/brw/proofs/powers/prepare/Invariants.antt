-- Before each turn the powers below number i stand in the words, and zeros behind them; the last is what was squared last.
use Prim.Native.Nat.{ℕ, ◌-◌, ◌^◌, ◌≤◌, ◌<◌}
use mathlib.Core.Path.{◌≡◌}
use mathlib.Core.List.{List}
use lib.ListN.{length}
use Rattle.blocks.specs.Blocks.{IsBlock}
use Rattle.blocks.specs.Field.{power}
use Rattle.blocks.specs.BlockField.{◌·◌}
use Rattle.blocks.specs.Inner.{value}
use Rattle.brw.specs.Inner.{power_at, prepared}
use Rattle.brw.proofs.powers.prepare.Given as goal

pub record Inv (t n : ℕ) (words : List ℕ) (square i : ℕ) : Type 0 where
  pub block : IsBlock t
  pub size : length words ≡ 16
  pub from_one : 1 ≤ i
  pub to_eight : i ≤ 8
  pub is_square : square ≡ power 1 ◌·◌ t (2 ^ (i - 1))
  pub done : (j : ℕ) → j < i → power_at words j ≡ prepared t n j
  pub rest : (j : ℕ) → i ≤ j → power_at words j ≡ 0

abbrev pub invariant-loop-i : goal.invariant-loop-i
invariant-loop-i l = Inv (value l.initial.square) l.n l.powers (value l.square) l.i
