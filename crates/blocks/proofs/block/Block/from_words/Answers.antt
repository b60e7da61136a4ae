-- The words side by side: what is shifted up loses nothing.
use Prim.Native.Nat.{ℕ, ◌*◌, ◌%◌, ◌^◌, ◌<◌}
use mathlib.Core.Path.{◌≡◌}
use native.Mathlib.Omega.{arith}
use mir.Syntax.{w32}
use lib.ListN.{get_or}
use Rattle.strings.specs.Bytes.{Below}
use Rattle.blocks.specs.Inner.{value}
use Rattle.strings.proofs.Arrays.{elements}
use Rattle.blocks.proofs.BlockWords.{words_number}
use Rattle.blocks.proofs.block.Block.from_words.Goals as goal

up : (a : ℕ) → a < 2 ^ 32 → a * 2 ^ 32 % 2 ^ 64 ≡ a * 2 ^ 32
up a h = omega arith

fit : (c : goal.Start) → Below (2 ^ 32) c.args.w
fit c = elements w32 4 c.args.w _ c.well_formed.0

pub returns : goal.returns
unfolding value
returns c =
    let w = c.args.w in
    let h = fit c in
    rw (up (get_or w 0 0) (h 0), up (get_or w 2 0) (h 2)) (words_number w h)
