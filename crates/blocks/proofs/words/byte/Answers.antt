-- The four bytes of a word, each by its place.
use Prim.Native.Nat.{ℕ, zero, suc, ◌-◌, ◌*◌, ◌/◌, ◌%◌, ◌^◌, ◌<◌}
use mathlib.Core.Path.{◌≡◌, refl}
use native.Mathlib.Omega.{arith}
use lib.ListN.{get_or}
use Rattle.strings.specs.Bytes.{bytes}
use Rattle.blocks.proofs.words.byte.Goals as goal

shifted : (w i : ℕ) → i < 4 → w / 2 ^ (24 - 8 * i) % 256 ≡ get_or (bytes 4 w) i 0
unfolding bytes
shifted w zero h = refl
shifted w (suc zero) h = refl
shifted w (suc (suc zero)) h = refl
shifted w (suc (suc (suc zero))) h = refl
shifted w (suc (suc (suc (suc i)))) h = absurd (omega arith)

pub returns : goal.returns
returns c = shifted c.args.w (c.args.i % 4) (omega arith)
