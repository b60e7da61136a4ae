-- A whole block by its words, and else the low half in 16 bytes, and the high half over their zeros.
use Prim.Native.Nat.{ℕ, ◌/◌, ◌^◌, ◌<◌}
use native.Mathlib.Omega.{arith}
use mathlib.Core.Path.{◌≡◌, sym, ◌∙◌}
use mathlib.Core.List.{List}
use lib.ListN.{length}
use Rattle.strings.specs.Bytes.{bytes}
use Rattle.strings.specs.Inner.{overwrite}
use Rattle.blocks.specs.Inner.{value}
use Rattle.strings.proofs.Place.{bytes_join, overwrite_again}
use Rattle.strings.proofs.Bytes.{length-bytes, bytes-append}
use Rattle.blocks.proofs.block.Block.write.Goals as goal

pub returns : goal.returns
unfolding value
returns c =
    let a = c.args in
    let low : a.self.lo < 2 ^ 64 = omega arith in
    let front : List ℕ = bytes 8 (a.self.lo / 2 ^ 64) in
    let same : length front ≡ length (bytes 8 a.self.hi) = length-bytes 8 (a.self.lo / 2 ^ 64) ∙ sym (length-bytes 8 a.self.hi) in
    let first : c.put.new.out ≡ overwrite a.at (bytes 16 a.self.lo) a.out.now = c.put.ensures in
    rw (c.put-2.ensures, first, bytes_join 8 8 a.self.hi low, bytes-append 8 8 a.self.lo)
    (overwrite_again a.at front (bytes 8 a.self.hi) (bytes 8 a.self.lo) a.out.now same)
