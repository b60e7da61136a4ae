-- The check is written behind the payload, and the block enciphered.
use Prim.Native.Nat.{◌≤◌}
use mathlib.Core.Path.{◌≡◌}
use native.Mathlib.Omega.{arith}
use borrow.Author.Tests.{eq-eqb}
use lib.ListN.{length, take, length-take}
use Rattle.layout.specs.Layout.{plain_block}
use Rattle.layout.proofs.Check.{both_fit, length_plain}
use Rattle.pack.specs.Inner.{on_block}
use Rattle.pack.specs.Sealing.{seal as sealed_by}
use Rattle.runs.proofs.sealing.seal_block.Goals as goal

pub returns : goal.returns
unfolding sealed_by on_block
returns g c =
    let a = c.args in
    let p = a.position in
    let B = a.block.now in
    let payload = take a.u B in
    let short : length payload ≤ 496 = rw length-take (omega (arith, c.requires.1)) in
    let plain : c.complete.new.block ≡ plain_block payload p.pack p.place = rw (c.complete.ensures, both_fit payload B short c.requires.0) in
    rw (c.encipher.ensures.block_after, plain, eq-eqb _ 512 (length_plain payload p.pack p.place short))
