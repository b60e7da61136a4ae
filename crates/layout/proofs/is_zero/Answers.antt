-- All 512 bytes are compared with zeros.
use lib.Seq.{take_all}
use Rattle.std.proofs.Common.{arith, ◌≡◌, ◌∙◌, eqb, length, take}
use Rattle.strings.specs.Bytes.{bytes, equal}
use Rattle.layout.specs.Layout.{is_zero}
use Rattle.layout.proofs.Check.{zero_bytes}
use Rattle.layout.proofs.is_zero.Goals as goal

pub returns-then-block-eq512 : goal.returns-then-block-eq512
returns-then-block-eq512 c =
    let C = c.args.block.now in
    let size : length C ≡ 512 = c.if-block-eq512.true in
    let compared : eqb c.difference.result 0 ≡ equal (take 512 C) (bytes (length (take 512 C)) 0) = c.difference.ensures in
    let all : equal (take 512 C) (bytes (length (take 512 C)) 0) ≡ is_zero C = rw (take_all 512 C (omega (arith, size))) (zero_bytes C size) in
    compared ∙ all
