-- Byte by byte: row 1 of the column that the byte there adds.
use Rattle.std.proofs.Common.{ℕ, List, get_or, ap, ◌∙◌, arith}
use Rattle.strings.specs.Bytes.{bytes}
use Rattle.strings.proofs.Bytes.{be_bytes}
use Rattle.primitives.specs.Aes.{at, state, byte_of}
use Rattle.strings.proofs.Filled.{one_filled, all_filled}
use Rattle.primitives.proofs.state.sub_bytes.Goals as goal

pub loop-i-preserved : goal.loop-i-preserved
loop-i-preserved c =
    one_filled _ c.loop-i.invariant (omega arith)
    (ap (λ (s : List ℕ). get_or s 1 0) (c.to_be_bytes.ensures ∙ be_bytes c.added.result) ∙ ap (λ (w : ℕ). get_or (bytes 4 w) 1 0) c.added.ensures)

pub returns : goal.returns
unfolding at state byte_of
returns c = all_filled c.loop-i.invariant c.loop-i-test.false
