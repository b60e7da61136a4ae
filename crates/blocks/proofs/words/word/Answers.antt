-- The four bytes, added up from the highest.
use native.Mathlib.Omega.{arith}
use Rattle.strings.specs.Bytes.{number}
use Rattle.blocks.proofs.words.word.Goals as goal

pub returns : goal.returns
unfolding number
returns c = omega arith
