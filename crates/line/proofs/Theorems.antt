-- Every theorem of specs/Theorems.antt, from the laws beside this file.
-- Assumes nothing.
use Rattle.line.specs.Theorems.{Theorems}
use Rattle.line.proofs.Chunks.{in_chunks}

pub theorems : Theorems
theorems = record { in_chunks = in_chunks }
