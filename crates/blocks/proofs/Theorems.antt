-- Every theorem of specs/Theorems.antt, from the laws beside this file.
-- Assumes nothing.
use Rattle.blocks.specs.Theorems.{Theorems}
use Rattle.blocks.proofs.Ring as Ring
use Rattle.blocks.proofs.Horner as Horner
use Rattle.blocks.proofs.Counter.{counter_cipher}

pub theorems : Theorems
theorems = record {
  ring = Ring.ring;
  x_to_the_k = Ring.x-power;
  ring_of_blocks = Ring.ring_of_blocks;
  ring_of_bytes = Ring.ring_of_bytes;
  phi_power = λ k p hk hp β i h. Ring.phi_power k p hk hp β h i;
  horner_rule = λ k one ◌·◌ ring. Horner.horner_rule ring;
  counter_mode = counter_cipher;
}
