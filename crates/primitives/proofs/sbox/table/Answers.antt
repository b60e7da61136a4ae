-- One test over the table.
use Rattle.std.proofs.Common.{refl}
use Rattle.strings.specs.Xor.{◌⊕◌}
use Rattle.primitives.specs.Aes.{bit, of_bits, affine}
use Rattle.primitives.proofs.Inverse.{inverses}
use Rattle.primitives.proofs.Substitution.{values, sbox_table}
use Rattle.primitives.proofs.sbox.table.Goals as goal

pub returns : goal.returns
unfolding ◌⊕◌ bit of_bits affine inverses values
returns c = sbox_table refl
