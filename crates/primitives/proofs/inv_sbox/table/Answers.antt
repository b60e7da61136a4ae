-- One test over the table.
use Rattle.std.proofs.Common.{refl}
use Rattle.strings.specs.Xor.{◌⊕◌}
use Rattle.primitives.specs.Aes.{bit, of_bits, inv_affine}
use Rattle.primitives.proofs.Inverse.{inverses}
use Rattle.primitives.proofs.Substitution.{values, inv_sbox_table}
use Rattle.primitives.proofs.inv_sbox.table.Goals as goal

pub returns : goal.returns
unfolding ◌⊕◌ bit of_bits inv_affine inverses values
returns c = inv_sbox_table refl
