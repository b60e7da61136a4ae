-- One test over the table.
use Rattle.std.proofs.Common.{refl}
use Rattle.strings.specs.Xor.{◌⊕◌}
use Rattle.strings.specs.Bytes.{number}
use Rattle.blocks.specs.Field.{times01, times_x, product_n, product}
use Rattle.primitives.specs.Aes.{bit, of_bits, affine}
use Rattle.primitives.proofs.Inverse.{inverses}
use Rattle.primitives.proofs.Substitution.{values, mixed-word, mixed_sbox_table}
use Rattle.primitives.proofs.mixed_sbox.table.Goals as goal

pub returns : goal.returns
unfolding ◌⊕◌ number times01 times_x product_n product bit of_bits affine inverses values mixed-word
returns c = mixed_sbox_table refl
