-- One test over the table.
use Rattle.std.proofs.Common.{refl}
use Rattle.strings.specs.Xor.{◌⊕◌}
use Rattle.strings.specs.Bytes.{number}
use Rattle.blocks.specs.Field.{times01, times_x, product_n, product}
use Rattle.primitives.proofs.Substitution.{inv_mixed_word, inv_mixing_table}
use Rattle.primitives.proofs.inv_mixing.table.Goals as goal

pub returns : goal.returns
unfolding ◌⊕◌ number times01 times_x product_n product inv_mixed_word
returns c = inv_mixing_table refl
