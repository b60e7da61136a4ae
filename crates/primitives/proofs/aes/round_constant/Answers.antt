-- One test over the table.
use Rattle.std.proofs.Common.{ℕ, ◌-◌, refl, ap, ◌∙◌, arith}
use Rattle.strings.specs.Xor.{◌⊕◌}
use Rattle.blocks.specs.Field.{times01, times_x, product_n, product}
use Rattle.primitives.specs.Aes.{word, rcon}
use Rattle.primitives.proofs.Words.{be_word, doubles, constant}
use Rattle.primitives.proofs.aes.round_constant.Goals as goal

pub returns : goal.returns
unfolding ◌⊕◌ times01 times_x product_n product doubles rcon word
returns c =
    c.from_be_bytes.ensures ∙ be_word _ 0 0 0 ∙ (ap (λ (b : ℕ). word b 0 0 0) (constant {n = 10} refl (c.args.j - 1) (omega (arith, c.requires))))
