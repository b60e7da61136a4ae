-- What the last round does, and the inverse mixing by its table.
use Rattle.std.proofs.Common.{ap, ◌∙◌}
use Rattle.primitives.specs.Aes.{◌•◌, inv_mix_columns}
use Rattle.primitives.proofs.Mixing.{inv_mixed_lem}
use Rattle.primitives.proofs.state.inv_round.Goals as goal

pub returns : goal.returns
returns c =
    c.mix_columns.ensures (λ b. 0x0e • b) (λ b. 0x0b • b) (λ b. 0x0d • b) (λ b. 0x09 • b) c.table.ensures ∙ inv_mixed_lem _
    ∙ ap inv_mix_columns c.inv_last_round.ensures
