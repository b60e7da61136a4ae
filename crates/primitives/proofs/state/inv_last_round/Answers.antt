-- Without the mixing.
use Rattle.std.proofs.Common.{sym, ap, ◌∙◌}
use Rattle.primitives.specs.Aes.{inv_s_box, inv_sub_bytes, inv_shift_rows, add_round_key, round_key}
use Rattle.primitives.proofs.Mixing.{columns_words}
use Rattle.primitives.proofs.state.inv_last_round.Goals as goal

pub returns : goal.returns
unfolding inv_sub_bytes
returns c =
    let a = c.args in
    c.add_round_key.ensures
    ∙ ap (add_round_key (round_key a.words.now a.n))
    (columns_words c.from_bytes.result ∙ c.from_bytes.ensures ∙ c.inv_sub_bytes.ensures inv_s_box c.table.ensures
    ∙ ap inv_sub_bytes (c.inv_shift_rows.ensures ∙ ap inv_shift_rows (c.to_bytes.ensures ∙ sym (columns_words a.w))))
