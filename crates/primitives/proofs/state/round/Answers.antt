-- The rows are shifted, and the table does SubBytes and MixColumns.
use Rattle.std.proofs.Common.{ℕ, sym, ap, ◌∙◌}
use Rattle.primitives.specs.Aes.{◌•◌, s_box, shift_rows, add_round_key, round_key}
use Rattle.primitives.specs.Inner.{of_columns, mixing}
use Rattle.primitives.proofs.Mixing.{columns_words, sub_mixed}
use Rattle.primitives.proofs.state.round.Goals as goal

pub returns : goal.returns
returns c =
    let a = c.args in
    let own : ℕ → ℕ = λ b. 0x02 • s_box b in
    let next : ℕ → ℕ = λ b. 0x03 • s_box b in
    c.add_round_key.ensures
    ∙ ap (add_round_key (round_key a.words.now a.n))
    (c.mix_columns.ensures own next s_box s_box c.table.ensures
    ∙ ap (mixing own next s_box s_box)
    (columns_words c.from_bytes.result ∙ c.from_bytes.ensures ∙ c.shift_rows.ensures ∙ ap shift_rows (c.to_bytes.ensures ∙ sym (columns_words a.w)))
    ∙ sub_mixed (of_columns a.w))
