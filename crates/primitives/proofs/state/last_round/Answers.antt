-- Without the mixing: the table does SubBytes alone.
use Rattle.std.proofs.Common.{ℕ, List, get_or, sym, ap, ◌∙◌}
use Rattle.primitives.specs.Aes.{at, state, shift_rows, add_round_key, byte_of, round_key}
use Rattle.primitives.proofs.Mixing.{columns_words, sub_by_table}
use Rattle.primitives.proofs.state.last_round.Goals as goal

pub returns : goal.returns
returns c =
    let a = c.args in
    let table = c.table.result.now in
    c.add_round_key.ensures
    ∙ ap (add_round_key (round_key a.words.now a.n))
    (columns_words c.from_bytes.result ∙ c.from_bytes.ensures ∙ c.shift_rows.ensures
    ∙ ap shift_rows
    (c.sub_bytes.ensures
    ∙ ap (λ (s : List ℕ). state (λ r c. byte_of (get_or table (at s r c) 0) 1)) (c.to_bytes.ensures ∙ sym (columns_words a.w))
    ∙ sub_by_table c.table.ensures a.w))
