-- Each byte through the S-box.
use Rattle.std.proofs.Common.{◌≡◌, ℕ, List, [], ◌∷◌, get_or, ◌∙◌}
use Rattle.std.specs.Int.{w32, to_be_bytes, from_be_bytes}
use Rattle.strings.proofs.Bytes.{be_bytes, be_number}
use Rattle.primitives.specs.Inner.{Table}
use Rattle.primitives.specs.Aes.{s_box, word, byte_of, sub_word}
use Rattle.primitives.proofs.Words.{byte_of_below}
use Rattle.primitives.proofs.aes.sub_word.Goals as goal

substituted : (t : List ℕ) → Table s_box t → (w : ℕ) (b : List ℕ) → b ≡ to_be_bytes w32 w
    → from_be_bytes w32 (get_or t (get_or b 0 0) 0 ∷ get_or t (get_or b 1 0) 0 ∷ get_or t (get_or b 2 0) 0 ∷ get_or t (get_or b 3 0) 0 ∷ []) ≡ sub_word w
unfolding sub_word word byte_of
substituted t h w b e =
    be_number (get_or t (get_or b 0 0) 0 ∷ get_or t (get_or b 1 0) 0 ∷ get_or t (get_or b 2 0) 0 ∷ get_or t (get_or b 3 0) 0 ∷ [])
    ∙ rw (
      e ∙ be_bytes w,
      h.entry (byte_of w 0) (byte_of_below w 0),
      h.entry (byte_of w 1) (byte_of_below w 1),
      h.entry (byte_of w 2) (byte_of_below w 2),
      h.entry (byte_of w 3) (byte_of_below w 3),
    )

pub returns : goal.returns
returns c =
    let a = c.args in
    c.from_be_bytes.ensures ∙ substituted a.table.now c.requires a.w c.to_be_bytes.result c.to_be_bytes.ensures
