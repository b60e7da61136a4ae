-- The four words, each turned to its row.
use Rattle.std.proofs.Common.{◌∙◌}
use Rattle.strings.specs.Xor.{◌⊕◌}
use Rattle.primitives.specs.Aes.{byte_of}
use Rattle.primitives.specs.Inner.{column_by}
use Rattle.strings.proofs.Bytes.{be_bytes}
use Rattle.primitives.proofs.state.column.Goals as goal

pub returns : goal.returns
unfolding byte_of column_by ◌⊕◌
returns c =
    rw (
      c.added-3.ensures,
      c.rot_word-e.ensures,
      c.rot_word-2.ensures,
      c.rot_word.ensures,
      c.added.ensures,
      c.rot_word-f.ensures,
      c.rot_word-3.ensures,
      c.added-2.ensures,
      c.rot_word-4.ensures,
      c.added-4.ensures,
      c.to_be_bytes.ensures ∙ be_bytes c.args.w,
    )
