-- A whole block by its words.
use Rattle.std.proofs.Common.{rules, ◌≡◌, ◌*◌, drop, sym, ap, ◌∙◌}
use Rattle.strings.specs.Bytes.{number}
use Rattle.blocks.specs.Blocks.{first_block}
use Rattle.blocks.specs.Inner.{value}
use Rattle.blocks.proofs.Blocks.{block_padded}
use Rattle.blocks.proofs.block.read_all.Goals as goal

pub loop-i-2-preserved : goal.loop-i-2-preserved
loop-i-2-preserved g c =
    let rest = drop (16 * c.loop-i-2.i) c.args.s.now in
    let there : value c.from_words.result ≡ first_block rest = c.from_words.ensures ∙ ap number c.words_at.ensures ∙ sym (block_padded rest) in
    search rules
