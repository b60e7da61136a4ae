-- What has passed the test is a key.
use Rattle.std.proofs.Common.{sym, ◌∙◌}
use Rattle.primitives.proofs.Expanded.{words_of_key}
use Rattle.primitives.proofs.aes.ExpandedKey.or_zeros.Goals as goal

pub key_expansion-words-requires : goal.key_expansion-words-requires
key_expansion-words-requires c = words_of_key c.args.key.now (sym c.is_key.ensures ∙ c.if-not-is_key.false)
