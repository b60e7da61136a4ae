-- The tests that were passed admit the message, and the work is that of its table.
use Rattle.std.proofs.Common.{sym, ap, ◌∙◌, length, refl}
use Rattle.strings.specs.Call.{number_of}
use Rattle.strings.specs.declared.refusal.Refusal.TheVariants.{TooShort}
use Rattle.strings.proofs.OnMessages.{admitted_behind_key}
use Rattle.blocks.proofs.Blocks.{block_whole}
use Rattle.hch.specs.Hch.{enciphered_by}
use Rattle.hch.proofs.Theorems.{under-cipher}
use Rattle.hch.proofs.encipher_with.Goals as goal

pub returns-clause-message_after : goal.returns-clause-message_after
unfolding enciphered_by
returns-clause-message_after c =
    let args = c.args in
    let a = admitted_behind_key 16 TooShort args.tweak.now args.message.now (ap number_of (sym c.judge.ensures ∙ c.in_ok-judge.was)) in
    rw (c.encipher_message.ensures, c.read.ensures, block_whole args.tweak.now a.tweak-length) refl

pub returns-clause-cipher_under : goal.returns-clause-cipher_under
returns-clause-cipher_under c =
    let args = c.args in
    let a = admitted_behind_key 16 TooShort args.tweak.now args.message.now (ap number_of (sym c.judge.ensures ∙ c.in_ok-judge.was)) in
    λ done. under-cipher args.expanded args.tweak.now (length args.message.now) (a.tweak-length, λ i. (c.type_inv.tweak i).fits) a.at_least
