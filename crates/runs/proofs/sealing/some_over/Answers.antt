-- The library's test of each entry is the definition's.
use Rattle.std.proofs.Common.{rules, ◌∙◌, nat_lt}
use borrow.Author.Tests.{tests}
use Rattle.std.proofs.lemmas.Iterator.{YieldsList-from_slice}
use Rattle.std.proofs.lemmas.Iterator.Search.{any_from_yields_List}
use Rattle.runs.proofs.Lists.{any_over}
use Rattle.runs.proofs.sealing.some_over.Goals as goal

pub returns : goal.returns
returns c =
    let s = c.args.lengths.now in
    any_from_yields_List (λ u. nat_lt 496 u) _ _ c.any.result c.any.ensures.ran (YieldsList-from_slice s cc) (λ x b q k. search (rules, tests)) ∙ any_over 496 s
