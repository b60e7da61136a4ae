-- Where the tests are passed, the part is returned, and else the empty one.
use mathlib.Core.Path.{◌∙◌, sym, refl}
use native.Mathlib.Omega.{arith}
use denote.MutBor.{as_bor}
use Rattle.layout.proofs.Parts.{found_within}
use Rattle.layout.proofs.Written.{part-found}
use Rattle.layout.proofs.finding.find_mut.Goals as goal

pub slice_bounds-pack-end-2 : goal.slice_bounds-pack-end-2
slice_bounds-pack-end-2 c =
    omega (arith, found_within c.args.place c.args.pack.now (sym c.find_answer.ensures ∙ c.in-Ok.is))

pub returns : goal.returns
returns c =
    let h = part-found c.args.place (as_bor c.args.pack) _ (sym c.find_answer.ensures ∙ c.in-Ok.is) refl refl in
    record { result_value = h.0; begins_at = h.1.0; written = h.1.1 }
