-- The number in decimal, as the library prints it.
use mathlib.Core.Path.{◌∙◌}
use native.Mathlib.Omega.{arith}
use Rattle.line.specs.Inner.{number_of}
use Rattle.line.proofs.Written.{refusal_front, printed, number_short}
use Rattle.line.proofs.answering.refuse.Goals as goal

pub returns : goal.returns
returns c =
    let why = c.args.why in
    refusal_front (number_of why) c.args.out.now (c.as_bytes-digits.ensures.value ∙ c.format.ensures.text ∙ rw c.number.ensures (printed (number_of why) (number_short why)))
    (omega arith) c.write.ensures c.write-2.ensures c.write-3.ensures
