-- What stands in front of the first space is the field.
use Rattle.std.proofs.Common.{Option, Some, None, ◌≡◌, ◌≤◌, length, List, ℕ, refl, sym}
use native.Mathlib.Omega.{arith}
use Rattle.std.specs.Option.{ok_or}
use Rattle.text.specs.Inner.{before, field_of, decoded_in}
use Rattle.line.specs.Inner.{FieldRead}
use Rattle.line.specs.declared.answering.NoResult.TheVariants.{NotUnderstood}
use Rattle.line.proofs.Requests.{field_refused, field_read}
use Rattle.line.proofs.answering.read_field.Goals as goal

read : (s out left : List ℕ) (a : Option ℕ) → length out ≡ 4150 → length left ≡ 4150 → length s ≤ 8300 → a ≡ field_of 32 s out → left ≡ decoded_in a (before 32 s) out
    → FieldRead s (ok_or a NotUnderstood) left
read s out left (Some n) room room' short e l = field_read s out left n (sym e) l (omega arith)
read s out left None room room' short e l = (refl, λ c ps few. field_refused c ps s out few (sym e) (omega arith))

pub returns : goal.returns
returns c =
    rw c.ok_or.ensures.value
    (read c.args.fields.now c.args.room.now c.decode_field.new.out c.decode_field.result c.told-room (omega arith) c.requires c.decode_field.ensures.value c.decode_field.ensures.out_after)
