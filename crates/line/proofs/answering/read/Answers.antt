-- The fields one after the other, as `requested` has them.
use Rattle.std.proofs.Common.{rules, refl, sym, ◌≡◌, ◌≤◌, ◌∙◌, Option, Some, None, Ok, Err, [], ◌∷◌, drop, take, length, List, ℕ, arith}
use mathlib.Core.Path.{ap}
use Prim.Native.Nat.{◌+◌, ◌*◌}
use lib.ListN.{length-take, length-drop}
use Rattle.strings.proofs.Place.{part_behind}
use Rattle.std.specs.Option.{ok_or}
use Rattle.std.specs.Prelude.{true}
use Rattle.text.specs.Inner.{decoded_of, decoded_in}
use Rattle.text.proofs.Digits.{decoded_whole}
use Rattle.text.specs.Hex.{is_hex, unhex}
use Rattle.text.specs.Hex.{is_hex, unhex}
use Rattle.text.specs.Inner.{before, decoded_of, decoded_in}
use Rattle.text.proofs.Digits.{decoded_is, decoded_whole}
use Rattle.line.specs.Inner.{character}
use Rattle.line.specs.declared.answering.NoResult.{NoResult}
use Rattle.line.specs.declared.answering.NoResult.TheVariants.{NotUnderstood}
use Rattle.line.proofs.Requests.{message_refused, message_read, not_understood}
use Rattle.line.proofs.answering.read.Goals as goal

-- whether there is a number tells whether it was `Some`
was_none : (a : Option ℕ) (why : NoResult) → ok_or a NotUnderstood ≡ Err why → (a ≡ None) × (why ≡ NotUnderstood)
was_none (Some n) why e = let z : ◌≡◌ {A = ℕ} 0 1 = cc in absurd (omega arith)
was_none None why e = (refl, cc)

was_some : (a : Option ℕ) (n : ℕ) → ok_or a NotUnderstood ≡ Ok n → a ≡ Some n
was_some (Some m) n e = cc
was_some None n e = let z : ◌≡◌ {A = ℕ} 0 1 = cc in absurd (omega arith)

message_decoded : (s out left : List ℕ) (a : Option ℕ) (n : ℕ) → a ≡ decoded_of s out → a ≡ Some n → left ≡ decoded_in a s out → (is_hex s ≡ true) × (take n left ≡ unhex s)
unfolding decoded_in
message_decoded s out left a n e some l =
    let d = decoded_is s out n (sym e ∙ some) in
    (d.0, rw (l, some, d.1) (decoded_whole s out))

pub returns-in_err-k : goal.returns-in_err-k
returns-in_err-k c =
    let h = c.in_err-k.ensures in
    let why : c.from_residual.result ≡ Err c.in_err-k.field-0.0 = search rules in
    not_understood _ (h.1 (character c.args.command ∷ []) [] (omega arith)) (why ∙ ap Err h.0)

pub returns-in_err-t : goal.returns-in_err-t
returns-in_err-t c =
    let fields = c.args.fields.now in
    let key = c.in_ok-k.ensures in
    let h = c.in_err-t.ensures in
    let why : c.from_residual-in_err-t.result ≡ Err c.in_err-t.field-0.0 = search rules in
    let rest = rw (part_behind (2 * c.in_ok-k.k + 1) fields) at (h.1 (character c.args.command ∷ []) (before 32 fields ∷ []) (omega arith)) in
    not_understood _ (rw key.parts rest) (why ∙ ap Err h.0)

pub returns-in_err-m : goal.returns-in_err-m
returns-in_err-m c =
    let fields = c.args.fields.now in
    let next = drop (2 * c.in_ok-k.k + 1) fields in
    let key = c.in_ok-k.ensures in
    let tweak = rw (part_behind (2 * c.in_ok-k.k + 1) fields) at c.in_ok-t.ensures in
    let why : c.from_residual-in_err-m.result ≡ Err c.in_err-m.field-0.0 = search rules in
    let none = was_none c.decode.result c.in_err-m.field-0.0 (sym c.ok_or.ensures.value ∙ c.in_err-m.was) in
    let told = rw (part_behind (2 * c.in_ok-k.k + 1) fields, part_behind (2 * c.in_ok-t.t + 1) next) at c.decode.ensures.value in
    let short : length (drop (2 * c.in_ok-t.t + 1) next) ≤ 8300 = omega (arith, length-drop (2 * c.in_ok-t.t + 1) next, length-drop (2 * c.in_ok-k.k + 1) fields) in
    not_understood _
    (rw (key.parts, tweak.parts) (message_refused (character c.args.command ∷ []) (before 32 fields) (before 32 next) (drop (2 * c.in_ok-t.t + 1) next) _ (sym told ∙ none.0) (omega arith)))
    (why ∙ ap Err none.1)

pub slice_bounds-message-end : goal.slice_bounds-message-end
slice_bounds-message-end c =
    let d = decoded_is _ _ c.in_ok-m.m (sym c.decode.ensures.value ∙ was_some c.decode.result c.in_ok-m.m (sym c.ok_or.ensures.value ∙ c.in_ok-m.was)) in
    omega (arith, d.2)

pub slice_bounds-run-end-3 : goal.slice_bounds-run-end-3
slice_bounds-run-end-3 c =
    let d = decoded_is _ _ c.in_ok-m.m (sym c.decode.ensures.value ∙ was_some c.decode.result c.in_ok-m.m (sym c.ok_or.ensures.value ∙ c.in_ok-m.was)) in
    omega (arith, d.2, length-take c.in_ok-m.m c.decode.new.out)

pub returns : goal.returns
returns c =
    let fields = c.args.fields.now in
    let next = drop (2 * c.in_ok-k.k + 1) fields in
    let digits = drop (2 * c.in_ok-t.t + 1) next in
    let key = c.in_ok-k.ensures in
    let tweak = rw (part_behind (2 * c.in_ok-k.k + 1) fields) at c.in_ok-t.ensures in
    let some = was_some c.decode.result c.in_ok-m.m (sym c.ok_or.ensures.value ∙ c.in_ok-m.was) in
    let told = rw (part_behind (2 * c.in_ok-k.k + 1) fields, part_behind (2 * c.in_ok-t.t + 1) next) at c.decode.ensures.value in
    let left = rw (part_behind (2 * c.in_ok-k.k + 1) fields, part_behind (2 * c.in_ok-t.t + 1) next) at c.decode.ensures.out_after in
    let message = message_decoded digits _ c.decode.new.out c.decode.result c.in_ok-m.m told some left in
    rw (key.parts, tweak.parts, message_read (character c.args.command ∷ []) (before 32 fields) (before 32 next) digits key.digits tweak.digits message.0, ← key.decoded, ← tweak.decoded, ← message.1)
    c.run.ensures
