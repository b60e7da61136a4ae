-- The shifted block, plus the polynomial where the bit that fell out is 1.
use Rattle.std.proofs.Common.{◌≡◌, ℕ, ◌*◌, ◌/◌, ◌%◌, ◌^◌, sym, refl, ap, ◌∙◌, ap₂, mod-lt, mod-eq_of_lt, mul_comm, arith, pow_pos, rules}
use Rattle.strings.specs.Xor.{◌⊕◌}
use Rattle.blocks.specs.Field.{times01, times_x}
use Rattle.blocks.specs.Inner.{value}
use Rattle.blocks.proofs.Halves.{halves_spilt, halves_shifted, halves_reduced}
use Rattle.primitives.proofs.field.times_x.Goals as goal

pub returns : goal.returns
unfolding value times_x ◌⊕◌
returns c =
    let a = c.args.a in
    let m = c.masked-fallen in
    let bit : 2 * value a / 2 ^ 128 % 2 ≡ a.hi / 2 ^ 63 =
    ap (λ (x : ℕ). x / 2 ^ 128 % 2) (mul_comm 2 (value a)) ∙ ap (λ (x : ℕ). x % 2) (sym (halves_spilt 1 63 64 a.hi refl (search rules)))
    ∙ mod-eq_of_lt (omega arith) in
    halves_reduced 64 (a.hi * 2 ^ 1 % 2 ^ 64 ⊕ a.lo / 2 ^ 63) (a.lo * 2 ^ 1 % 2 ^ 64) m.result (mod-lt (a.lo * 2 ^ 1) (pow_pos 64)) (search rules)
    ∙ ap₂ ◌⊕◌ (m.ensures ∙ ap (λ (d : ℕ). times01 d 0x87) (sym bit))
    (halves_shifted 1 63 64 a.hi a.lo refl (search rules) ∙ ap (λ (x : ℕ). x % 2 ^ 128) (mul_comm (value a) 2))
