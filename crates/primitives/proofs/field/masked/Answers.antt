-- Zero less the bit has no digit set, or every digit.
use Rattle.std.proofs.Common.{◌≡◌, ℕ, zero, suc, ◌+◌, ◌-◌, ◌/◌, ◌%◌, ◌^◌, ◌<◌, ap, ◌∙◌, mod-eq_of_lt, arith, rules}
use lib.Bits.{bit_and, and_comm, and_mask}
use Rattle.blocks.specs.Field.{times01}
use Rattle.primitives.proofs.field.masked.Goals as goal

by_bit : (bit mask word : ℕ) → bit < 2 → mask < 2 ^ 64 → word < 2 ^ 64 → (mask + bit) % 2 ^ 64 ≡ 0 → bit_and mask word ≡ times01 bit word
unfolding times01
by_bit zero mask word hb hm hw e = let none : mask ≡ 0 = omega arith in ap (λ (m : ℕ). bit_and m word) none
by_bit (suc zero) mask word hb hm hw e =
    let all : mask ≡ 2 ^ 64 - 1 = omega arith in
    and_comm mask word ∙ ap (bit_and word) all ∙ and_mask word 64 ∙ mod-eq_of_lt hw
by_bit (suc (suc bit)) mask word hb hm hw e = absurd (omega arith)

pub returns : goal.returns
returns c =
    let a = c.args in
    by_bit (a.high / 2 ^ 63) c.wrapping_sub_u64.result a.word (omega arith) (search rules) (search rules) c.wrapping_sub_u64.ensures.value
