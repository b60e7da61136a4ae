-- Word by word.
use Rattle.std.proofs.Common.{◌≡◌, ℕ, ◌+◌, ◌-◌, ◌*◌, get_or, sym, ap, ◌∙◌, arith, get_or-set_same}
use Rattle.strings.specs.Xor.{◌⊕◌}
use Rattle.primitives.specs.Aes.{Nr, key_expansion}
use Rattle.primitives.proofs.Words.{length_held, put_next}
use Rattle.primitives.proofs.aes.key_expansion.Goals as goal

pub loop-i-preserved : goal.loop-i-preserved
unfolding ◌⊕◌
loop-i-preserved c =
    let l = c.loop-i in
    let a = c.args in
    let v = get_or l.words (l.i - a.nk) 0 ⊕ c.temp.result in
    let last : l.i + 1 - 1 ≡ l.i = omega arith in (
      put_next 60 a.nk a.key.now l.i l.words l.invariant.0 v (omega arith) (omega arith) l.invariant.4 (rw (c.temp.ensures, ← l.invariant.2, l.invariant.1)),
      rw last (sym (get_or-set_same l.words l.i v 0 (rw (length_held 60 a.nk a.key.now l.i l.words l.invariant.0 (omega arith)) (omega arith)))),
      ap (λ (n : ℕ). n + 1) l.invariant.2 ∙ sym c.next_place-place.ensures.m_value,
      c.next_place-place.ensures.m_lt_nk,
      omega arith,
      omega arith,
    )

pub returns : goal.returns
unfolding key_expansion
returns c =
    let l = c.loop-i in
    let nk = c.args.nk in
    let all : l.i ≡ 4 * (Nr nk + 1) = omega arith in
    let rest : 60 - 4 * (Nr nk + 1) ≡ 4 * (Nr 8 - Nr nk) = omega arith in
    rw (all, rest) at l.invariant.0
