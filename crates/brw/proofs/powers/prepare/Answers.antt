-- Before each turn the powers below number i stand in the words, and zeros behind them; the last is what was squared last.
use Prim.Native.Nat.{ℕ, zero, suc, ◌+◌, ◌-◌, ◌*◌, ◌%◌, ◌^◌, ◌≤◌, ◌<◌}
use mathlib.Core.Path.{◌≡◌, refl, sym, ap, ◌∙◌}
use mathlib.Core.Bool.{Bool, true, false}
use mathlib.Core.List.{List}
use native.Mathlib.Nat.{le_refl, le_trans, lt_of_lt_of_le, not-suc-le-zero, one-mul, mod-eq_of_lt}
use native.Mathlib.Omega.{arith}
use lib.Dec.{ltb, lit<}
use lib.ListN.{replicate, length-set}
use lib.Pow.{pow_mono, pow-lt}
use borrow.Author.Rules.{rules}
use borrow.Author.Tests.{ltb-true, ltb-false}
use Rattle.blocks.specs.Blocks.{IsBlock}
use Rattle.blocks.specs.Field.{power}
use Rattle.blocks.specs.BlockField.{◌·◌}
use Rattle.blocks.specs.Inner.{value}
use Rattle.blocks.proofs.Halves.{value_below}
use Rattle.brw.specs.Inner.{power_at, prepared}
use Rattle.brw.proofs.Squares.{first_power, squared}
use Rattle.brw.proofs.Words.{put, put_same, put_other, none_yet, prepared_here, not_prepared, past_eight}
use Rattle.brw.proofs.powers.prepare.Invariants.{Inv}
use Rattle.brw.proofs.powers.prepare.Goals as goal

-- t alone.
first : (t n high low : ℕ) → IsBlock t → high * 2 ^ 64 + low ≡ t → Inv t n (put (replicate 16 0) 0 high low) t 1
unfolding prepared
first t n high low b e = record {
  block = b;
  size = refl;
  from_one = le_refl 1;
  to_eight = omega arith;
  is_square = sym (first_power t b);
  done = done;
  rest = λ j h. put_other (replicate 16 0) 0 high low j (λ k. absurd (omega (arith, k, h))) ∙ none_yet j;
}
  where
    done : (j : ℕ) → j < 1 → power_at (put (replicate 16 0) 0 high low) j ≡ prepared t n j
    done zero h = put_same (replicate 16 0) 0 high low refl (lit< tt) ∙ e
    done (suc j) h = absurd (omega (arith, h))

-- One power more.
below_or_here : (i j : ℕ) → j < i + 1 → (b : Bool) → ltb j i ≡ b → (P : Type 0) → (j < i → P) → (j ≡ i → P) → P
below_or_here i j h true e P f g = f (ltb-true j i e)
below_or_here i j h false e P f g = g (omega (arith, h, ltb-false j i e))

turn : (t n : ℕ) (words : List ℕ) (square i high low : ℕ) → Inv t n words square i → i < 8 → 2 ^ i ≤ n → high * 2 ^ 64 + low ≡ square · square
    → Inv t n (put words i high low) (high * 2 ^ 64 + low) (i + 1)
turn t n words square zero high low inv l h e = absurd (not-suc-le-zero inv.from_one)
turn t n words square (suc m) high low inv l h e =
    let i : ℕ = suc m in
    let m_is : i - 1 ≡ m = omega arith in
    let next : high * 2 ^ 64 + low ≡ power 1 ◌·◌ t (2 ^ i) =
    e ∙ ap (λ (x : ℕ). x · x) (rw m_is at inv.is_square) ∙ sym (squared t m inv.block) in
    let i_is : i + 1 - 1 ≡ i = omega arith in
    record {
      block = inv.block;
      size = rw (length-set, length-set) inv.size;
      from_one = omega arith;
      to_eight = omega (arith, l);
      is_square = rw i_is next;
      done = λ j k.
          below_or_here i j k (ltb j i) refl (power_at (put words i high low) j ≡ prepared t n j)
          (λ less. put_other words i high low j (λ same. absurd (omega (arith, less, same))) ∙ inv.done j less)
          (λ same. rw same (put_same words i high low inv.size l ∙ next ∙ sym (prepared_here t n m h l)));
      rest = λ j k. put_other words i high low j (λ same. absurd (omega (arith, k, same))) ∙ inv.rest j (omega (arith, k));
    }

-- When no further power is needed.
ended : (t n : ℕ) (words : List ℕ) (square i : ℕ) → Inv t n words square i → ((j : ℕ) → i ≤ suc j → prepared t n (suc j) ≡ 0) → (j : ℕ) → power_at words j ≡ prepared t n j
ended t n words square i inv over j = from_test j (ltb j i) refl
  where
    behind : (j : ℕ) → i ≤ j → power_at words j ≡ prepared t n j
    behind zero h = absurd (not-suc-le-zero (le_trans inv.from_one h))
    behind (suc j) h = inv.rest (suc j) h ∙ sym (over j h)

    from_test : (j : ℕ) (b : Bool) → ltb j i ≡ b → power_at words j ≡ prepared t n j
    from_test j true e = inv.done j (ltb-true j i e)
    from_test j false e = behind j (ltb-false j i e)

shifted : (i : ℕ) → i < 8 → 1 * 2 ^ i % 2 ^ 64 ≡ 2 ^ i
shifted i h = rw one-mul (mod-eq_of_lt (pow-lt {j = 64} (omega (arith, h))))

pub loop-i-init : goal.loop-i-init
unfolding value
loop-i-init c = first (value c.args.t) c.args.n c.args.t.hi c.args.t.lo (value_below c.args.t (search rules) (search rules)) refl

pub loop-i-preserved : goal.loop-i-preserved
unfolding value
loop-i-preserved c =
    let l = c.loop-i in
    let n = c.args.n in
    let needed : 2 ^ l.i ≤ n = rw (shifted l.i c.loop-i-test.true) at c.if-i-n.false in
    turn (value c.args.t) n l.powers (value l.square) l.i c.product-square.result.hi c.product-square.result.lo l.invariant c.loop-i-test.true needed c.product-square.ensures

pub returns-then-i-n : goal.returns-then-i-n
returns-then-i-n c =
    let l = c.loop-i in
    let n = c.args.n in
    let over : n < 2 ^ l.i = rw (shifted l.i c.loop-i-test.true) at c.if-i-n.true in
    ended (value c.args.t) n l.powers (value l.square) l.i l.invariant (λ j h. not_prepared (value c.args.t) n j (lt_of_lt_of_le over (pow_mono h)))

pub returns-after-loop-i : goal.returns-after-loop-i
returns-after-loop-i c =
    let l = c.loop-i in
    ended (value c.args.t) c.args.n l.powers (value l.square) l.i l.invariant (λ j h. past_eight (value c.args.t) c.args.n j (le_trans c.loop-i-test.false h))
