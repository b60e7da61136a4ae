-- What the blocks of a run answer in turn: all open, or a first one does not.
-- Assumes nothing.
use Prim.Native.Nat.{ℕ, zero, suc, ◌+◌, ◌<◌}
use mathlib.Core.Path.{◌≡◌, refl, sym, ap, ◌∙◌}
use mathlib.Core.Logic.{◌⊎◌, inl, inr, ⊎_elim}
use mathlib.Core.List.{List}
use native.Mathlib.Nat.{eq-or-lt_of_le}
use native.Mathlib.Omega.{arith}
use lib.ListN.{get_or}
use Rattle.strings.specs.Call.{number_of as number_of_block, left_by}
use Rattle.std.specs.Prelude.{Ok, Err}
use Rattle.strings.specs.Cipher.{Scheme}
use Rattle.strings.specs.declared.refusal.Refusal.{Refusal}
use Rattle.strings.proofs.Refusals.{refusal_range, refusal_leaves}
use Rattle.layout.specs.Finding.{part}
use Rattle.layout.proofs.Parts.{before_or_from}
use Rattle.pack.specs.Opening.{Opened, answer_of as answer_of_block}
use Rattle.runs.specs.Opening.{RunOpened, number_of, values_of, next, in_turn, BlockOpens, EarlierOpen}
use Rattle.runs.proofs.Blocks.{below_more}
use Rattle.runs.specs.declared.opening.NotOpened.TheVariants.{Failed}

-- A block that is refused comes back as it was lent.
pub left_back : {r : Opened} {why : Refusal} → r ≡ Err why → (work lent : List ℕ) → left_by (number_of_block r) work lent ≡ lent
left_back {r} {why} e work lent = rw e (sym (refusal_leaves why work lent))

module _ (S : Scheme) (key : List ℕ) (pack first : ℕ) (run : List ℕ) where
  -- Block i is the first of n that will not open, and decides.
  pub record FailsAt (n : ℕ) : Type 0 where
    pub block : ℕ
    pub why : Refusal
    pub there : block < n
    pub before : EarlierOpen S key pack first run block
    pub refused : answer_of_block S key pack (first + block) (part block run) ≡ Err why
    pub answered : in_turn S key pack first n run ≡ Err (Failed why (first + block))

  pub record AllOpen (n : ℕ) : Type 0 where
    pub each : EarlierOpen S key pack first run n
    pub answered : in_turn S key pack first n run ≡ Ok tt

  one_more : (n : ℕ) → AllOpen n → (r : Opened) → answer_of_block S key pack (first + n) (part n run) ≡ r → AllOpen (suc n) ⊎ FailsAt (suc n)
  unfolding in_turn
  one_more n all (Ok u) e =
      inl (record {
        each = λ i h. below_more (BlockOpens S key pack first run) n all.each (ap number_of_block e) i (omega (arith, h));
        answered = rw (all.answered, e);
      })
  one_more n all (Err why) e =
      inr (record { block = n; why = why; there = omega arith; before = all.each; refused = e; answered = rw (all.answered, e) })

  stays : (n : ℕ) → FailsAt n → FailsAt (suc n)
  unfolding in_turn
  stays n f =
      record { block = f.block; why = f.why; there = omega (arith, f.there); before = f.before; refused = f.refused; answered = rw f.answered }

  pub in_turn_lem : (n : ℕ) → AllOpen n ⊎ FailsAt n
  unfolding in_turn
  in_turn_lem zero = inl (record { each = λ i h. absurd (omega (arith, h)); answered = refl })
  in_turn_lem (suc n) =
      ⊎_elim (λ (all : AllOpen n). one_more n all (answer_of_block S key pack (first + n) (part n run)) refl) (λ (f : FailsAt n). inr (stays n f)) (in_turn_lem n)

  -- A block that is refused does not open.
  refused_shut : {why : Refusal} (i : ℕ) → answer_of_block S key pack (first + i) (part i run) ≡ Err why → BlockOpens S key pack first run i → ⊥
  refused_shut {why} i e opens = omega (arith, (refusal_range why).0, sym (ap number_of_block e) ∙ opens)

  -- Where all open, the answer says so, and the other way round.
  pub all_open : (n : ℕ) → EarlierOpen S key pack first run n → in_turn S key pack first n run ≡ Ok tt
  all_open n each =
      ⊎_elim (λ (all : AllOpen n). all.answered) (λ (f : FailsAt n). absurd (refused_shut f.block f.refused (each f.block f.there))) (in_turn_lem n)

  pub each_opens : (n : ℕ) → number_of (in_turn S key pack first n run) ≡ 0 → EarlierOpen S key pack first run n
  each_opens n e =
      ⊎_elim (λ (all : AllOpen n). all.each)
      (λ (f : FailsAt n). absurd (omega (arith, (refusal_range f.why).0, sym (ap number_of f.answered) ∙ e))) (in_turn_lem n)

  -- The first block that is shut is the one that is told.
  pub same_block : (n : ℕ) (f : FailsAt n) (i : ℕ) → (BlockOpens S key pack first run i → ⊥) → EarlierOpen S key pack first run i → f.block ≡ i
  same_block n f i shut before =
      before_or_from i f.block (λ less. absurd (shut (f.before i less)))
      (λ from. ⊎_elim (λ (e : f.block ≡ i). e) (λ (less : f.block < i). absurd (refused_shut f.block f.refused (before f.block less))) (eq-or-lt_of_le from))

  pub first_refused : (n i : ℕ) {why : Refusal} → i < n → EarlierOpen S key pack first run i
      → answer_of_block S key pack (first + i) (part i run) ≡ Err why → in_turn S key pack first n run ≡ Err (Failed why (first + i))
  first_refused n i {why} h before e =
      ⊎_elim (λ (all : AllOpen n). absurd (refused_shut i e (all.each i h)))
      (λ (f : FailsAt n).
      let same = same_block n f i (refused_shut i e) before in
      let one : Err f.why ≡ Err why = sym f.refused ∙ rw same e in
      f.answered ∙ ap (λ (k : ℕ). Err (Failed f.why (first + k))) same ∙ ap (λ (r : Opened). next (Ok tt) r (first + i)) one) (in_turn_lem n)

  -- The place that is told is that of a block.
  pub record PlaceOf (n place : ℕ) : Type 0 where
    pub block : ℕ
    pub there : block < n
    pub at : place ≡ first + block

  pub place_of : (n : ℕ) {why : Refusal} {place : ℕ} → in_turn S key pack first n run ≡ Err (Failed why place) → PlaceOf n place
  place_of n {why} {place} e =
      ⊎_elim (λ (all : AllOpen n). absurd (omega (arith, (refusal_range why).0, sym (ap number_of e) ∙ ap number_of all.answered)))
      (λ (f : FailsAt n). record { block = f.block; there = f.there; at = ap (λ (r : RunOpened). get_or (values_of r) 0 0) (sym e ∙ f.answered) }) (in_turn_lem n)
