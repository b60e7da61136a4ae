-- Laws of permutations: one after another, backwards, and by functions that agree.
-- Assumes nothing.
use mathlib.Core.Path.{◌≡◌, ap, ◌∙◌}
use Rattle.strings.specs.Cipher.{Permutation}

pub backwards : {A : Type 0} {P : A → Type 0} {f g : A → A} → Permutation P f g → Permutation P g f
backwards p = record { keeps = p.inverse_keeps; inverse_keeps = p.keeps; undone = p.undoes; undoes = p.undone }

pub then : {A : Type 0} {P : A → Type 0} {f f' g g' : A → A} → Permutation P f f' → Permutation P g g'
    → Permutation P (λ a. g (f a)) (λ a. f' (g' a))
then {f} {f'} {g} {g'} p q = record {
  keeps = λ a h. q.keeps (f a) (p.keeps a h);
  inverse_keeps = λ a h. p.inverse_keeps (g' a) (q.inverse_keeps a h);
  undone = λ a h. ap f' (q.undone (f a) (p.keeps a h)) ∙ p.undone a h;
  undoes = λ a h. ap g (p.undoes (g' a) (q.inverse_keeps a h)) ∙ q.undoes a h;
}

-- Functions that agree with those of a permutation are one.
pub agreeing : {A : Type 0} {P : A → Type 0} {f f' g g' : A → A} → ((a : A) → P a → f a ≡ f' a) → ((a : A) → P a → g a ≡ g' a)
    → Permutation P f' g' → Permutation P f g
agreeing {f} {f'} {g} {g'} ef eg p = record {
  keeps = λ a h. rw (ef a h) (p.keeps a h);
  inverse_keeps = λ a h. rw (eg a h) (p.inverse_keeps a h);
  undone = λ a h. rw (ef a h, eg (f' a) (p.keeps a h)) (p.undone a h);
  undoes = λ a h. rw (eg a h, ef (g' a) (p.inverse_keeps a h)) (p.undoes a h);
}
