-- The blocks are a commutative ring: once over the width k and the polynomial x ^ k + p.
-- Two additive functions that agree at each power of two below 2 ^ k agree on every number below it (`basis`). At the powers of two the product is
-- repeated multiplication by x, so each law is shown there.
-- Assumes nothing.
use mathlib.Core.Path.{◌≡◌, refl, sym, ap, ap₂, ◌∙◌, subst}
use mathlib.Core.Logic.{⊎_elim}
use Prim.Native.Nat.{ℕ, zero, suc, pred, ◌+◌, ◌*◌, ◌/◌, ◌%◌, ◌^◌, ◌<◌}
use native.Mathlib.Nat.{mod-lt, mod_self, mod-eq_of_lt, div_self, div-eq_of_lt, zero-lt-suc, le_of_suc-le-suc, not-suc-le-zero, eq-or-lt_of_le, le_of_lt, le_of_eq, suc-pred-eq_of_pos, pow-suc, mul_comm}
use native.Mathlib.Omega.{arith}
use lib.Arith.{lt-one}
use lib.Dec.{lit<}
use lib.Pow.{pow_pos, pow-lt}
use Rattle.strings.specs.Xor.{◌⊕◌}
use Rattle.blocks.specs.Counter.{φ}
use Rattle.blocks.specs.Field.{times01, times_x, product_n, product, power, Ring}
use Rattle.blocks.specs.BlockField.{◌·◌}
use Rattle.strings.proofs.Xor.{xor_laws, xor_comm, xor_shr, xor_mod, xor_parts, xor_disjoint, xor_below, xor_zero, xor_zero_left, xor_self}

abbrev pub Additive : (ℕ → ℕ) → Type 0
Additive f = (a b : ℕ) → f (a ⊕ b) ≡ f a ⊕ f b

pub additive_zero : (f : ℕ → ℕ) → Additive f → f 0 ≡ 0
additive_zero f h = ap f (sym (xor_self 0)) ∙ h 0 0 ∙ xor_self (f 0)

double : (a : ℕ) → 2 * a ≡ a * 2 + 0
double a = omega arith

pub double_add : Additive (λ a. 2 * a)
unfolding ◌⊕◌
double_add a b = simp double (sym (xor_parts 1 a b 0 0 (zero-lt-suc 1) (zero-lt-suc 1)))

-- The lowest digit and the rest.
pub digits : (a : ℕ) → a % 2 ⊕ 2 * (a / 2) ≡ a
digits a =
    xor_comm (a % 2) (2 * (a / 2)) ∙ ap (λ (x : ℕ). x ⊕ a % 2) (mul_comm 2 (a / 2))
    ∙ xor_disjoint 1 (a / 2) (a % 2) (mod-lt a (zero-lt-suc 1)) ∙ omega arith

pub pow_double : (n : ℕ) → 2 * 2 ^ n ≡ 2 ^ suc n
pow_double n = mul_comm 2 (2 ^ n) ∙ sym (pow-suc 2 n)

pow_even : (i : ℕ) → 2 ^ suc i % 2 ≡ 0
pow_even i = omega arith

pow_half : (i : ℕ) → 2 ^ suc i / 2 ≡ 2 ^ i
pow_half i = omega arith

digit_agrees : (f g : ℕ → ℕ) → Additive f → Additive g → f 1 ≡ g 1 → (d : ℕ) → d < 2 → f d ≡ g d
digit_agrees f g hf hg e zero h = additive_zero f hf ∙ sym (additive_zero g hg)
digit_agrees f g hf hg e (suc zero) h = e
digit_agrees f g hf hg e (suc (suc d)) h = absurd (omega arith)

pub basis : (n : ℕ) (f g : ℕ → ℕ) → Additive f → Additive g → ((i : ℕ) → i < n → f (2 ^ i) ≡ g (2 ^ i)) → (a : ℕ) → a < 2 ^ n → f a ≡ g a
basis zero f g hf hg e a h = rw (lt-one h) (additive_zero f hf ∙ sym (additive_zero g hg))
basis (suc n) f g hf hg e a h =
    let low : f (a % 2) ≡ g (a % 2) = digit_agrees f g hf hg (e 0 (zero-lt-suc n)) (a % 2) (mod-lt a (zero-lt-suc 1)) in
    let doubled : (u : ℕ → ℕ) → Additive u → Additive (λ b. u (2 * b)) = λ u hu b c. rw (double_add b c) (hu (2 * b) (2 * c)) in
    let high : f (2 * (a / 2)) ≡ g (2 * (a / 2)) =
    basis n (λ b. f (2 * b)) (λ b. g (2 * b)) (doubled f hf) (doubled g hg)
    (λ i hi. rw (pow_double i) (e (suc i) (omega arith))) (a / 2) (omega (arith, pow-suc 2 n)) in
    ap f (sym (digits a)) ∙ hf (a % 2) (2 * (a / 2)) ∙ ap₂ ◌⊕◌ low high ∙ sym (hg (a % 2) (2 * (a / 2))) ∙ ap g (digits a)

-- ---- a coefficient times a number is additive on both sides

pub times01_add : (d : ℕ) → Additive (times01 d)
unfolding times01
times01_add zero a b = sym (xor_zero 0)
times01_add (suc d) a b = refl

digit_add : (d e a : ℕ) → d < 2 → e < 2 → times01 (d ⊕ e) a ≡ times01 d a ⊕ times01 e a
unfolding times01 ◌⊕◌
digit_add zero e a hd he = refl
digit_add (suc zero) zero a hd he = sym (xor_zero a)
digit_add (suc zero) (suc zero) a hd he = sym (xor_self a)
digit_add (suc zero) (suc (suc e)) a hd he = absurd (omega arith)
digit_add (suc (suc d)) e a hd he = absurd (omega arith)

pub add_times01 : (a d e : ℕ) → times01 ((d ⊕ e) % 2) a ≡ times01 (d % 2) a ⊕ times01 (e % 2) a
add_times01 a d e = rw (xor_mod 1 d e) (digit_add (d % 2) (e % 2) a (mod-lt d (zero-lt-suc 1)) (mod-lt e (zero-lt-suc 1)))

pub times01_below : (d : ℕ) {a n : ℕ} → 0 < n → a < n → times01 d a < n
unfolding times01
times01_below zero hn ha = hn
times01_below (suc d) hn ha = ha

module _ (k p : ℕ) where
  -- ---- times x

  pub x_add : Additive (times_x k p)
  unfolding times_x
  x_add a b = simp (double_add, xor_shr k, add_times01, xor_mod k, xor_laws)

  pub x_zero : times_x k p 0 ≡ 0
  x_zero = additive_zero (times_x k p) x_add

  pub x_below : p < 2 ^ k → (a : ℕ) → times_x k p a < 2 ^ k
  unfolding times_x
  x_below hp a = xor_below k (times01_below (2 * a / 2 ^ k % 2) (pow_pos k) hp) (mod-lt (2 * a) (pow_pos k))

  -- nothing falls out; a one falls out
  x_small : (a : ℕ) → 2 * a < 2 ^ k → times_x k p a ≡ 2 * a
  unfolding times_x times01
  x_small a h = rw (div-eq_of_lt h, mod-eq_of_lt h) (xor_zero_left (2 * a))

  x_top : (i : ℕ) → suc i ≡ k → times_x k p (2 ^ i) ≡ p
  unfolding times_x times01
  x_top i e = rw (pow_double i, e, div_self (pow_pos k), mod_self (2 ^ k)) (xor_zero p)

  x-times01 : (d a : ℕ) → times_x k p (times01 d a) ≡ times01 d (times_x k p a)
  unfolding times01
  x-times01 zero a = x_zero
  x-times01 (suc d) a = refl

  -- ---- n times x

  abbrev pub xs : ℕ → ℕ → ℕ
  xs n a = φ (times_x k p) a n

  pub xs_add : (n : ℕ) → Additive (xs n)
  unfolding φ
  xs_add zero a b = refl
  xs_add (suc n) a b = rw (xs_add n a b) (x_add (xs n a) (xs n b))

  xs_x : (n a : ℕ) → xs n (times_x k p a) ≡ times_x k p (xs n a)
  unfolding φ
  xs_x zero a = refl
  xs_x (suc n) a = ap (times_x k p) (xs_x n a)

  xs_swap : (m n a : ℕ) → xs m (xs n a) ≡ xs n (xs m a)
  unfolding φ
  xs_swap m zero a = refl
  xs_swap m (suc n) a = xs_x m (xs n a) ∙ ap (times_x k p) (xs_swap m n a)

  pub xs_one : (n : ℕ) → n < k → xs n 1 ≡ 2 ^ n
  unfolding φ
  xs_one zero h = refl
  xs_one (suc n) h =
      rw (xs_one n (le_of_lt h)) (x_small (2 ^ n) (rw (pow_double n) (pow-lt h)) ∙ pow_double n)

  pub xs_top : 0 < k → xs k 1 ≡ p
  unfolding φ
  xs_top h =
      let e : suc (pred k) ≡ k = suc-pred-eq_of_pos h in
      subst (λ (n : ℕ). xs n 1 ≡ p) e (rw (xs_one (pred k) (le_of_eq e)) (x_top (pred k) e))

  -- ---- the product is additive on both sides, keeps blocks, and times x passes through it

  pub prod_add_left : (n c : ℕ) → Additive (λ a. product_n k p n a c)
  unfolding product_n
  prod_add_left zero c a b = sym (xor_zero 0)
  prod_add_left (suc n) c a b = rw (prod_add_left n (c / 2) a b) (simp (times01_add, x_add, xor_laws))

  pub prod_add_right : (n a : ℕ) → Additive (product_n k p n a)
  unfolding product_n
  prod_add_right zero a b c = sym (xor_zero 0)
  prod_add_right (suc n) a b c = rw (xor_shr 1 b c, prod_add_right n a (b / 2) (c / 2)) (simp (add_times01, x_add, xor_laws))

  prod_below : p < 2 ^ k → (n a b : ℕ) → a < 2 ^ k → product_n k p n a b < 2 ^ k
  unfolding product_n
  prod_below hp zero a b h = pow_pos k
  prod_below hp (suc n) a b h = xor_below k (times01_below (b % 2) (pow_pos k) h) (x_below hp (product_n k p n a (b / 2)))

  prod_x : (n a b : ℕ) → product_n k p n (times_x k p a) b ≡ times_x k p (product_n k p n a b)
  unfolding product_n
  prod_x zero a b = sym x_zero
  prod_x (suc n) a b = rw (prod_x n a (b / 2)) (simp (x_add, x-times01))

  prod_xs : (m n a b : ℕ) → product_n k p n (xs m a) b ≡ xs m (product_n k p n a b)
  unfolding φ
  prod_xs zero n a b = refl
  prod_xs (suc m) n a b = prod_x n (xs m a) b ∙ ap (times_x k p) (prod_xs m n a b)

  prod_zero : (n a : ℕ) → product_n k p n a 0 ≡ 0
  prod_zero n a = additive_zero (product_n k p n a) (prod_add_right n a)

  -- a times 2 ^ i is i times x
  pub prod_pow : (n i a : ℕ) → i < n → product_n k p n a (2 ^ i) ≡ xs i a
  unfolding product_n φ times01
  prod_pow zero i a h = absurd (not-suc-le-zero h)
  prod_pow (suc n) zero a h = rw (prod_zero n a, x_zero) (xor_zero a)
  prod_pow (suc n) (suc i) a h =
      rw (pow_even i, pow_half i, prod_pow n i a (le_of_suc-le-suc h)) (xor_zero_left (times_x k p (xs i a)))

  module _ (hk : 0 < k) (hp : p < 2 ^ k) where
    -- ---- the laws, each at the powers of two

    one_left : (a : ℕ) → a < 2 ^ k → product k p 1 a ≡ a
    unfolding product
    one_left = basis k (product k p 1) (λ a. a) (prod_add_right k 1) (λ a b. refl) (λ i h. prod_pow k i 1 h ∙ xs_one i h)

    pub xs_left : (i : ℕ) → i < k → (a : ℕ) → a < 2 ^ k → product k p (2 ^ i) a ≡ xs i a
    unfolding product
    xs_left i h a ha = rw (← xs_one i h) (prod_xs i k 1 a ∙ ap (xs i) (one_left a ha))

    -- x ^ k is p, as a factor
    x_to_k : (a : ℕ) → a < 2 ^ k → xs k a ≡ product k p a p
    unfolding product
    x_to_k =
        basis k (xs k) (λ a. product k p a p) (xs_add k) (prod_add_left k p)
        (λ i h. rw (xs_left i h p hp, ← xs_one i h) (xs_swap k i 1 ∙ ap (xs i) (xs_top hk)))

    x_right : (a : ℕ) → a < 2 ^ k → (b : ℕ) → b < 2 ^ k → product k p a (times_x k p b) ≡ times_x k p (product k p a b)
    unfolding product φ
    x_right a ha =
        basis k (λ b. product k p a (times_x k p b)) (λ b. times_x k p (product k p a b))
        (λ b c. rw (x_add b c) (prod_add_right k a (times_x k p b) (times_x k p c)))
        (λ b c. rw (prod_add_right k a b c) (x_add (product k p a b) (product k p a c)))
        (λ i h. rw (prod_pow k i a h) (⊎_elim (λ e. at_top i e) (λ l. inside i l) (eq-or-lt_of_le h)))
      where
        at_top : (i : ℕ) → suc i ≡ k → product k p a (times_x k p (2 ^ i)) ≡ xs (suc i) a
        at_top i e = rw (x_top i e) (sym (x_to_k a ha) ∙ ap (λ (n : ℕ). xs n a) (sym e))

        inside : (i : ℕ) → suc i < k → product k p a (times_x k p (2 ^ i)) ≡ xs (suc i) a
        inside i l = rw (x_small (2 ^ i) (rw (pow_double i) (pow-lt l)), pow_double i) (prod_pow k (suc i) a l)

    xs_below : (n a : ℕ) → a < 2 ^ k → xs n a < 2 ^ k
    unfolding φ
    xs_below zero a h = h
    xs_below (suc n) a h = x_below hp (xs n a)

    xs_right : (a : ℕ) → a < 2 ^ k → (b : ℕ) → b < 2 ^ k → (i : ℕ) → product k p a (xs i b) ≡ xs i (product k p a b)
    unfolding φ
    xs_right a ha b hb zero = refl
    xs_right a ha b hb (suc i) = x_right a ha (xs i b) (xs_below i b hb) ∙ ap (times_x k p) (xs_right a ha b hb i)

    -- x times a, and the powers of x
    x_left : (a : ℕ) → a < 2 ^ k → product k p (times_x k p 1) a ≡ times_x k p a
    unfolding product
    x_left a h = prod_x k 1 a ∙ ap (times_x k p) (one_left a h)

    powers : (n : ℕ) → power 1 (product k p) (times_x k p 1) n ≡ xs n 1
    unfolding power φ
    powers zero = refl
    powers (suc n) = rw (powers n) (x_left (xs n 1) (xs_below n 1 (pow-lt hk)))

    -- φ_β(i) is the ith power of x, times β
    pub phi_power : (β : ℕ) → β < 2 ^ k → (i : ℕ) → φ (times_x k p) β i ≡ product k p (power 1 (product k p) (times_x k p 1) i) β
    unfolding product
    phi_power β h i = rw (powers i, prod_xs i k 1 β) (ap (xs i) (sym (one_left β h)))

    pub x-power : power 1 (product k p) (times_x k p 1) k ≡ p
    x-power = powers k ∙ xs_top hk

    pub ring : Ring k 1 (product k p)
    unfolding product φ
    ring = record {
      one_below = pow-lt hk;
      below = prod_below hp k;
      add_left = λ a b c. prod_add_left k c a b;
      add_right = λ a b c. prod_add_right k a b c;
      zero_left = λ a. additive_zero (λ b. product_n k p k b a) (prod_add_left k a);
      zero_right = prod_zero k;
      one_left = one_left;
      one_right = λ a h. prod_pow k 0 a hk;
      comm = λ a b ha hb.
          basis k (product k p a) (λ c. product k p c a) (prod_add_right k a) (prod_add_left k a)
          (λ i h. prod_pow k i a h ∙ sym (xs_left i h a ha)) b hb;
      assoc = λ a b c ha hb hc.
          basis k (product k p (product k p a b)) (λ d. product k p a (product k p b d)) (prod_add_right k (product k p a b))
          (λ d e. rw (prod_add_right k b d e) (prod_add_right k a (product k p b d) (product k p b e)))
          (λ i h. rw (prod_pow k i (product k p a b) h, prod_pow k i b h) (sym (xs_right a ha b hb i))) c hc;
    }

-- 01's blocks, and the bytes of AES
pub ring_of_blocks : Ring 128 1 ◌·◌
ring_of_blocks = ring 128 0x87 (lit< tt) (lit< tt)

pub ring_of_bytes : Ring 8 1 (product 8 0x1b)
ring_of_bytes = ring 8 0x1b (lit< tt) (lit< tt)
