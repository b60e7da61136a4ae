-- One pass of a wide-block scheme, and the pass that undoes it. The first w bytes stand for a value, the front: a block for one scheme, two blocks for
-- another. The front, with a sum of the rest added, goes through F; the rest is masked by what went in and came out; and a sum of the masked rest is
-- added to what came out.
-- Assumes nothing.
use Prim.Native.Nat.{ℕ, ◌+◌, ◌-◌, ◌≤◌}
use mathlib.Core.Path.{◌≡◌}
use mathlib.Core.List.{List, ◌++◌}
use native.Mathlib.Omega.{arith}
use lib.ListN.{take, drop, length-append, length-drop, take-append-drop}
use lib.Seq.{take_at, drop_at, length-take-le}
use Rattle.strings.specs.Bytes.{OfLength}
use Rattle.strings.specs.Cipher.{Permutation, Cipher}
use Rattle.strings.proofs.Bytes.{below_append, below_take, below_drop}
use Rattle.strings.proofs.Permutations.{backwards}

-- How w bytes stand for a value that has `Is`, and a sum of such values in which each is its own inverse.
pub record Front (w : ℕ) {A : Type 0} (Is : A → Type 0) : Type 0 where
  pub read : List ℕ → A
  pub write : A → List ℕ
  pub sum : A → A → A
  pub reads : (s : List ℕ) → OfLength w s → Is (read s)
  pub writes : (a : A) → OfLength w (write a)
  pub read_written : (a : A) → Is a → read (write a) ≡ a
  pub written_read : (s : List ℕ) → OfLength w s → write (read s) ≡ s
  pub sum_is : (a b : A) → Is a → Is b → Is (sum a b)
  pub sum_comm : (a b : A) → sum a b ≡ sum b a
  pub sum_cancel : (a b : A) → sum (sum a b) b ≡ a

-- Two fronts, one behind the other, are a front for the pair of their values.
unfoldable pub pair : {v w : ℕ} {A B : Type 0} {Is : A → Type 0} {Is' : B → Type 0} → Front v Is → Front w Is' → Front (v + w) (λ (p : A × B). Is p.0 × Is' p.1)
pair {v} {w} f g =
    let split : (s : List ℕ) → OfLength (v + w) s → OfLength v (take v s) × OfLength w (drop v s) =
    λ s h. (
      (length-take-le v s (rw h.0 (omega arith)), below_take v s h.1),
      (rw (length-drop v s, h.0) (omega arith), below_drop v s h.1),
    ) in
    record {
      read = λ s. (f.read (take v s), g.read (drop v s));
      write = λ p. f.write p.0 ++ g.write p.1;
      sum = λ p q. (f.sum p.0 q.0, g.sum p.1 q.1);
      reads = λ s h. (f.reads (take v s) (split s h).0, g.reads (drop v s) (split s h).1);
      writes = λ p. (
        rw (length-append, (f.writes p.0).0, (g.writes p.1).0),
        below_append (f.write p.0) (g.write p.1) (f.writes p.0).1 (g.writes p.1).1,
      );
      read_written = λ p h. rw (
        take_at (f.write p.0) (g.write p.1) v (f.writes p.0).0,
        drop_at (f.write p.0) (g.write p.1) v (f.writes p.0).0,
        f.read_written p.0 h.0,
        g.read_written p.1 h.1,
      );
      written_read = λ s h. rw (f.written_read (take v s) (split s h).0, g.written_read (drop v s) (split s h).1) (take-append-drop v s);
      sum_is = λ p q hp hq. (f.sum_is p.0 q.0 hp.0 hq.0, g.sum_is p.1 q.1 hp.1 hq.1);
      sum_comm = λ p q. rw (f.sum_comm p.0 q.0, g.sum_comm p.1 q.1);
      sum_cancel = λ p q. rw (f.sum_cancel p.0 q.0, g.sum_cancel p.1 q.1);
    }

module _ {w : ℕ} {A : Type 0} {Is : A → Type 0} (front : Front w Is) (F : A → A) (g g' : List ℕ → A) (mask : A → List ℕ → List ℕ) where
  unfoldable pub pass : List ℕ → List ℕ
  pass s =
      let y = drop w s in
      let a = front.sum (front.read (take w s)) (g y) in
      let b = F a in
      let c = mask (front.sum a b) y in
      front.write (front.sum b (g' c)) ++ c

module _ {w n : ℕ} {A : Type 0} {Is : A → Type 0} (front : Front w Is) {F G : A → A} {g g' : List ℕ → A} {mask : A → List ℕ → List ℕ} (l : w ≤ n)
    (is : (y : List ℕ) → OfLength (n - w) y → Is (g y))
    (is' : (y : List ℕ) → OfLength (n - w) y → Is (g' y))
    (masks : (a : A) → Cipher (n - w) (mask a) (mask a))
    (p : Permutation Is F G) where
  first : (s : List ℕ) → OfLength n s → OfLength w (take w s)
  first s h = (length-take-le w s (rw h.0 l), below_take w s h.1)

  rest : (s : List ℕ) → OfLength n s → OfLength (n - w) (drop w s)
  rest s h = (rw (length-drop w s, h.0), below_drop w s h.1)

  -- What goes into F.
  into : (s : List ℕ) → OfLength n s → Is (front.sum (front.read (take w s)) (g (drop w s)))
  into s h = front.sum_is (front.read (take w s)) (g (drop w s)) (front.reads (take w s) (first s h)) (is (drop w s) (rest s h))

  keeps : (s : List ℕ) → OfLength n s → OfLength n (pass front F g g' mask s)
  unfolding pass
  keeps s h =
      let a = front.sum (front.read (take w s)) (g (drop w s)) in
      let c = mask (front.sum a (F a)) (drop w s) in
      let k = (masks (front.sum a (F a))).keeps (drop w s) (rest s h) in
      let v = front.sum (F a) (g' c) in (
        rw (length-append, (front.writes v).0, k.0) (omega (arith, l)),
        below_append (front.write v) c (front.writes v).1 k.1,
      )

  undone : (s : List ℕ) → OfLength n s → pass front G g' g mask (pass front F g g' mask s) ≡ s
  unfolding pass
  undone s h =
      let y : List ℕ = drop w s in
      let v : A = front.read (take w s) in
      let a : A = front.sum v (g y) in
      let b : A = F a in
      let c : List ℕ = mask (front.sum a b) y in
      let head : List ℕ = front.write (front.sum b (g' c)) in
      let hc : OfLength (n - w) c = (masks (front.sum a b)).keeps y (rest s h) in
      let hb : Is b = p.keeps a (into s h) in
      let masked : mask (front.sum b a) c ≡ y = rw (front.sum_comm b a) ((masks (front.sum a b)).undone y (rest s h)) in
      rw (
        take_at head c w (front.writes (front.sum b (g' c))).0,
        drop_at head c w (front.writes (front.sum b (g' c))).0,
        front.read_written (front.sum b (g' c)) (front.sum_is b (g' c) hb (is' c hc)),
        front.sum_cancel b (g' c),
        p.undone a (into s h),
        masked,
        front.sum_cancel v (g y),
        front.written_read (take w s) (first s h),
        take-append-drop w s,
      )

pub pass_cipher : {w n : ℕ} {A : Type 0} {Is : A → Type 0} (front : Front w Is) {F G : A → A} {g g' : List ℕ → A} {mask : A → List ℕ → List ℕ} → w ≤ n
    → ((y : List ℕ) → OfLength (n - w) y → Is (g y)) → ((y : List ℕ) → OfLength (n - w) y → Is (g' y))
    → ((a : A) → Cipher (n - w) (mask a) (mask a)) → Permutation Is F G
    → Cipher n (pass front F g g' mask) (pass front G g' g mask)
pass_cipher front l is is' masks p = record {
  keeps = keeps front l is is' masks p;
  inverse_keeps = keeps front l is' is masks (backwards p);
  undone = undone front l is is' masks p;
  undoes = undone front l is' is masks (backwards p);
}
