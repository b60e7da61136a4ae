-- Each sentence is cited from the theorems of the crates below; the numbers are by the definition of the tests.
-- Assumes nothing.
use Prim.Native.Nat.{ℕ, ◌*◌, ◌/◌, ◌≤◌, ◌<◌}
use mathlib.Core.Path.{◌≡◌, refl, sym, ◌∙◌, subst}
use mathlib.Core.Bool.{Bool, true, false}
use mathlib.Core.List.{List, [], ◌++◌}
use native.Mathlib.Omega.{arith}
use borrow.Author.Tests.{le-leb, lt-leb}
use lib.ListN.{length, take, drop, replicate}
use Rattle.strings.specs.Call.{left_by}
use Rattle.layout.specs.Finding.{block_count, is_pack, part, parts, with_part, tests, found, Holds}
use Rattle.layout.proofs.Parts.{is_pack_lem, count_of, pack_of}
use Rattle.layout.proofs.Written.{in_pack}
use Rattle.layout.proofs.Theorems as Layout
use Rattle.claims.specs.Point1.{of_finding, IsPack, Point1}
use Rattle.claims.proofs.Demand1.{refused_left}
use Rattle.claims.proofs.Demand3.{hch_pack}

module _ (n : ℕ) (pack : List ℕ) (p : IsPack n pack) where
  pub blocks : length pack / 512 ≡ n
  blocks = count_of n pack p.2

  pub is_one : is_pack pack ≡ true
  is_one = pack_of n pack p.2 p.0 p.1

  done : (place : ℕ) → place < n → of_finding place pack ≡ 0
  unfolding tests
  done place h = rw (is_one, lt-leb (length pack / 512) place (omega (arith, blocks, h)))

  past : (place : ℕ) → n ≤ place → of_finding place pack ≡ 6
  unfolding tests
  past place h = rw (is_one, le-leb (length pack / 512) place (omega (arith, blocks, h)))

  part_of : (place : ℕ) → place < n → found place pack ≡ take 512 (drop (512 * place) pack)
  unfolding part
  part_of place h = rw (done place h)

  parts_of : parts n pack ≡ pack
  parts_of = rw blocks at ((Layout.theorems).pack_is_its_parts pack is_one)

-- Either it is no pack, and then of no n; or it is one of as many blocks as it has.
pub not_a_pack : (pack : List ℕ) (t : Bool) → is_pack pack ≡ t → ((n : ℕ) → IsPack n pack → ⊥) → is_pack pack ≡ false
not_a_pack pack true e none =
    let is = is_pack_lem pack e in
    absurd (none (block_count pack) (is.1, is.2, omega (arith, is.0)))
not_a_pack pack false e none = e

not_found : (place : ℕ) (pack : List ℕ) → is_pack pack ≡ false → of_finding place pack ≡ 10
unfolding tests
not_found place pack e = rw e

two_blocks : let pack : List ℕ = replicate 512 1 ++ replicate 512 2 in
    (found 0 pack ≡ replicate 512 1) × (found 1 pack ≡ replicate 512 2) × (of_finding 2 pack ≡ 6) × (of_finding 0 [] ≡ 10)
unfolding tests is_pack part
two_blocks = (refl, refl, refl, refl)

left_work : {number : ℕ} → number ≡ 0 → (work lent : List ℕ) → left_by number work lent ≡ work
left_work e work lent = rw e

pub point_1 : Point1
point_1 = record {
  find_done = λ n place pack p. done n pack p place;
  find_part = λ n place pack p. part_of n pack p place;
  find_length = λ n place pack p h. (Layout.theorems).found_length place pack (done n pack p place h);
  find_10 = λ place pack none. not_found place pack (not_a_pack pack (is_pack pack) refl none);
  find_6 = λ n place pack p. past n pack p place;
  find_nothing = λ place pack. refused_left (of_finding place pack) (part place pack) [];
  find_in_pack = λ n place pack r p h begins. in_pack place pack r (begins (done n pack.now p place h));
  find_written = λ n place pack r p h written memory block holds same.
      subst (Holds memory pack) (left_work (done n pack.now p place h) (with_part place block pack.now) pack.now) (written memory block holds same);
  pack_is_its_parts = parts_of;
  same_parts = λ n pack other p q same.
      (Layout.theorems).same_parts pack other (is_one n pack p) (p.2 ∙ sym q.2) (λ place h. same place (omega (arith, h, blocks n pack p)));
  parts_apart = λ n p q pack r s is in_p in-q. (Layout.theorems).parts_apart p q pack r s (done n pack.now is p in_p) (done n pack.now is q in-q);
  written_found = λ n place block pack p h. (Layout.theorems).written_found place block pack (done n pack p place h);
  others_found = λ n place other block pack p h. (Layout.theorems).others_found place other block pack (done n pack p place h);
  opened_in_place = λ n key payload number place pack k b h p l.
      (hch_pack key k).opened_in_place payload number place pack b h (done n pack p place l);
  others_in_place = λ n key payload number place pack k b h p l.
      (hch_pack key k).others_in_place payload number place pack b h (done n pack p place l);
  two_blocks = two_blocks;
}
