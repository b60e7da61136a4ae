-- The part that finding returns, as bytes in memory: where it begins, and what the pack is after it was written to.
-- Assumes nothing.
use Prim.Native.Nat.{ℕ, suc, ◌+◌, ◌-◌, ◌*◌, ◌≤◌, ◌<◌}
use mathlib.Core.Path.{◌≡◌, sym, ap, ◌∙◌, subst}
use mathlib.Core.List.{List}
use native.Mathlib.Nat.{add_assoc, add_comm}
use native.Mathlib.Omega.{arith}
use denote.Ref.{Bor}
use lib.ListN.{length, get_or, take, drop}
use Rattle.std.specs.Prelude.{Ok}
use Rattle.layout.specs.Finding.{with_part, answer_of, found, address, BeginsAt, Holds, Outside, SameOutside, Written}
use Rattle.layout.proofs.Parts.{found_within, part_length, found_part, places_apart, before_or_from, with_length, with_before, with_within, with_behind}

-- A byte of a part, as a byte of the pack; so parts of different places have none in common.
pub in_pack : (place : ℕ) (pack r : Bor (List ℕ)) → r.ref_ptr ≡ address pack (512 * place) → (i : ℕ) → address r i ≡ address pack (512 * place + i)
in_pack place pack r at i = ap (λ (p : ℕ × ℕ). (p.0, p.1 + i)) at ∙ ap (λ (n : ℕ). (pack.ref_ptr.0, n)) (add_assoc pack.ref_ptr.1 (512 * place) i)

pub parts_apart : (p q : ℕ) (pack r s : Bor (List ℕ)) → r.ref_ptr ≡ address pack (512 * p) → s.ref_ptr ≡ address pack (512 * q)
    → (i j : ℕ) → i < 512 → j < 512 → address r i ≡ address s j → (p ≡ q) × (i ≡ j)
parts_apart p q pack r s at_p at-q i j hi hj e =
    let one : pack.ref_ptr.1 + (512 * p + i) ≡ pack.ref_ptr.1 + (512 * q + j) =
    ap (λ (a : ℕ × ℕ). a.1) (sym (in_pack p pack r at_p i) ∙ e ∙ in_pack q pack s at-q j) in
    places_apart p q i j hi hj (omega (arith, one))

-- What the pack is after the part r was written to.
module _ (place : ℕ) (pack r : Bor (List ℕ)) (done : answer_of place pack.now ≡ Ok tt) (long : length r.now ≡ 512) (at : r.ref_ptr ≡ address pack (512 * place)) where
  second : r.ref_ptr.1 ≡ pack.ref_ptr.1 + 512 * place
  second = ap (λ (p : ℕ × ℕ). p.1) at

  outside : (i : ℕ) → (512 * place ≤ i → i < 512 * place + 512 → ⊥) → Outside r (address pack i)
  outside i apart j h same =
      let there : r.ref_ptr.1 + j ≡ pack.ref_ptr.1 + i = ap (λ (p : ℕ × ℕ). p.1) same in
      apart (omega (arith, there, second)) (omega (arith, there, second, long, h))

  room : 512 * place + 512 ≤ length pack.now
  room = found_within place pack.now done

  module _ (memory : ℕ × ℕ → ℕ) (block : List ℕ) (holds : Holds memory r block) (same : SameOutside memory pack r) where
    block_long : length block ≡ 512
    block_long = holds.same_length ∙ long

    SameByte : ℕ → Type 0
    SameByte i = memory (address pack i) ≡ get_or (with_part place block pack.now) i 0

    byte_before : (i : ℕ) → i < 512 * place → SameByte i
    unfolding SameByte
    byte_before i h =
        same i (omega (arith, room, h)) (outside i (λ from to. omega (arith, from, h))) ∙ sym (with_before place block pack.now room block_long i h)

    byte_within : (j : ℕ) → j < 512 → SameByte (512 * place + j)
    unfolding SameByte
    byte_within j h =
        ap memory (sym (in_pack place pack r at j)) ∙ holds.same_bytes j (omega (arith, block_long, h)) ∙ sym (with_within place block pack.now room block_long j h)

    byte_behind : (k : ℕ) → 512 * suc place + k < length pack.now → SameByte (512 * suc place + k)
    unfolding SameByte
    byte_behind k h =
        same (512 * suc place + k) h (outside (512 * suc place + k) (λ from to. omega (arith, to))) ∙ sym (with_behind place block pack.now room block_long k)

    same_byte : (i : ℕ) → i < length pack.now → SameByte i
    same_byte i h =
        before_or_from i (512 * place) (byte_before i)
        (λ from. before_or_from i (512 * suc place)
        (λ to. subst SameByte (omega (arith, from)) (byte_within (i - 512 * place) (omega (arith, from, to))))
        (λ behind. subst SameByte (omega (arith, behind)) (byte_behind (i - 512 * suc place) (omega (arith, behind, h)))))

    is_written : Holds memory pack (with_part place block pack.now)
    unfolding SameByte
    is_written = record {
      same_length = with_length place block pack.now room block_long;
      same_bytes = λ i h. same_byte i (omega (arith, h, with_length place block pack.now room block_long));
    }

  pub done_written : Written place pack r
  done_written memory block is same = rw done (is_written memory block is same)

-- ---- what the code returns: r, as it has its ends, is what is found

module _ (place : ℕ) (pack r : Bor (List ℕ)) where
  pub part-found : answer_of place pack.now ≡ Ok tt → r.ref_ptr ≡ (pack.ref_ptr.0, 512 * place + pack.ref_ptr.1)
      → r.now ≡ take (512 * place + 512 - 512 * place) (drop (512 * place) pack.now)
      → (r.now ≡ found place pack.now) × (BeginsAt place pack r × Written place pack r)
  part-found done at is =
      let room = found_within place pack.now done in
      let long : length r.now ≡ 512 = ap length (is ∙ found_part place pack.now done) ∙ rw done (part_length place pack.now room) in
      let begins : r.ref_ptr ≡ address pack (512 * place) = at ∙ ap (λ (n : ℕ). (pack.ref_ptr.0, n)) (add_comm (512 * place) pack.ref_ptr.1) in
      (is ∙ found_part place pack.now done, (λ e. begins, done_written place pack r done long begins))
