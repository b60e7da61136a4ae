-- The plain block and its check, and a block of zeros.
-- Assumes nothing.
use Prim.Native.Nat.{ℕ, zero, suc, ◌+◌, ◌-◌, ◌%◌, ◌^◌, ◌≤◌, ◌<◌}
use mathlib.Core.Path.{◌≡◌, refl, sym, ap, ◌∙◌}
use mathlib.Core.Bool.{true, false, cond, ◌&&◌, and_assoc}
use mathlib.Core.List.{List, ◌++◌, append_assoc}
use native.Mathlib.Nat.{zero-div, zero-add, mod-eq_of_lt}
use native.Mathlib.Omega.{arith}
use borrow.Author.Tests.{le-leb, leb-true}
use lib.Dec.{leb}
use lib.ListN.{length, get_or, take, drop, replicate, length-append, length-replicate, length-drop, length-take, take-append-drop}
use lib.Seq.{drop-drop, drop_at, take_all, take_at, length-take-le}
use Rattle.std.proofs.Common.{rules, Fits, w8}
use Rattle.std.proofs.lemmas.Bool.{false_from_ne_true, lt-leb}
use Rattle.std.proofs.lemmas.Grind.{common_steps}
use Rattle.strings.specs.Bytes.{Bytes, OfLength, number, bytes, equal}
use Rattle.strings.specs.Inner.{padded, overwrite}
use Rattle.strings.proofs.Bytes.{length-bytes, bytes_below, bytes-number, number_below, number-bytes, below_append, below_take, below_drop, padded-take}
use Rattle.strings.proofs.Place.{number_fits, overwrite_head, overwrite-append, overwrite_whole}
use Rattle.strings.proofs.Equal.{both, equal-append, equal_refl, equal_true}
use Rattle.layout.specs.Layout.{check, plain_block, tweak, used, passes, is_zero}
use Rattle.layout.specs.Inner.{fits}
use Rattle.std.specs.Prelude.{Some, None}
use Rattle.std.specs.Bool.{then_some}

-- u is two bytes.
pub used_bytes : (B : List ℕ) → OfLength 512 B → number (padded 2 (drop 508 B)) % 2 ^ 64 ≡ used B
unfolding used
used_bytes B h =
    let two : 2 ≤ length (drop 508 B) = rw (length-drop, h.0) (omega arith) in
    rw (padded-take 2 (drop 508 B) two) (mod-eq_of_lt (rw (padded-take 2 (drop 508 B) two) at (number_fits 2 8 508 B h.1 (omega arith))))

pub used_below : (B : List ℕ) → OfLength 512 B → used B < 65536
unfolding used
used_below B h =
    let two : length (take 2 (drop 508 B)) ≡ 2 = length-take-le 2 (drop 508 B) (rw (length-drop, h.0) (omega arith)) in
    rw two at (number_below (take 2 (drop 508 B)) (below_take 2 (drop 508 B) (below_drop 508 B h.1)))

-- The number 0 is zeros.
zeros : (n : ℕ) → bytes n 0 ≡ replicate n 0
unfolding bytes
zeros zero = refl
zeros (suc n) = rw (zero-div (256 ^ n), zeros n)

-- Its length, and where each part of it begins.
length-check : (u pack place : ℕ) → length (check u pack place) ≡ 496 - u + 16
unfolding check
length-check u pack place = grind (arith, common_steps, length-bytes)

pub length_plain : (payload : List ℕ) (pack place : ℕ) → length payload ≤ 496 → length (plain_block payload pack place) ≡ 512
unfolding plain_block
length_plain payload pack place h = grind (arith, common_steps, length-check)

-- Writing one behind the other.
overwrite_behind : (i j : ℕ) (t u s : List ℕ) → i + length t ≡ j → overwrite i (t ++ u) s ≡ overwrite j u (overwrite i t s)
overwrite_behind i j t u s e = rw (overwrite-append i t u s, e)

-- The parts of the check, written each at its place.
pub check_written : (u pack place : ℕ) (s : List ℕ) → u ≤ 496
    → overwrite 510 (bytes 2 0) (overwrite 508 (bytes 2 u) (overwrite 504 (bytes 4 place) (overwrite 496 (bytes 8 pack)
    (overwrite u (bytes (496 - u) 0) s)))) ≡ overwrite u (check u pack place) s
unfolding check
check_written u pack place s h =
    let filling : List ℕ = replicate (496 - u) 0 in
    let at496 : u + length filling ≡ 496 = rw length-replicate (omega arith) in
    let at504 : u + length (filling ++ bytes 8 pack) ≡ 504 = rw (length-append, length-replicate, length-bytes) (omega arith) in
    let at508 : u + length (filling ++ bytes 8 pack ++ bytes 4 place) ≡ 508 =
    simp (length-append, length-replicate, length-bytes) (omega arith) in
    let at510 : u + length (filling ++ bytes 8 pack ++ bytes 4 place ++ bytes 2 u) ≡ 510 =
    simp (length-append, length-replicate, length-bytes) (omega arith) in
    rw (
      zeros (496 - u),
      zeros 2,
      overwrite_behind u 510 (filling ++ bytes 8 pack ++ bytes 4 place ++ bytes 2 u) (replicate 2 0) s at510,
      overwrite_behind u 508 (filling ++ bytes 8 pack ++ bytes 4 place) (bytes 2 u) s at508,
      overwrite_behind u 504 (filling ++ bytes 8 pack) (bytes 4 place) s at504,
      overwrite_behind u 496 filling (bytes 8 pack) s at496,
    )

-- The payload and its check, written over any 512 bytes.
pub plain_written : (payload s : List ℕ) (pack place : ℕ) → length payload ≤ 496 → length s ≡ 512
    → overwrite (length payload) (check (length payload) pack place) (overwrite 0 payload s) ≡ plain_block payload pack place
unfolding plain_block
plain_written payload s pack place h l =
    sym (overwrite_behind 0 (length payload) payload (check (length payload) pack place) s (zero-add (length payload)))
    ∙ overwrite_whole (payload ++ check (length payload) pack place) s (length_plain payload pack place h ∙ sym l)

-- A string is a check where each part of it is at its place.
check-parts : (u pack place : ℕ) (B : List ℕ) → length B ≡ 512 → u ≤ 496
    → equal (drop u B) (check u pack place)
    ≡ (equal (take (496 - u) (drop u B)) (bytes (496 - u) 0) && (equal (take 8 (drop 496 B)) (bytes 8 pack)
    && (equal (take 4 (drop 504 B)) (bytes 4 place) && (equal (take 2 (drop 508 B)) (bytes 2 u) && equal (take 2 (drop 510 B)) (bytes 2 0)))))
unfolding check
check-parts u pack place B h l =
    let filling : List ℕ = replicate (496 - u) 0 in
    let zero2 : List ℕ = replicate 2 0 in
    let at496 : u + (496 - u) ≡ 496 = omega arith in
    let last : length (drop 510 B) ≤ 2 = rw (length-drop, h) (omega arith) in
    rw (
      append_assoc (filling ++ bytes 8 pack ++ bytes 4 place) (bytes 2 u) zero2,
      append_assoc (filling ++ bytes 8 pack) (bytes 4 place) (bytes 2 u ++ zero2),
      append_assoc filling (bytes 8 pack) (bytes 4 place ++ (bytes 2 u ++ zero2)),
      equal-append (drop u B) filling (bytes 8 pack ++ (bytes 4 place ++ (bytes 2 u ++ zero2))),
      length-replicate,
      drop-drop,
      at496,
      equal-append (drop 496 B) (bytes 8 pack) (bytes 4 place ++ (bytes 2 u ++ zero2)),
      length-bytes 8 pack,
      drop-drop,
      equal-append (drop 504 B) (bytes 4 place) (bytes 2 u ++ zero2),
      length-bytes 4 place,
      drop-drop,
      equal-append (drop 508 B) (bytes 2 u) zero2,
      length-bytes 2 u,
      drop-drop,
      take_all 2 (drop 510 B) last,
      zeros (496 - u),
      zeros 2,
    )

-- u is what it was read from.
own_part : (B : List ℕ) → OfLength 512 B → equal (take 2 (drop 508 B)) (bytes 2 (used B)) ≡ true
unfolding used
own_part B h =
    let two : length (take 2 (drop 508 B)) ≡ 2 = rw (length-take, length-drop, h.0) in
    let back : bytes 2 (number (take 2 (drop 508 B))) ≡ take 2 (drop 508 B) =
    rw two at (bytes-number (take 2 (drop 508 B)) (below_take 2 (drop 508 B) (below_drop 508 B h.1))) in
    rw back (equal_refl (take 2 (drop 508 B)))

-- The check is passed where each part of it is what it should be; u is read from its own part.
pub passes_parts : (pack place : ℕ) (B : List ℕ) → OfLength 512 B → used B ≤ 496 → let u = used B in
    passes pack place B
    ≡ (equal (take (496 - u) (drop u B)) (bytes (496 - u) 0) && equal (take 8 (drop 496 B)) (bytes 8 pack)
    && equal (take 4 (drop 504 B)) (bytes 4 place) && equal (take 2 (drop 510 B)) (bytes 2 0))
unfolding passes
passes_parts pack place B h l =
    let u = used B in
    let filling = equal (take (496 - u) (drop u B)) (bytes (496 - u) 0) in
    let number = equal (take 8 (drop 496 B)) (bytes 8 pack) in
    let location = equal (take 4 (drop 504 B)) (bytes 4 place) in
    let last = equal (take 2 (drop 510 B)) (bytes 2 0) in
    rw (le-leb u 496 l, check-parts u pack place B h.0 l, own_part B h, and_assoc (filling && number) location last, and_assoc filling number (location && last))

-- The tweak and the plain block are strings of 16 and of 512 bytes.
zeros_below : (n : ℕ) → Bytes (replicate n 0)
zeros_below n i = grind (arith, common_steps)

pub tweak_of_length : (pack place : ℕ) → OfLength 16 (tweak pack place)
unfolding tweak
tweak_of_length pack place = (
  simp (length-append, length-replicate, length-bytes),
  below_append (bytes 8 pack ++ replicate 4 0) (bytes 4 place)
      (below_append (bytes 8 pack) (replicate 4 0) (bytes_below 8 pack) (zeros_below 4)) (bytes_below 4 place),
)

check_below : (u pack place : ℕ) → Bytes (check u pack place)
unfolding check
check_below u pack place =
    let filling : List ℕ = replicate (496 - u) 0 in
    below_append (filling ++ bytes 8 pack ++ bytes 4 place ++ bytes 2 u) (replicate 2 0)
    (below_append (filling ++ bytes 8 pack ++ bytes 4 place) (bytes 2 u)
    (below_append (filling ++ bytes 8 pack) (bytes 4 place)
    (below_append filling (bytes 8 pack) (zeros_below (496 - u)) (bytes_below 8 pack)) (bytes_below 4 place)) (bytes_below 2 u)) (zeros_below 2)

pub plain_of_length : (payload : List ℕ) (pack place : ℕ) → Bytes payload → length payload ≤ 496 → OfLength 512 (plain_block payload pack place)
unfolding plain_block
plain_of_length payload pack place b h =
    (length_plain payload pack place h, below_append payload (check (length payload) pack place) b (check_below (length payload) pack place))

-- The plain block of a payload holds its length, and passes its check.
module _ (payload : List ℕ) (pack place : ℕ) (h : length payload ≤ 496) where
  pub used_plain : used (plain_block payload pack place) ≡ length payload
  unfolding used plain_block check
  used_plain =
      let u = length payload in
      let front : List ℕ = replicate (496 - u) 0 ++ bytes 8 pack ++ bytes 4 place in
      let at508 : length (payload ++ front) ≡ 508 = simp (length-append, length-replicate, length-bytes) (omega arith) in
      rw (
        append_assoc front (bytes 2 u) (replicate 2 0),
        sym (append_assoc payload front (bytes 2 u ++ replicate 2 0)),
        drop_at (payload ++ front) (bytes 2 u ++ replicate 2 0) 508 at508,
        take_at (bytes 2 u) (replicate 2 0) 2 (length-bytes 2 u),
        number-bytes 2 u,
      ) (mod-eq_of_lt (omega arith))

  drop_plain : drop (length payload) (plain_block payload pack place) ≡ check (length payload) pack place
  unfolding plain_block
  drop_plain = drop_at payload (check (length payload) pack place) (length payload) refl

  pub take_plain : take (length payload) (plain_block payload pack place) ≡ payload
  unfolding plain_block
  take_plain = take_at payload (check (length payload) pack place) (length payload) refl

  pub passes_plain : passes pack place (plain_block payload pack place) ≡ true
  unfolding passes
  passes_plain =
      rw (used_plain, le-leb (length payload) 496 h, drop_plain) (equal_refl (check (length payload) pack place))

-- And nothing else does.
pub passes_only : (pack place : ℕ) (B : List ℕ) → length B ≡ 512 → passes pack place B ≡ true
    → (used B ≤ 496) × (B ≡ plain_block (take (used B) B) pack place)
unfolding passes plain_block
passes_only pack place B h e =
    let parts = both (leb (used B) 496) (equal (drop (used B) B) (check (used B) pack place)) e in
    let l = leb-true (used B) 496 parts.0 in
    let n : length (take (used B) B) ≡ used B = length-take-le (used B) B (omega (arith, h)) in
    (l, rw (n, sym (equal_true (drop (used B) B) (check (used B) pack place) parts.1), take-append-drop))

-- What passes has 512 bytes.
passed_length : (pack place : ℕ) (B : List ℕ) → passes pack place B ≡ true → length B ≡ 512
unfolding passes
passed_length pack place B e =
    let parts = both (leb (used B) 496) (equal (drop (used B) B) (check (used B) pack place)) e in
    let same : length (drop (used B) B) ≡ 496 - used B + 16 =
    ap length (equal_true (drop (used B) B) (check (used B) pack place) parts.1) ∙ length-check (used B) pack place in
    omega (arith, leb-true (used B) 496 parts.0, same, length-drop (used B) B)

pub passes_length : (pack place : ℕ) (B : List ℕ) → (length B ≡ 512 → ⊥) → passes pack place B ≡ false
passes_length pack place B h = false_from_ne_true (passes pack place B) (λ e. h (passed_length pack place B e))

-- As the code reads u.
pub too_much_used : (pack place : ℕ) (B : List ℕ) → length B ≡ 512 → ((i : ℕ) → Fits w8 (get_or B i 0))
    → 496 < number (padded 2 (drop 508 B)) % 2 ^ 64 → passes pack place B ≡ false
unfolding passes
too_much_used pack place B long fit h =
    rw (lt-leb (used B) 496 (omega (arith, h, used_bytes B (long, λ i. (fit i).fits))))

-- What was read tells of the check.
module _ (pack place : ℕ) (B : List ℕ) where
  pub read_passed : (u : ℕ) → Some u ≡ then_some (passes pack place B) (used B) → (passes pack place B ≡ true) × (u ≡ used B)
  read_passed u e = search rules

  pub read_failed : None ≡ then_some (passes pack place B) (used B) → passes pack place B ≡ false
  read_failed e = search rules

pub both_fit : (payload block : List ℕ) → length payload ≤ 496 → length block ≡ 512 → fits payload block ≡ true
unfolding fits
both_fit payload block h l = search rules

-- Of a payload that stands at the front of its block: what the tests tell, and the block when its check was written.
pub too_long : (u : ℕ) (block : List ℕ) → length block ≡ 512 → 496 < u → fits (take u block) block ≡ false
unfolding fits
too_long u block l h = search (rules, length-take)

pub completed : (u : ℕ) (block : List ℕ) (pack place : ℕ) → length block ≡ 512 → u ≤ 496
    → overwrite u (check u pack place) block ≡ cond (fits (take u block) block) (plain_block (take u block) pack place) block
completed u block pack place l h =
    let size : length (take u block) ≡ u = length-take-le u block (omega (arith, l, h)) in
    let short : length (take u block) ≤ length block = omega (arith, l, h, size) in
    let whole : overwrite 0 (take u block) block ≡ block = rw (overwrite_head (take u block) block short, size) (take-append-drop u block) in
    rw (both_fit (take u block) block (omega (arith, size, h)) l) (rw (whole, size) at (plain_written (take u block) block pack place (omega (arith, size, h)) l))

-- A block of zeros, and no other, is told to be one, by comparing 512 bytes with the number 0.
pub zero_only : (C : List ℕ) → is_zero C ≡ true → C ≡ replicate 512 0
unfolding is_zero
zero_only C e = equal_true C (replicate 512 0) e

pub zero_told : (C : List ℕ) → C ≡ replicate 512 0 → is_zero C ≡ true
unfolding is_zero
zero_told C e = rw e (equal_refl (replicate 512 0))

pub not_zero : (C : List ℕ) → (C ≡ replicate 512 0 → ⊥) → is_zero C ≡ false
not_zero C h = false_from_ne_true (is_zero C) (λ e. h (zero_only C e))

pub zero_length : (C : List ℕ) → (length C ≡ 512 → ⊥) → is_zero C ≡ false
zero_length C h = not_zero C (λ e. h (ap length e ∙ length-replicate {A = ℕ} 512 0))

pub zero_bytes : (C : List ℕ) → length C ≡ 512 → equal C (bytes (length C) 0) ≡ is_zero C
unfolding is_zero
zero_bytes C h = rw (h, zeros 512)
