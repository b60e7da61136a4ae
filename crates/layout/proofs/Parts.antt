-- The parts of a pack: what an answer tells of them, the pack as its parts, and the pack with another block in a place.
-- Assumes nothing.
use Prim.Native.Nat.{ℕ, zero, suc, ◌+◌, ◌-◌, ◌*◌, ◌%◌, ◌≤◌, ◌<◌}
use mathlib.Core.Path.{◌≡◌, refl, sym, ap, ◌∙◌}
use mathlib.Core.Bool.{true}
use mathlib.Core.List.{List, [], ◌++◌}
use native.Mathlib.Omega.{arith}
use lib.ListN.{length, get_or, take, drop, length-drop}
use lib.Seq.{drop_at, take_at, length-take-le, get_or-take, get_or-drop, take-add, take-length, ext_get_or}
use Rattle.std.proofs.Common.{rules}
use Rattle.std.proofs.lemmas.Grind.{common_steps}
use Rattle.strings.specs.Call.{number_of, left_by}
use Rattle.std.specs.Prelude.{Ok}
use Rattle.layout.specs.Finding.{block_count, is_pack, part, parts, with_part, tests, answer_of, found}

-- ---- what an answer tells

pub none_refused : (place : ℕ) (pack : List ℕ) → number_of (answer_of place pack) ≡ 0 → answer_of place pack ≡ Ok tt
unfolding tests
none_refused place pack e = search rules

in_range : (place : ℕ) (pack : List ℕ) → is_pack pack ≡ true → place < block_count pack → answer_of place pack ≡ Ok tt
unfolding tests
in_range place pack h b = search rules

-- What it is to be a pack, as facts.
pub is_pack_lem : (pack : List ℕ) → is_pack pack ≡ true → (length pack % 512 ≡ 0) × (1 ≤ block_count pack) × (block_count pack ≤ 128)
unfolding is_pack
is_pack_lem pack h = search rules

pub whole_blocks : (pack : List ℕ) → is_pack pack ≡ true → 512 * block_count pack ≡ length pack
whole_blocks pack h = omega (arith, (is_pack_lem pack h).0)

-- And n whole blocks are a pack of n blocks.
pub count_of : (n : ℕ) (pack : List ℕ) → length pack ≡ 512 * n → block_count pack ≡ n
count_of n pack h = omega (arith, h)

pub pack_of : (n : ℕ) (pack : List ℕ) → length pack ≡ 512 * n → 1 ≤ n → n ≤ 128 → is_pack pack ≡ true
unfolding is_pack
pack_of n pack h low high = grind (arith, common_steps)

-- A place that is found stands within the pack, and is below 128.
pub found_within : (place : ℕ) (pack : List ℕ) → answer_of place pack ≡ Ok tt → 512 * place + 512 ≤ length pack
unfolding tests
found_within place pack e = search rules

pub found_limit : (place : ℕ) (pack : List ℕ) → answer_of place pack ≡ Ok tt → place < 128
unfolding tests is_pack
found_limit place pack e = search rules

pub part_length : (place : ℕ) (pack : List ℕ) → 512 * place + 512 ≤ length pack → length (part place pack) ≡ 512
unfolding part
part_length place pack room = length-take-le 512 (drop (512 * place) pack) (rw length-drop (omega (arith, room)))

-- What is found, as the code has its ends.
pub found_part : (place : ℕ) (pack : List ℕ) → answer_of place pack ≡ Ok tt → take (512 * place + 512 - 512 * place) (drop (512 * place) pack) ≡ found place pack
unfolding part
found_part place pack e = search rules

-- ---- the pack with another block in a place

pub before_or_from : {A : Type 0} (i a : ℕ) → (i < a → A) → (a ≤ i → A) → A
before_or_from i a before from = search rules

pub get_or-part : (place : ℕ) (pack : List ℕ) (i : ℕ) → i < 512 → get_or (part place pack) i 0 ≡ get_or pack (512 * place + i) 0
unfolding part
get_or-part place pack i h = get_or-take 512 (drop (512 * place) pack) i 0 h ∙ get_or-drop (512 * place) pack i 0

-- The length of the pack with another block in a place, and its bytes in front of that block, in it and behind it.
module _ (place : ℕ) (block pack : List ℕ) (room : 512 * place + 512 ≤ length pack) (long : length block ≡ 512) where
  pub with_length : length (with_part place block pack) ≡ length pack
  unfolding with_part
  with_length = grind (arith, common_steps)

  pub with_before : (i : ℕ) → i < 512 * place → get_or (with_part place block pack) i 0 ≡ get_or pack i 0
  unfolding with_part
  with_before i h = grind (arith, common_steps)

  pub with_within : (j : ℕ) → j < 512 → get_or (with_part place block pack) (512 * place + j) 0 ≡ get_or block j 0
  unfolding with_part
  with_within j h = grind (arith, common_steps)

  pub with_behind : (k : ℕ) → get_or (with_part place block pack) (512 * suc place + k) 0 ≡ get_or pack (512 * suc place + k) 0
  unfolding with_part
  with_behind k = grind (arith, common_steps)

  -- The part of that place is the block, and every other part what it was.
  pub part_with : part place (with_part place block pack) ≡ block
  unfolding part with_part
  part_with =
      let rest = drop (512 * suc place) pack in
      let front = length-take-le (512 * place) pack (omega (arith, room)) in
      rw (drop_at (take (512 * place) pack) (block ++ rest) (512 * place) front, take_at block rest 512 long)

  other_byte : (other i : ℕ) → (other ≡ place → ⊥) → i < 512 → get_or (with_part place block pack) (512 * other + i) 0 ≡ get_or pack (512 * other + i) 0
  unfolding with_part
  other_byte other i apart h = grind (arith, common_steps)

  pub part_with_other : (other : ℕ) → (other ≡ place → ⊥) → 512 * other + 512 ≤ length pack → part other (with_part place block pack) ≡ part other pack
  part_with_other other apart within =
      let size = part_length other (with_part place block pack) (omega (arith, with_length, within)) in
      ext_get_or 0 (part other (with_part place block pack)) (part other pack) (size ∙ sym (part_length other pack within))
      (λ i h.
      let in_part : i < 512 = omega (arith, h, size) in
      get_or-part other (with_part place block pack) i in_part ∙ other_byte other i apart in_part ∙ sym (get_or-part other pack i in_part))

-- ---- a pack is its parts

parts-take : (n : ℕ) (pack : List ℕ) → parts n pack ≡ take (512 * n) pack
unfolding parts part
parts-take zero pack = refl
parts-take (suc n) pack =
    let more : 512 * suc n ≡ 512 * n + 512 = omega arith in
    rw (parts-take n pack, more) (sym (take-add (512 * n) 512 pack))

pub pack_is_its_parts : (pack : List ℕ) → is_pack pack ≡ true → parts (block_count pack) pack ≡ pack
pack_is_its_parts pack h = rw (parts-take (block_count pack) pack, whole_blocks pack h) (take-length pack)

parts_same : (n : ℕ) (pack other : List ℕ) → ((place : ℕ) → place < n → part place pack ≡ part place other) → parts n pack ≡ parts n other
unfolding parts
parts_same zero pack other same = refl
parts_same (suc n) pack other same = rw (parts_same n pack other (λ place h. same place (omega (arith, h))), same n (omega arith))

found_is : (place : ℕ) (pack : List ℕ) → answer_of place pack ≡ Ok tt → found place pack ≡ part place pack
found_is place pack e = search rules

same_pack : (pack other : List ℕ) → length pack ≡ length other → is_pack pack ≡ is_pack other
unfolding is_pack
same_pack pack other e = search rules

pub same_parts : (pack other : List ℕ) → is_pack pack ≡ true → length pack ≡ length other
    → ((place : ℕ) → place < block_count pack → found place pack ≡ found place other) → pack ≡ other
same_parts pack other h e same =
    let h' : is_pack other ≡ true = sym (same_pack pack other e) ∙ h in
    let n : block_count pack ≡ block_count other = rw e in
    let each : (place : ℕ) → place < block_count pack → part place pack ≡ part place other =
    λ place b. sym (found_is place pack (in_range place pack h b)) ∙ same place b ∙ found_is place other (in_range place other h' (rw n at b)) in
    sym (pack_is_its_parts pack h) ∙ parts_same (block_count pack) pack other each
    ∙ ap (λ (k : ℕ). parts k other) n ∙ pack_is_its_parts other h'

pub places_apart : (p q i j : ℕ) → i < 512 → j < 512 → 512 * p + i ≡ 512 * q + j → (p ≡ q) × (i ≡ j)
places_apart p q i j hi hj e = search rules

-- ---- finding in the pack with another block in a place

same_answer : (place : ℕ) (pack other : List ℕ) → length pack ≡ length other → answer_of place pack ≡ answer_of place other
unfolding tests is_pack
same_answer place pack other e = search rules

if_done : (number : ℕ) (a b : List ℕ) → (number ≡ 0 → a ≡ b) → left_by number a [] ≡ left_by number b []
if_done number a b same = search rules

pub found_length : (place : ℕ) (pack : List ℕ) → answer_of place pack ≡ Ok tt → length (found place pack) ≡ 512
found_length place pack e = rw e (part_length place pack (found_within place pack e))

module _ (place : ℕ) (block pack : List ℕ) (done : answer_of place pack ≡ Ok tt) (long : length block ≡ 512) where
  room : 512 * place + 512 ≤ length pack
  room = found_within place pack done

  same_length : length (with_part place block pack) ≡ length pack
  same_length = with_length place block pack room long

  pub written_answer : (other : ℕ) → answer_of other (with_part place block pack) ≡ answer_of other pack
  written_answer other = same_answer other (with_part place block pack) pack same_length

  pub written_found : found place (with_part place block pack) ≡ block
  written_found = rw (written_answer place, done) (part_with place block pack room long)

  pub others_found : (other : ℕ) → (other ≡ place → ⊥) → found other (with_part place block pack) ≡ found other pack
  others_found other apart =
      rw (written_answer other)
      (if_done (number_of (answer_of other pack)) (part other (with_part place block pack)) (part other pack)
      (λ e. part_with_other place block pack room long other apart (found_within other pack (none_refused other pack e))))
