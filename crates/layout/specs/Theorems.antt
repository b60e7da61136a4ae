-- The theorems of this crate, each by name. One value of this record, proofs/Theorems.antt, proves them all.
use Rattle.std.specs.Prelude.{ℕ, ◌<◌, ◌≡◌, true, List, length}
use Rattle.std.specs.Borrow.{Bor}
use Rattle.strings.specs.Call.{number_of}
use Rattle.layout.specs.Finding.{block_count, is_pack, parts, with_part, answer_of, found, address, BeginsAt}

pub record Theorems : Type 0 where
  -- A pack of n blocks is its n parts, one after the other.
  pub pack_is_its_parts : (pack : List ℕ) → is_pack pack ≡ true → parts (block_count pack) pack ≡ pack
  -- So two packs of the same length with the same parts are the same bytes.
  pub same_parts : (pack other : List ℕ) → is_pack pack ≡ true → length pack ≡ length other
      → ((place : ℕ) → place < block_count pack → found place pack ≡ found place other) → pack ≡ other
  -- A part that is found is a block.
  pub found_length : (place : ℕ) (pack : List ℕ) → number_of (answer_of place pack) ≡ 0 → length (found place pack) ≡ 512
  -- Parts of different places have no byte in common: if byte i of the one and byte j of the other stand at one address, it is one place, and one byte of it.
  pub parts_apart : (p q : ℕ) (pack r s : Bor (List ℕ)) → number_of (answer_of p pack.now) ≡ 0 → number_of (answer_of q pack.now) ≡ 0
      → BeginsAt p pack r → BeginsAt q pack s → (i j : ℕ) → i < 512 → j < 512 → address r i ≡ address s j → (p ≡ q) × (i ≡ j)
  -- In a pack to which a block was written, what can be found is what it was, the block is found in its place, and the other parts are what they were.
  pub written_answer : (place other : ℕ) (block pack : List ℕ) → number_of (answer_of place pack) ≡ 0 → length block ≡ 512
      → answer_of other (with_part place block pack) ≡ answer_of other pack
  pub written_found : (place : ℕ) (block pack : List ℕ) → number_of (answer_of place pack) ≡ 0 → length block ≡ 512
      → found place (with_part place block pack) ≡ block
  pub others_found : (place other : ℕ) (block pack : List ℕ) → number_of (answer_of place pack) ≡ 0 → length block ≡ 512 → (other ≡ place → ⊥)
      → found other (with_part place block pack) ≡ found other pack
