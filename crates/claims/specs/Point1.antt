-- Point 1 of 02, "Blocks in the order of their places", sentence by sentence. proofs/Point1.antt has one value of the record.
use Rattle.std.specs.Prelude.{ℕ, ◌+◌, ◌*◌, ◌≤◌, ◌<◌, ◌≡◌, true, List, [], ◌++◌, length, take, drop, replicate}
use Rattle.std.specs.Borrow.{Bor}
use Rattle.strings.specs.Bytes.{Bytes}
use Rattle.strings.specs.Call.{number_of}
use Rattle.layout.specs.Finding.{parts, with_part, answer_of, found, address, BeginsAt, Holds, SameOutside, Written}
use Rattle.hch.specs.Hch.{hch}
use Rattle.pack.specs.Sealing.{seal}
use Rattle.pack.specs.Opening.{opens_to}
use Rattle.claims.specs.Demand1.{IsKey}

-- The number of a find, 0 where the block is found.
abbrev pub of_finding : (place : ℕ) (pack : List ℕ) → ℕ
of_finding place pack = number_of (answer_of place pack)

-- A pack of n blocks.
abbrev pub IsPack : (n : ℕ) (pack : List ℕ) → Type 0
IsPack n pack = (1 ≤ n) × (n ≤ 128) × (length pack ≡ 512 * n)

pub record Point1 : Type 0 where
  -- ---- What a find gives.
  -- "a pack of n blocks holds the places 0 to n - 1, and the block of place p begins at byte 512 times p": that part of the lent pack, 512 bytes of it.
  pub find_done : (n place : ℕ) (pack : List ℕ) → IsPack n pack → place < n → of_finding place pack ≡ 0
  pub find_part : (n place : ℕ) (pack : List ℕ) → IsPack n pack → place < n → found place pack ≡ take 512 (drop (512 * place) pack)
  pub find_length : (n place : ℕ) (pack : List ℕ) → IsPack n pack → place < n → length (found place pack) ≡ 512
  -- "10, the lent pack is not 1 to 128 whole blocks, looked at first".
  pub find_10 : (place : ℕ) (pack : List ℕ) → ((n : ℕ) → IsPack n pack → ⊥) → of_finding place pack ≡ 10
  -- "a place at or past n is number 6, looked at next".
  pub find_6 : (n place : ℕ) (pack : List ℕ) → IsPack n pack → n ≤ place → of_finding place pack ≡ 6
  -- "A refused find gives the empty part".
  pub find_nothing : (place : ℕ) (pack : List ℕ) → 0 < of_finding place pack → found place pack ≡ []
  -- "copies nothing: the caller gets that part of the lent pack". By `BeginsAt`, which the contracts promise of the part r, its bytes are bytes of the pack.
  pub find_in_pack : (n place : ℕ) (pack r : Bor (List ℕ)) → IsPack n pack.now → place < n → BeginsAt place pack r
      → (i : ℕ) → address r i ≡ address pack (512 * place + i)
  -- By `Written`, once r holds a block and the pack's other bytes are what they were, the pack is the lent one with that block in its place.
  pub find_written : (n place : ℕ) (pack r : Bor (List ℕ)) → IsPack n pack.now → place < n → Written place pack r
      → (memory : ℕ × ℕ → ℕ) (block : List ℕ) → Holds memory r block → SameOutside memory pack r → Holds memory pack (with_part place block pack.now)
  -- ---- A pack is its parts, one after the other.
  pub pack_is_its_parts : (n : ℕ) (pack : List ℕ) → IsPack n pack → parts n pack ≡ pack
  -- So two packs of the same length with the same parts are the same bytes.
  pub same_parts : (n : ℕ) (pack other : List ℕ) → IsPack n pack → IsPack n other → ((place : ℕ) → place < n → found place pack ≡ found place other)
      → pack ≡ other
  -- ---- Parts have no byte in common: where byte i of the part of p and byte j of that of q stand at one address, it is one place, and one byte of it.
  pub parts_apart : (n p q : ℕ) (pack r s : Bor (List ℕ)) → IsPack n pack.now → p < n → q < n → BeginsAt p pack r → BeginsAt q pack s
      → (i j : ℕ) → i < 512 → j < 512 → address r i ≡ address s j → (p ≡ q) × (i ≡ j)
  -- ---- A block that was written to a part is found there, and every other part is what it was.
  pub written_found : (n place : ℕ) (block pack : List ℕ) → IsPack n pack → place < n → length block ≡ 512 → found place (with_part place block pack) ≡ block
  pub others_found : (n place other : ℕ) (block pack : List ℕ) → IsPack n pack → place < n → length block ≡ 512 → (other ≡ place → ⊥)
      → found other (with_part place block pack) ≡ found other pack
  -- So what is sealed into the part of a place is opened there, and every other part opens, under every key, number and place, to what it opened to before.
  pub opened_in_place : (n : ℕ) (key payload : List ℕ) (number place : ℕ) (pack : List ℕ) → IsKey key → Bytes payload → length payload ≤ 496
      → IsPack n pack → place < n → opens_to hch key payload number place (found place (with_part place (seal hch key payload number place) pack)) ≡ true
  pub others_in_place : (n : ℕ) (key payload : List ℕ) (number place : ℕ) (pack : List ℕ) → IsKey key → Bytes payload → length payload ≤ 496
      → IsPack n pack → place < n → (other : ℕ) → (other ≡ place → ⊥) → (key' payload' : List ℕ) (number' place' : ℕ)
      → opens_to hch key' payload' number' place' (found other (with_part place (seal hch key payload number place) pack))
      ≡ opens_to hch key' payload' number' place' (found other pack)
  -- ---- An example. Of a block of ones and a block of twos, place 0 has the ones, place 1 the twos, and there is no place 2. Nothing at all is no pack.
  pub two_blocks : let pack : List ℕ = replicate 512 1 ++ replicate 512 2 in
      (found 0 pack ≡ replicate 512 1) × (found 1 pack ≡ replicate 512 2) × (of_finding 2 pack ≡ 6) × (of_finding 0 [] ≡ 10)
