-- What a cipher of 512 bytes makes of the blocks of a run: blocks again, and what was deciphered is given back.
-- Assumes nothing.
use Prim.Native.Nat.{ℕ, zero, suc, ◌+◌, ◌-◌, ◌*◌, ◌/◌, ◌%◌, ◌^◌, ◌≤◌, ◌<◌}
use mathlib.Core.Path.{◌≡◌, ap, ◌∙◌}
use mathlib.Core.List.{List, [], ◌∷◌, ◌++◌}
use native.Mathlib.Omega.{arith}
use lib.ListN.{length, get_or, take, drop, take-append-drop}
use lib.Seq.{length-take-le}
use Rattle.strings.specs.Bytes.{Bytes, OfLength, number}
use Rattle.strings.specs.Inner.{padded}
use Rattle.strings.specs.Call.{left_by}
use Rattle.strings.specs.Cipher.{TweakableCipher, Scheme}
use Rattle.strings.proofs.Bytes.{below_take, below_drop}
use Rattle.layout.specs.Layout.{tweak, used}
use Rattle.layout.specs.Finding.{block_count, part}
use Rattle.layout.proofs.Check.{tweak_of_length, used_bytes, used_below}
use Rattle.layout.proofs.Parts.{part_length}
use Rattle.pack.specs.Sealing.{seal}
use Rattle.pack.specs.Opening.{deciphered_block}
use Rattle.pack.specs.Inner.{CipherAt}
use Rattle.pack.proofs.OneBlock.{seal_of_length, given_back}
use Rattle.runs.specs.Run.{blockwise}
use Rattle.runs.specs.Opening.{deciphered_run, used_lengths}
use Rattle.runs.specs.Inner.{walked}
use Rattle.runs.proofs.Blocks.{length-blockwise, walked_front, walked_rest, part-blockwise, get_or-blockwise, blockwise_same, blockwise_self}

pub part_of_length : (i : ℕ) (run : List ℕ) → Bytes run → 512 * i + 512 ≤ length run → OfLength 512 (part i run)
unfolding part
part_of_length i run b h = (part_length i run h, below_take 512 (drop (512 * i) run) (below_drop (512 * i) run b))

-- What is left by a number has the length of both.
pub left-length : (number k : ℕ) (work lent : List ℕ) → length work ≡ k → length lent ≡ k → length (left_by number work lent) ≡ k
left-length zero k work lent h l = h
left-length (suc n) k work lent h l = l

-- u of a block, as the code reads it: two bytes.
pub used-at : (i : ℕ) (run : List ℕ) {B : List ℕ} → Bytes run → 512 * i + 512 ≤ length run → B ≡ part i run
    → (number (padded 2 (drop 508 B)) % 2 ^ 64 ≡ used (part i run)) × (number (padded 2 (drop 508 B)) % 2 ^ 64 < 65536)
used-at i run {B} b h e =
    let size = part_of_length i run b h in
    let read : number (padded 2 (drop 508 B)) % 2 ^ 64 ≡ used (part i run) = rw e (used_bytes (part i run) size) in
    (read, rw read (used_below (part i run) size))

module _ (S : Scheme) (key : List ℕ) (cipher : TweakableCipher 16 512 (S.encipher key) (S.decipher key)) (pack first : ℕ) where
  pub at : (place : ℕ) → CipherAt S key pack place
  at place = cipher (tweak pack place) (tweak_of_length pack place)

  module _ (run : List ℕ) (b : Bytes run) (i : ℕ) (h : 512 * i + 512 ≤ length run) where
    pub enciphered-length : length (S.encipher key (tweak pack (first + i)) (part i run)) ≡ 512
    enciphered-length = ((at (first + i)).keeps (part i run) (part_of_length i run b h)).0

    pub deciphered_of_length : OfLength 512 (deciphered_block S key pack (first + i) (part i run))
    unfolding deciphered_block
    deciphered_of_length = (at (first + i)).inverse_keeps (part i run) (part_of_length i run b h)

    pub sealed_length : (u : ℕ) → u ≤ 496 → length (seal S key (take u (part i run)) pack (first + i)) ≡ 512
    sealed_length u l =
        let p = part_of_length i run b h in
        (seal_of_length S key pack (first + i) (at (first + i)) (take u (part i run)) (below_take u (part i run) p.1)
        (rw (length-take-le u (part i run) (omega (arith, p.0, l))) l)).0

  -- The run that opening leaves, and the list.
  module _ (run : List ℕ) (b : Bytes run) where
    block_sized : (j : ℕ) → j < block_count run → length (deciphered_block S key pack (first + j) (part j run)) ≡ 512
    block_sized j l = (deciphered_of_length run b j (omega (arith, l))).0

    pub deciphered-part : (i : ℕ) → i < block_count run → part i (deciphered_run S key pack first run) ≡ deciphered_block S key pack (first + i) (part i run)
    unfolding deciphered_run
    deciphered-part = part-blockwise (λ i C. deciphered_block S key pack (first + i) C) run (block_count run) block_sized

    pub deciphered-length : length (deciphered_run S key pack first run) ≡ 512 * block_count run
    unfolding deciphered_run
    deciphered-length = length-blockwise 512 (λ i C. deciphered_block S key pack (first + i) C) run (block_count run) block_sized

    pub used-part : (i : ℕ) → i < block_count run → get_or (used_lengths S key pack first run) i 0 ≡ used (deciphered_block S key pack (first + i) (part i run))
    unfolding used_lengths
    used-part = get_or-blockwise (λ i C. used (deciphered_block S key pack (first + i) C)) run (block_count run)

    -- The list as it is read from what was opened.
    pub lengths_read : blockwise (λ i B. used B ∷ []) (block_count run) (deciphered_run S key pack first run) ≡ used_lengths S key pack first run
    unfolding used_lengths
    lengths_read =
        blockwise_same (λ i B. used B ∷ []) (λ i C. used (deciphered_block S key pack (first + i) C) ∷ []) (block_count run) (deciphered_run S key pack first run) run
        (λ i h. ap (λ (B : List ℕ). used B ∷ []) (deciphered-part i h))

  -- The first i blocks deciphered and enciphered again.
  pub all_given_back : (i : ℕ) (run : List ℕ) → Bytes run → 512 * i ≤ length run
      → let opened = blockwise (λ j C. deciphered_block S key pack (first + j) C) i run in
      blockwise (λ j B. S.encipher key (tweak pack (first + j)) B) i opened ≡ take (512 * i) run
  all_given_back i run b h =
      let open-one : ℕ → List ℕ → List ℕ = λ j C. deciphered_block S key pack (first + j) C in
      let opened = blockwise open-one i run in
      let room : (j : ℕ) → j < i → 512 * j + 512 ≤ length run = λ j l. omega (arith, h, l) in
      let each : (j : ℕ) → j < i → part j opened ≡ open-one j (part j run) = part-blockwise open-one run i (λ k m. (deciphered_of_length run b k (room k m)).0) in
      blockwise_same (λ j B. S.encipher key (tweak pack (first + j)) B) (λ j B. B) i opened run
      (λ j l. ap (λ (B : List ℕ). S.encipher key (tweak pack (first + j)) B) (each j l)
      ∙ given_back S key pack (first + j) (at (first + j)) (part j run) (part_of_length j run b (room j l)))
      ∙ blockwise_self i run

  -- The first i blocks, lent by themselves where they are deciphered, and the whole when they come back enciphered.
  pub closed_again : (i : ℕ) (run : List ℕ) → Bytes run → 512 * i ≤ length run → {R t : List ℕ} {k : ℕ} → k ≡ 512 * i
      → R ≡ walked (λ j C. deciphered_block S key pack (first + j) C) run i
      → t ≡ blockwise (λ j B. S.encipher key (tweak pack (first + j)) B) (block_count (take (k - 0) R)) (take (k - 0) R) → t ++ drop (k - 0) R ≡ run
  closed_again i run b h {R} {t} {k} e here made =
      let f : ℕ → List ℕ → List ℕ = λ j C. deciphered_block S key pack (first + j) C in
      let sized : (j : ℕ) → j < i → length (f j (part j run)) ≡ 512 = λ j l. (deciphered_of_length run b j (omega (arith, h, l))).0 in
      let whole : k - 0 ≡ 512 * i = omega (arith, e) in
      let front : take (k - 0) R ≡ blockwise f i run = rw (whole, here) (walked_front f run i sized) in
      let rest : drop (k - 0) R ≡ drop (512 * i) run = rw (whole, here) (walked_rest f run i sized) in
      let n : length (blockwise f i run) / 512 ≡ i = omega (arith, length-blockwise 512 f run i sized) in
      rw (made, front, n, rest, all_given_back i run b h) (take-append-drop (512 * i) run)
