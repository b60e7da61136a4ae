-- A state by its columns, each a word: its bytes, round keys added to it, and columns mixed by a table.
-- Assumes nothing.
use Rattle.std.proofs.Common.{◌≡◌, ℕ, ◌+◌, ◌*◌, List, [], ◌∷◌, get_or, sym, refl, ap, ◌∙◌}
use Rattle.strings.specs.Xor.{◌⊕◌, xor_bytes}
use Rattle.strings.specs.Bytes.{number, bytes}
use Rattle.primitives.specs.Aes.{at, state, ◌•◌, s_box, sub_bytes, shift_rows, mixed, mix_columns, inv_mixed, inv_mix_columns, byte_of, rot_word, add_round_key, round_key}
use Rattle.blocks.specs.Inner.{of_words}
use Rattle.primitives.specs.Inner.{of_columns, mixing, MixingTable, CipherTable, column_by}
use Rattle.strings.proofs.Xor.{xor_laws}
use Rattle.strings.proofs.Bytes.{bytes_xor}
use Rattle.strings.proofs.Table.{table}
use Rattle.primitives.proofs.Words.{byte_of_below, byte_of_xor, rot_bytes}
use Rattle.primitives.proofs.Rounds.{state_is, each, at_below}

-- Four columns are their bytes one after the other.
pub columns_words : (w : List ℕ) → of_columns w ≡ of_words w
unfolding of_columns of_words state byte_of bytes
columns_words w = refl

-- What is done to the columns of a block is done to its bytes.
pub through_columns : (f : List ℕ → List ℕ) (b r : ℕ) (w x : List ℕ) → of_words w ≡ bytes 16 b → of_columns x ≡ f (of_columns w) → r ≡ number (of_words x)
    → r ≡ number (f (bytes 16 b))
through_columns f b r w x ew ex er = er ∙ ap number (sym (columns_words x) ∙ ex ∙ ap f (columns_words w ∙ ew))

pub key_added : (w words : List ℕ) (n : ℕ)
    → of_columns (table (λ c. get_or w c 0 ⊕ get_or words (4 * n + c) 0) 4 0) ≡ add_round_key (round_key words n) (of_columns w)
unfolding of_columns add_round_key round_key state at
key_added w words n = simp byte_of_xor

-- ---- mixing by a table

-- A word turned by one byte.
rotated : (w : ℕ) {a b c d : ℕ} → bytes 4 w ≡ a ∷ b ∷ c ∷ d ∷ [] → bytes 4 (rot_word w) ≡ b ∷ c ∷ d ∷ a ∷ []
unfolding byte_of
rotated w e = rot_bytes w ∙ rw e

module _ {own next second third : ℕ → ℕ} {t : List ℕ} (T : MixingTable own next second third t) where
  column_bytes : (w : ℕ) → bytes 4 (column_by t w)
      ≡ (own (byte_of w 0) ⊕ next (byte_of w 1) ⊕ second (byte_of w 2) ⊕ third (byte_of w 3)) ∷ (own (byte_of w 1) ⊕ next (byte_of w 2) ⊕ second (byte_of w 3) ⊕ third (byte_of w 0)) ∷ (own (byte_of w 2) ⊕ next (byte_of w 3) ⊕ second (byte_of w 0) ⊕ third (byte_of w 1)) ∷ (own (byte_of w 3) ⊕ next (byte_of w 0) ⊕ second (byte_of w 1) ⊕ third (byte_of w 2)) ∷ []
  unfolding column_by xor_bytes
  column_bytes w =
      let A : ℕ = get_or t (byte_of w 0) 0 in
      let B : ℕ = get_or t (byte_of w 1) 0 in
      let C : ℕ = get_or t (byte_of w 2) 0 in
      let D : ℕ = get_or t (byte_of w 3) 0 in
      rw (
        bytes_xor 4 (A ⊕ rot_word (rot_word (rot_word B)) ⊕ rot_word (rot_word C)) (rot_word D),
        bytes_xor 4 (A ⊕ rot_word (rot_word (rot_word B))) (rot_word (rot_word C)),
        bytes_xor 4 A (rot_word (rot_word (rot_word B))),
        T.entry (byte_of w 0) (byte_of_below w 0),
        rotated (rot_word (rot_word B)) (rotated (rot_word B) (rotated B (T.entry (byte_of w 1) (byte_of_below w 1)))),
        rotated (rot_word C) (rotated C (T.entry (byte_of w 2) (byte_of_below w 2))),
        rotated D (T.entry (byte_of w 3) (byte_of_below w 3)),
      )
      (simp xor_laws)

  pub mixed_by : (w : List ℕ) → of_columns (table (λ c. column_by t (get_or w c 0)) 4 0) ≡ mixing own next second third (of_columns w)
  unfolding of_columns of_words mixing state at
  mixed_by w =
      columns_words (table (λ c. column_by t (get_or w c 0)) 4 0)
      ∙ rw (column_bytes (get_or w 0 0), column_bytes (get_or w 1 0), column_bytes (get_or w 2 0), column_bytes (get_or w 3 0))

-- In the table of Cipher the S-box's byte stands in row 1.
pub sub_by_table : {t : List ℕ} → CipherTable t → (w : List ℕ) → state (λ r c. byte_of (get_or t (at (of_columns w) r c) 0) 1) ≡ sub_bytes (of_columns w)
unfolding of_columns sub_bytes byte_of
sub_by_table {t} T w =
    let s = state (λ r c. byte_of (get_or w c 0) r) in
    let bytes-there = at_below s (state_is (λ r c. byte_of (get_or w c 0) r) (λ r c. byte_of_below (get_or w c 0) r)) in
    each (λ r c. ap (λ (l : List ℕ). get_or l 1 0) (T.entry (at s r c) (bytes-there r c)))

-- The two mixings of AES; rows are shifted before SubBytes as well as after it, since that takes each byte by itself.
pub sub_mixed : (s : List ℕ) → mixing (λ b. 0x02 • s_box b) (λ b. 0x03 • s_box b) s_box s_box (shift_rows s) ≡ mix_columns (shift_rows (sub_bytes s))
unfolding mixing mix_columns mixed shift_rows sub_bytes state at
sub_mixed s = refl

pub inv_mixed_lem : (s : List ℕ) → mixing (λ b. 0x0e • b) (λ b. 0x0b • b) (λ b. 0x0d • b) (λ b. 0x09 • b) s ≡ inv_mix_columns s
unfolding mixing inv_mix_columns inv_mixed
inv_mixed_lem s = refl
