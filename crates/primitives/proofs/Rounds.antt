-- The steps of AES, its ciphers and AES under each key are permutations, given that the S-box is one.
-- Assumes nothing.
use Rattle.std.proofs.Common.{◌≡◌, ℕ, zero, suc, ◌+◌, ◌-◌, ◌*◌, ◌/◌, ◌%◌, List, get_or, sym, refl, ◌∙◌}
use Rattle.strings.specs.Xor.{◌⊕◌}
use Rattle.strings.specs.Cipher.{Permutation}
use Rattle.blocks.specs.Blocks.{IsBlock}
use Rattle.blocks.specs.BlockCipher.{BlockPermutation}
use Rattle.primitives.specs.Aes.{Byte, State, at, state, s_box, inv_s_box, sub_bytes, inv_sub_bytes, shift_rows, inv_shift_rows, mixed, inv_mixed, mix_columns, inv_mix_columns, add_round_key, rounds, inv_rounds, cipher, inv_cipher, byte_of, round_key, encipher, decipher, Nr, key_expansion, NkOf, aes}
use Rattle.strings.proofs.Xor.{xor_below, xor_cancel_right}
use Rattle.strings.proofs.Bytes.{bytes_below}
use Rattle.strings.proofs.Table.{table_below, is_table}
use Rattle.strings.proofs.Permutations.{then, backwards}
use Rattle.primitives.proofs.OnBlocks.{on_blocks}
use Rattle.primitives.proofs.Columns.{mixed_below, inv_mixed_below, mixed_undone, inv_mixed_undone}

-- ---- states by their entries

-- A state is a table of 16 entries, of which entry i stands in row i % 4, column i / 4.
pub state_is : (f : ℕ → ℕ → ℕ) → ((r c : ℕ) → Byte (f r c)) → State (state f)
unfolding state
state_is f h = (refl, table_below (λ i. f (i % 4) (i / 4)) 16 0 (λ i. h (i % 4) (i / 4)))

pub state-at : {s : List ℕ} → State s → state (at s) ≡ s
unfolding state at
state-at {s} h = sym (is_table (λ i. get_or s i 0) 16 s h.0 (λ j l. refl))

pub each : {f g : ℕ → ℕ → ℕ} → ((r c : ℕ) → f r c ≡ g r c) → state f ≡ state g
each e = λ i. state (λ r c. e r c i)

abbrev Entries : List ℕ → Type 0
Entries s = (r c : ℕ) → Byte (at s r c)

pub at_below : (s : List ℕ) → State s → Entries s
unfolding at
at_below s h r c = h.1 (r + 4 * c)

-- ---- the steps: F computes each entry, as a byte, and G from those what was there

abbrev Undone : (F G : List ℕ → ℕ → ℕ → ℕ) → Type 0
Undone F G = (s : List ℕ) → Entries s → ((r c : ℕ) → Byte (F s r c)) × (state (G (state (F s))) ≡ state (at s))

step : {F G : List ℕ → ℕ → ℕ → ℕ} → Undone F G → Undone G F → Permutation State (λ s. state (F s)) (λ s. state (G s))
step {F} {G} u v = record {
  keeps = λ s h. state_is (F s) (u s (at_below s h)).0;
  inverse_keeps = λ s h. state_is (G s) (v s (at_below s h)).0;
  undone = λ s h. (u s (at_below s h)).1 ∙ state-at h;
  undoes = λ s h. (v s (at_below s h)).1 ∙ state-at h;
}

pub shift_rows_lem : Permutation State shift_rows inv_shift_rows
unfolding shift_rows inv_shift_rows state at
shift_rows_lem = step (λ s h. (λ r c. h r ((c + r) % 4), refl)) (λ s h. (λ r c. h r ((c + (4 - r)) % 4), refl))

-- by columns: a byte from the four from its row on
columns : (F G : ℕ → ℕ → ℕ → ℕ → ℕ) → ((a b c d : ℕ) → Byte c → Byte d → Byte (F a b c d))
    → ((a b c d : ℕ) → Byte a → Byte b → Byte c → Byte d → G (F a b c d) (F b c d a) (F c d a b) (F d a b c) ≡ a)
    → Undone (λ s r c. F (at s r c) (at s ((r + 1) % 4) c) (at s ((r + 2) % 4) c) (at s ((r + 3) % 4) c))
    (λ s r c. G (at s r c) (at s ((r + 1) % 4) c) (at s ((r + 2) % 4) c) (at s ((r + 3) % 4) c))
unfolding state at
columns F G k e s h = (
  λ r c. k _ _ _ _ (h ((r + 2) % 4) c) (h ((r + 3) % 4) c),
  each (λ r c. e _ _ _ _ (h r c) (h ((r + 1) % 4) c) (h ((r + 2) % 4) c) (h ((r + 3) % 4) c)),
)

pub mix_columns_lem : Permutation State mix_columns inv_mix_columns
unfolding mix_columns inv_mix_columns
mix_columns_lem =
    step (columns mixed inv_mixed mixed_below mixed_undone)
    (columns inv_mixed mixed (λ a b c d _ _. inv_mixed_below a b c d) inv_mixed_undone)

-- by bytes
by_bytes : {f g : ℕ → ℕ} → Permutation Byte f g → Undone (λ s r c. f (at s r c)) (λ s r c. g (at s r c))
unfolding state at
by_bytes p s h = (λ r c. p.keeps (at s r c) (h r c), each (λ r c. p.undone (at s r c) (h r c)))

added : (k : List ℕ) → State k → Undone (λ s r c. at s r c ⊕ at k r c) (λ s r c. at s r c ⊕ at k r c)
unfolding state at
added k hk s h = (λ r c. xor_below 8 (h r c) (at_below k hk r c), each (λ r c. xor_cancel_right (at s r c) (at k r c)))

pub add_round_key_lem : (k : List ℕ) → State k → Permutation State (add_round_key k) (add_round_key k)
unfolding add_round_key
add_round_key_lem k h = step (added k h) (added k h)

-- ---- the cipher

pub round_key_is : (w : List ℕ) (i : ℕ) → State (round_key w i)
unfolding round_key byte_of
round_key_is w i = state_is (λ r c. byte_of (get_or w (4 * i + c) 0) r) (λ r c. bytes_below 4 (get_or w (4 * i + c) 0) r)

module _ (boxes : Permutation Byte s_box inv_s_box) where
  pub sub_bytes_lem : Permutation State sub_bytes inv_sub_bytes
  unfolding sub_bytes inv_sub_bytes
  sub_bytes_lem = step (by_bytes boxes) (by_bytes (backwards boxes))

  module _ (round_keys : ℕ → List ℕ) (states : (i : ℕ) → State (round_keys i)) where
    -- n rounds, and the next one up to its mixing
    rounds_permutation : (n : ℕ) → Permutation State (λ s. shift_rows (sub_bytes (rounds round_keys n s))) (inv_rounds round_keys n)
    unfolding rounds inv_rounds
    rounds_permutation zero = then (add_round_key_lem (round_keys 0) (states 0)) (then sub_bytes_lem shift_rows_lem)
    rounds_permutation (suc n) =
        then (rounds_permutation n) (then mix_columns_lem (then (add_round_key_lem (round_keys (suc n)) (states (suc n))) (then sub_bytes_lem shift_rows_lem)))

    pub cipher_permutation : (Nr : ℕ) → Permutation State (cipher round_keys Nr) (inv_cipher round_keys Nr)
    unfolding cipher inv_cipher
    cipher_permutation Nr = then (rounds_permutation (Nr - 1)) (add_round_key_lem (round_keys Nr) (states Nr))

  pub block_permutation : (Nr : ℕ) (w : List ℕ) → Permutation IsBlock (encipher Nr w) (decipher Nr w)
  unfolding encipher decipher
  block_permutation Nr w = on_blocks (cipher_permutation (round_key w) (round_key_is w) Nr)

  pub aes_permutation : (key : List ℕ) → BlockPermutation (aes key)
  unfolding aes
  aes_permutation key = block_permutation (Nr (NkOf key)) (key_expansion (NkOf key) key)
