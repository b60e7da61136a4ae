-- What is made of a key stands for AES under it: a zero behind its words is what reading past their end gives.
-- Assumes nothing.
use Rattle.std.proofs.Common.{◌≡◌, ℕ, zero, suc, ◌+◌, ◌-◌, ◌*◌, ◌≤◌, true, eqb, List, [], ◌∷◌, ◌++◌, length, get_or, replicate, refl, ap, ⊎_elim, arith, eqb-true}
use Rattle.strings.specs.Bytes.{number, bytes}
use Rattle.strings.proofs.Refusals.{either}
use Rattle.primitives.specs.Aes.{is_key, NkOf, Nr, key_expansion, byte_of, state, round_key, cipher, inv_cipher, encipher, decipher, aes}
use Rattle.primitives.specs.Expanded.{expanded_key, rounds_done, under}

-- Both lengths are within 4 to 8 words, for which the expansion is proved.
pub words_of_key : (key : List ℕ) → is_key key ≡ true → (4 ≤ NkOf key) × (NkOf key ≤ 8)
unfolding is_key
words_of_key key k =
    ⊎_elim (λ (e : eqb (length key) 16 ≡ true). rw (eqb-true (length key) 16 e) (omega arith, omega arith))
    (λ (e : eqb (length key) 32 ≡ true). rw (eqb-true (length key) 32 e) (omega arith, omega arith))
    (either (eqb (length key) 16) (eqb (length key) 32) k)

zeros_read : (w : List ℕ) (k i : ℕ) → get_or (w ++ replicate k 0) i 0 ≡ get_or w i 0
zeros_read [] zero i = refl
zeros_read [] (suc k) zero = refl
zeros_read [] (suc k) (suc i) = zeros_read [] k i
zeros_read (a ∷ w) k zero = refl
zeros_read (a ∷ w) k (suc i) = zeros_read w k i

round_keys : (w : List ℕ) (k : ℕ) → round_key (w ++ replicate k 0) ≡ round_key w
unfolding round_key
round_keys w k = λ i n. state (λ r c. byte_of (zeros_read w k (4 * n + c) i) r)

module _ (Nr : ℕ) (w : List ℕ) (k : ℕ) where
  enciphers : encipher Nr (w ++ replicate k 0) ≡ encipher Nr w
  unfolding encipher
  enciphers = ap {B = ℕ → ℕ} (λ (keys : ℕ → List ℕ) (b : ℕ). number (cipher keys Nr (bytes 16 b))) (round_keys w k)

  deciphers : decipher Nr (w ++ replicate k 0) ≡ decipher Nr w
  unfolding decipher
  deciphers = ap {B = ℕ → ℕ} (λ (keys : ℕ → List ℕ) (b : ℕ). number (inv_cipher keys Nr (bytes 16 b))) (round_keys w k)

pub expanded_aes : (key : List ℕ) → is_key key ≡ true → under (expanded_key key) ≡ aes key
unfolding aes
expanded_aes key k =
    let nk = words_of_key key k in
    let rounds : rounds_done (Nr (NkOf key)) ≡ Nr (NkOf key) = omega arith in
    let w = key_expansion (NkOf key) key in
    let behind = 4 * (Nr 8 - Nr (NkOf key)) in
    rw (k, rounds) (λ i. record { E = enciphers (Nr (NkOf key)) w behind i; D = deciphers (Nr (NkOf key)) w behind i })
