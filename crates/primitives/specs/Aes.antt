-- AES of FIPS 197, by its names and in the order of its sections. A state is a list of 16 bytes; a word of the key is a number below 2 ^ 32
-- and a block one below 2 ^ 128, the first byte highest.
use Rattle.std.specs.Prelude.{ℕ, zero, suc, ◌+◌, ◌-◌, ◌*◌, ◌/◌, ◌%◌, ◌^◌, ◌<◌, Bool, true, false, ◌&&◌, ◌||◌, List, [], ◌∷◌, ◌++◌, length, ◌==◌, nat_lt, slice_index}
use Rattle.strings.specs.Xor.{◌⊕◌}
use Rattle.strings.specs.Bytes.{OfLength, number, bytes}
use Rattle.blocks.specs.Field.{product, power}
use Rattle.blocks.specs.BlockCipher.{BlockCipher}

infixl 70 ◌•◌
-- ---- 3.4: the state

abbrev pub State : List ℕ → Type 0
State = OfLength 16

-- The byte in row r, column c.
unfoldable pub at : List ℕ → ℕ → ℕ → ℕ
at s r c = slice_index s (r + 4 * c)

-- The state with f r c in row r, column c.
unfoldable pub state : (ℕ → ℕ → ℕ) → List ℕ
state f =
    f 0 0 ∷ f 1 0 ∷ f 2 0 ∷ f 3 0 ∷
    f 0 1 ∷ f 1 1 ∷ f 2 1 ∷ f 3 1 ∷
    f 0 2 ∷ f 1 2 ∷ f 2 2 ∷ f 3 2 ∷
    f 0 3 ∷ f 1 3 ∷ f 2 3 ∷ f 3 3 ∷ []

-- ---- 4: bytes are the elements of GF(2^8)

abbrev pub Byte : ℕ → Type 0
Byte b = b < 256

-- 4.2: the product of two bytes, where x ^ 8 = x ^ 4 + x ^ 3 + x + 1.
abbrev pub ◌•◌ : ℕ → ℕ → ℕ
◌•◌ = product 8 0x1b

-- The product of the first n of the squares a ^ 2, a ^ 4, a ^ 8, ..
unfoldable pub squares : ℕ → ℕ → ℕ
squares zero a = 1
squares (suc n) a = a • a • squares n (a • a)

-- The inverse of a byte is its power 254 = 2 + 4 + 8 + 16 + 32 + 64 + 128, and 0 goes to 0. That a • inverse a is 1 is a theorem.
unfoldable pub inverse : ℕ → ℕ
inverse a = squares 7 a

-- ---- 5.1: Cipher, over the round keys by their numbers and the number of rounds Nr

-- Digit i of a byte; the digits' numbers are taken modulo 8.
unfoldable pub bit : ℕ → ℕ → ℕ
bit b i = b / 2 ^ (i % 8) % 2

-- The number whose n digits are d 0, d 1, ..
unfoldable pub of_bits : ℕ → (ℕ → ℕ) → ℕ
of_bits zero d = 0
of_bits (suc n) d = d n * 2 ^ n + of_bits n d

-- 5.1.1: the affine map, the S-box, and SubBytes.
unfoldable pub affine : ℕ → ℕ
affine b = of_bits 8 (λ i. bit b i ⊕ bit b (i + 4) ⊕ bit b (i + 5) ⊕ bit b (i + 6) ⊕ bit b (i + 7) ⊕ bit 0x63 i)

unfoldable pub s_box : ℕ → ℕ
s_box b = affine (inverse b)

unfoldable pub sub_bytes : List ℕ → List ℕ
sub_bytes s = state (λ r c. s_box (at s r c))

-- 5.1.2
unfoldable pub shift_rows : List ℕ → List ℕ
shift_rows s = state (λ r c. at s r ((c + r) % 4))

-- 5.1.3: a byte of a mixed column, from the four bytes of the column from its own row on.
unfoldable pub mixed : ℕ → ℕ → ℕ → ℕ → ℕ
mixed a b c d = 0x02 • a ⊕ 0x03 • b ⊕ c ⊕ d

unfoldable pub mix_columns : List ℕ → List ℕ
mix_columns s = state (λ r c. mixed (at s r c) (at s ((r + 1) % 4) c) (at s ((r + 2) % 4) c) (at s ((r + 3) % 4) c))

-- 5.1.4
unfoldable pub add_round_key : List ℕ → List ℕ → List ℕ
add_round_key k s = state (λ r c. at s r c ⊕ at k r c)

module _ (round_keys : ℕ → List ℕ) where
  -- Round n, and the last one, which has no mixing.
  abbrev pub round : ℕ → List ℕ → List ℕ
  round n s = add_round_key (round_keys n) (mix_columns (shift_rows (sub_bytes s)))

  abbrev pub last_round : ℕ → List ℕ → List ℕ
  last_round n s = add_round_key (round_keys n) (shift_rows (sub_bytes s))

  -- The first round key is added, and n rounds follow.
  unfoldable pub rounds : ℕ → List ℕ → List ℕ
  rounds zero s = add_round_key (round_keys 0) s
  rounds (suc n) s = round (suc n) (rounds n s)

  -- Cipher with Nr rounds.
  unfoldable pub cipher : ℕ → List ℕ → List ℕ
  cipher Nr s = last_round Nr (rounds (Nr - 1) s)

-- ---- 5.2: KeyExpansion, over the number Nk of the key's words

-- A word of four bytes, and its byte i.
unfoldable pub word : ℕ → ℕ → ℕ → ℕ → ℕ
word a b c d = number (a ∷ b ∷ c ∷ d ∷ [])

unfoldable pub byte_of : ℕ → ℕ → ℕ
byte_of w i = slice_index (bytes 4 w) i

unfoldable pub rot_word : ℕ → ℕ
rot_word w = word (byte_of w 1) (byte_of w 2) (byte_of w 3) (byte_of w 0)

unfoldable pub sub_word : ℕ → ℕ
sub_word w = word (s_box (byte_of w 0)) (s_box (byte_of w 1)) (s_box (byte_of w 2)) (s_box (byte_of w 3))

-- The number of rounds: 10 for the 4 words of a 16-byte key, 14 for the 8 words of a 32-byte key.
abbrev pub Nr : ℕ → ℕ
Nr Nk = Nk + 6

-- Rcon[j], where the power j - 1 of x is the first byte.
unfoldable pub rcon : ℕ → ℕ
rcon j = word (power 1 ◌•◌ 0x02 (j - 1)) 0 0 0

abbrev pub choose : Bool → ℕ → ℕ → ℕ
choose true a b = a
choose false a b = b

-- What is added to the word Nk places back to give word i, from the word before it.
unfoldable pub temp : ℕ → ℕ → ℕ → ℕ
temp Nk i t =
    choose (i % Nk == 0) (sub_word (rot_word t) ⊕ rcon (i / Nk))
    (choose (nat_lt 6 Nk && i % Nk == 4) (sub_word t) t)

-- Word i of the key itself. (Past its end a key has zero bytes.)
unfoldable pub own_word : List ℕ → ℕ → ℕ
own_word key i = word (slice_index key (4 * i)) (slice_index key (4 * i + 1)) (slice_index key (4 * i + 2)) (slice_index key (4 * i + 3))

-- Word i of the expanded key, from the words before it: the first Nk are the key's own.
unfoldable pub key_word : ℕ → List ℕ → ℕ → List ℕ → ℕ
key_word Nk key i w = choose (nat_lt i Nk) (own_word key i) (slice_index w (i - Nk) ⊕ temp Nk i (slice_index w (i - 1)))

-- The first n words.
unfoldable pub key_words : ℕ → List ℕ → ℕ → List ℕ
key_words Nk key zero = []
key_words Nk key (suc n) = let w = key_words Nk key n in w ++ (key_word Nk key n w ∷ [])

unfoldable pub key_expansion : ℕ → List ℕ → List ℕ
key_expansion Nk key = key_words Nk key (4 * (Nr Nk + 1))

-- The key of round i: its four words are the columns.
unfoldable pub round_key : List ℕ → ℕ → List ℕ
round_key w i = state (λ r c. byte_of (slice_index w (4 * i + c)) r)

-- ---- 5.3: InvCipher

-- 5.3.1
unfoldable pub inv_shift_rows : List ℕ → List ℕ
inv_shift_rows s = state (λ r c. at s r ((c + (4 - r)) % 4))

-- 5.3.2: the inverse of the affine map, of the S-box, and of SubBytes.
unfoldable pub inv_affine : ℕ → ℕ
inv_affine b = of_bits 8 (λ i. bit b (i + 2) ⊕ bit b (i + 5) ⊕ bit b (i + 7) ⊕ bit 0x05 i)

unfoldable pub inv_s_box : ℕ → ℕ
inv_s_box b = inverse (inv_affine b)

unfoldable pub inv_sub_bytes : List ℕ → List ℕ
inv_sub_bytes s = state (λ r c. inv_s_box (at s r c))

-- 5.3.3
unfoldable pub inv_mixed : ℕ → ℕ → ℕ → ℕ → ℕ
inv_mixed a b c d = 0x0e • a ⊕ 0x0b • b ⊕ 0x0d • c ⊕ 0x09 • d

unfoldable pub inv_mix_columns : List ℕ → List ℕ
inv_mix_columns s = state (λ r c. inv_mixed (at s r c) (at s ((r + 1) % 4) c) (at s ((r + 2) % 4) c) (at s ((r + 3) % 4) c))

-- AddRoundKey is its own inverse, 5.3.4.
module _ (round_keys : ℕ → List ℕ) where
  -- Round n, and the last one, which has no mixing.
  abbrev pub inv_round : ℕ → List ℕ → List ℕ
  inv_round n s = inv_mix_columns (add_round_key (round_keys n) (inv_sub_bytes (inv_shift_rows s)))

  abbrev pub inv_last_round : ℕ → List ℕ → List ℕ
  inv_last_round n s = add_round_key (round_keys n) (inv_sub_bytes (inv_shift_rows s))

  -- Rounds n down to 0.
  unfoldable pub inv_rounds : ℕ → List ℕ → List ℕ
  inv_rounds zero s = inv_last_round 0 s
  inv_rounds (suc n) s = inv_rounds n (inv_round (suc n) s)

  -- InvCipher with Nr rounds.
  unfoldable pub inv_cipher : ℕ → List ℕ → List ℕ
  inv_cipher Nr s = inv_rounds (Nr - 1) (add_round_key (round_keys Nr) s)

-- ---- blocks

unfoldable pub encipher : ℕ → List ℕ → ℕ → ℕ
encipher Nr w b = number (cipher (round_key w) Nr (bytes 16 b))

unfoldable pub decipher : ℕ → List ℕ → ℕ → ℕ
decipher Nr w b = number (inv_cipher (round_key w) Nr (bytes 16 b))

-- ---- keys

-- A key is 16 bytes or 32.
unfoldable pub is_key : List ℕ → Bool
is_key key = length key == 16 || length key == 32

-- Nk, the number of its words: 4 or 8.
abbrev pub NkOf : List ℕ → ℕ
NkOf key = length key / 4

-- AES under a key, whose length chooses the number of words and with it that of rounds.
unfoldable pub aes : List ℕ → BlockCipher
aes key = record {
  E = encipher (Nr (NkOf key)) (key_expansion (NkOf key) key);
  D = decipher (Nr (NkOf key)) (key_expansion (NkOf key) key);
}
