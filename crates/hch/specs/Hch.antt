-- HCH of Chakraborty and Sarkar, source document 001, over any block cipher E with its inverse D, any step by x and any keyed sum of blocks.
-- A block is a number below 2 ^ 128 and a message P is a string of bytes, 16 or more. The paper's n is 128. Where the message is one block,
-- nothing stands behind it: there is no sum, steps 2, 5 and 6 do nothing, and what is left is the paper's section II-A.
use Rattle.std.specs.Prelude.{ℕ, ◌*◌, ◌^◌, List, ◌++◌, length, take, drop}
use Rattle.strings.specs.Xor.{◌⊕◌}
use Rattle.strings.specs.Bytes.{Below, number, bytes}
use Rattle.blocks.specs.Blocks.{blocks, string, IsBlock, bin}
use Rattle.blocks.specs.BlockField.{times_x, power_sum}
use Rattle.strings.specs.Cipher.{Permutation, Scheme}
use Rattle.blocks.specs.Counter.{masked}
use Rattle.blocks.specs.BlockCipher.{BlockCipher}
use Rattle.primitives.specs.Aes.{is_key, aes}

-- bin(l) of a message of n bytes: l is its length in bits, and a byte is 8 of them.
abbrev pub length_block : ℕ → ℕ
length_block n = bin (8 * n)

-- What stands behind the first block of a message: the bytes of P₂, …, Pₘ.
abbrev pub behind_first : List ℕ → List ℕ
behind_first P = drop 16 P

-- Formula (1): H with R and Q over A₁, A₂, …, Aₘ. For HCH the keyed sum is A₂ R ^ (m - 1) ⊕ … ⊕ Aₘ R, `power_sum` of the blocks' BlockField.antt.
module _ (sum : ℕ → List ℕ → ℕ) where
  unfoldable pub H : ℕ → ℕ → ℕ → List ℕ → ℕ
  H R Q A₁ A₂…Aₘ = Q ⊕ A₁ ⊕ sum R A₂…Aₘ

-- Formula (3), where the paper leaves Sᵢ open, and 01 has S ⊕ bin(i - 1) for the block i of the message: the list begins at its second block.
module _ (E : ℕ → ℕ) where
  unfoldable pub Ctr : ℕ → List ℕ → List ℕ
  Ctr S As = masked (λ i. E (S ⊕ bin i)) 1 As

-- Table II, left, line by line. P₂…Mₘ and the like are lists of blocks, P₂…Pₘ and C₂…Cₘ the bytes behind the first block.
module _ (E times_x : ℕ → ℕ) (sum : ℕ → List ℕ → ℕ) where
  unfoldable pub encipher : ℕ → List ℕ → List ℕ
  encipher T P =
      let P₁ = number (take 16 P) in
      let P₂…Pₘ = behind_first P in
      -- 1. R = E(T); Q = E(R ⊕ bin(l)), with the length l in bits
      let R = E T in
      let Q = E (R ⊕ length_block (length P)) in
      -- 2. Mₘ = pad(Pₘ)
      let P₂…Mₘ = blocks P₂…Pₘ in
      -- 3. M₁ = H with R and Q over P₁, …, Pₘ₋₁, Mₘ
      let M₁ = H sum R Q P₁ P₂…Mₘ in
      -- 4. U₁ = E(M₁); I = M₁ ⊕ U₁; S = E(I)
      let U₁ = E M₁ in
      let I = M₁ ⊕ U₁ in
      let S = E I in
      -- 5. C₂, …, Cₘ₋₁, Dₘ = Ctr with S over P₂, …, Pₘ₋₁, Mₘ
      let C₂…Dₘ = Ctr E S P₂…Mₘ in
      -- 6. Cₘ = drop(Dₘ), to the length of Pₘ; Uₘ = pad(Cₘ)
      let C₂…Cₘ = take (length P₂…Pₘ) (string C₂…Dₘ) in
      let C₂…Uₘ = blocks C₂…Cₘ in
      -- 7. C₁ = H with R and xQ over U₁, C₂, …, Cₘ₋₁, Uₘ
      let C₁ = H sum R (times_x Q) U₁ C₂…Uₘ in
      -- 8. C₁, …, Cₘ
      bytes 16 C₁ ++ C₂…Cₘ

-- Table II, right, line by line.
module _ (E D times_x : ℕ → ℕ) (sum : ℕ → List ℕ → ℕ) where
  unfoldable pub decipher : ℕ → List ℕ → List ℕ
  decipher T C =
      let C₁ = number (take 16 C) in
      let C₂…Cₘ = behind_first C in
      -- 1. R = E(T); Q = E(R ⊕ bin(l)), with the length l in bits
      let R = E T in
      let Q = E (R ⊕ length_block (length C)) in
      -- 2. Uₘ = pad(Cₘ)
      let C₂…Uₘ = blocks C₂…Cₘ in
      -- 3. U₁ = H with R and xQ over C₁, …, Cₘ₋₁, Uₘ
      let U₁ = H sum R (times_x Q) C₁ C₂…Uₘ in
      -- 4. M₁ = D(U₁); I = M₁ ⊕ U₁; S = E(I)
      let M₁ = D U₁ in
      let I = M₁ ⊕ U₁ in
      let S = E I in
      -- 5. P₂, …, Pₘ₋₁, Vₘ = Ctr with S over C₂, …, Cₘ₋₁, Uₘ
      let P₂…Vₘ = Ctr E S C₂…Uₘ in
      -- 6. Pₘ = drop(Vₘ), to the length of Cₘ; Mₘ = pad(Pₘ)
      let P₂…Pₘ = take (length C₂…Cₘ) (string P₂…Vₘ) in
      let P₂…Mₘ = blocks P₂…Pₘ in
      -- 7. P₁ = H with R and Q over M₁, P₂, …, Pₘ₋₁, Mₘ
      let P₁ = H sum R Q M₁ P₂…Mₘ in
      -- 8. P₁, …, Pₘ
      bytes 16 P₁ ++ P₂…Pₘ

-- What the theorems ask of the parts: a block permutation, a step and a sum that keep blocks.
pub record Parts (E D times_x : ℕ → ℕ) (sum : ℕ → List ℕ → ℕ) : Type 0 where
  pub permutation : Permutation IsBlock E D
  pub step_keeps : (a : ℕ) → IsBlock a → IsBlock (times_x a)
  pub sum_keeps : (R : ℕ) (As : List ℕ) → IsBlock R → Below (2 ^ 128) As → IsBlock (sum R As)

-- ---- HCH with 01's field and the sum of blocks times powers, and any block cipher

unfoldable pub enciphered_by : BlockCipher → List ℕ → List ℕ → List ℕ
enciphered_by c tweak P = encipher c.E times_x power_sum (number tweak) P

unfoldable pub deciphered_by : BlockCipher → List ℕ → List ℕ → List ℕ
deciphered_by c tweak C = decipher c.E c.D times_x power_sum (number tweak) C

-- ---- HCH with AES under the key

unfoldable pub enciphered : List ℕ → List ℕ → List ℕ → List ℕ
enciphered key = enciphered_by (aes key)

unfoldable pub deciphered : List ℕ → List ℕ → List ℕ → List ℕ
deciphered key = deciphered_by (aes key)

abbrev pub hch : Scheme
hch = record { is_key = is_key; encipher = enciphered; decipher = deciphered }
