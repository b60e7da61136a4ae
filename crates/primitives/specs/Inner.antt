-- What the contracts of inner functions cite: nobody has to believe it.
use Rattle.std.specs.Prelude.{◌≡◌, ℕ, ◌+◌, ◌%◌, ◌<◌, List, [], ◌∷◌, slice_index}
use Rattle.strings.specs.Xor.{◌⊕◌}
use Rattle.strings.specs.Bytes.{bytes}
use Rattle.primitives.specs.Aes.{◌•◌, at, state, byte_of, s_box, rot_word}

-- The list t is the table of f on the bytes.
pub record Table (f : ℕ → ℕ) (t : List ℕ) : Type 0 where
  pub entry : (b : ℕ) → b < 256 → slice_index t b ≡ f b

-- x is s with each byte looked up in t: f of it, for every f whose table t is.
abbrev pub Substituted : List ℕ → List ℕ → List ℕ → Type 0
Substituted t s x = (f : ℕ → ℕ) → Table f t → x ≡ state (λ r c. f (at s r c))

-- The state whose columns are four words.
unfoldable pub of_columns : List ℕ → List ℕ
of_columns w = state (λ r c. byte_of (slice_index w c) r)

-- A mixing of columns: in each row the sum of `own` of the byte there and of `next`, `second` and `third` of those in the rows after it.
unfoldable pub mixing : (own next second third : ℕ → ℕ) → List ℕ → List ℕ
mixing own next second third s =
    state (λ r c. own (at s r c) ⊕ next (at s ((r + 1) % 4) c) ⊕ second (at s ((r + 2) % 4) c) ⊕ third (at s ((r + 3) % 4) c))

-- The list t is the table of a mixing: for each byte the column that it adds if it stands in row 0.
pub record MixingTable (own next second third : ℕ → ℕ) (t : List ℕ) : Type 0 where
  pub entry : (b : ℕ) → b < 256 → bytes 4 (slice_index t b) ≡ own b ∷ third b ∷ second b ∷ next b ∷ []

-- The list t is the table of Cipher: of MixColumns after SubBytes.
abbrev pub CipherTable : List ℕ → Type 0
CipherTable = MixingTable (λ b. 0x02 • s_box b) (λ b. 0x03 • s_box b) s_box s_box

-- What the table makes of a column: what is added from a lower row stands as many rows lower.
unfoldable pub column_by : List ℕ → ℕ → ℕ
column_by t w =
    slice_index t (byte_of w 0) ⊕ rot_word (rot_word (rot_word (slice_index t (byte_of w 1)))) ⊕ rot_word (rot_word (slice_index t (byte_of w 2))) ⊕ rot_word (slice_index t (byte_of w 3))

-- x has the columns of s mixed by t, for every mixing whose table t is.
abbrev pub MixedBy : List ℕ → List ℕ → List ℕ → Type 0
MixedBy t s x = (own next second third : ℕ → ℕ) → MixingTable own next second third t → of_columns x ≡ mixing own next second third s
