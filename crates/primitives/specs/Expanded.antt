-- The expanded key of the code, a record of words and the number of rounds: what it is made of, and the block cipher that it stands for.
use Rattle.std.specs.Prelude.{ℕ, ◌-◌, ◌*◌, min, max, cond, List, ◌++◌, replicate, Result, Ok, Err}
use Rattle.strings.specs.declared.refusal.Refusal.{Refusal}
use Rattle.strings.specs.declared.refusal.Refusal.TheVariants.{KeyLength}
use Rattle.blocks.specs.BlockCipher.{BlockCipher}
use Rattle.primitives.specs.Aes.{key_expansion, Nr, is_key, NkOf, encipher, decipher}
use Rattle.primitives.specs.declared.aes.ExpandedKey.{ExpandedKey}

-- The array holds the words of the longer key, 60. Behind those of the shorter one, 44, it has zeros.
abbrev pub held_words : ℕ → List ℕ → List ℕ
held_words Nk key = key_expansion Nk key ++ replicate (4 * (Nr 8 - Nr Nk)) 0

-- What is made of a string: the words of its key expansion and the number of rounds, 10 or 14, which says what key it was; of what is no key, zeros.
abbrev pub expanded_key : List ℕ → ExpandedKey
expanded_key key =
    cond (is_key key)
    (record { words = held_words (NkOf key) key; rounds = Nr (NkOf key) })
    (record { words = replicate 60 0; rounds = 0 })

-- What expanding a string answers: number 1 for what is no key.
abbrev pub expansion_of : List ℕ → Result ExpandedKey Refusal
expansion_of key = cond (is_key key) (Ok (expanded_key key)) (Err KeyLength)

-- The rounds that are done: as many as the record says, but at least two, and no more than there are round keys in the array.
abbrev pub rounds_done : ℕ → ℕ
rounds_done rounds = max 2 (min (Nr 8) rounds)

-- AES with these words and rounds, whatever they are.
abbrev pub under : ExpandedKey → BlockCipher
under expanded = record {
  E = encipher (rounds_done expanded.rounds) expanded.words;
  D = decipher (rounds_done expanded.rounds) expanded.words;
}
