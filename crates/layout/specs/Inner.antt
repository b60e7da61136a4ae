-- What the contracts of inner functions cite: nobody has to believe it.
use Rattle.std.specs.Prelude.{ℕ, Bool, ◌&&◌, List, leb, eqb, length}

-- Whether a payload has at most 496 bytes and a block has 512.
unfoldable pub fits : (payload block : List ℕ) → Bool
fits payload block = leb (length payload) 496 && eqb (length block) 512
