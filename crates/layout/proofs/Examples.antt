-- 01's worked examples of the tweak and the plain block, by computation.
-- Assumes nothing.
use mathlib.Core.Path.{◌≡◌, refl}
use mathlib.Core.List.{[], ◌∷◌}
use lib.ListN.{drop, replicate}
use Rattle.strings.specs.Bytes.{bytes}
use Rattle.layout.specs.Layout.{check, plain_block, tweak}

-- P12: pack 1, place 258 has the tweak 00 00 00 00 00 00 00 01 00 00 00 00 00 00 01 02.
pub p12 : tweak 1 258 ≡ 0 ∷ 0 ∷ 0 ∷ 0 ∷ 0 ∷ 0 ∷ 0 ∷ 1 ∷ 0 ∷ 0 ∷ 0 ∷ 0 ∷ 0 ∷ 0 ∷ 1 ∷ 2 ∷ []
unfolding tweak bytes
p12 = refl

-- P13: the plain block for an empty payload, pack 0, place 0 is 512 zeros.
pub p13 : plain_block [] 0 0 ≡ replicate 512 0
unfolding plain_block check bytes
p13 = refl

-- P14: payload 41 42 43, pack 1, place 2 ends in 00 00 00 02 00 03 00 00.
pub p14 : drop 504 (plain_block (0x41 ∷ 0x42 ∷ 0x43 ∷ []) 1 2) ≡ 0 ∷ 0 ∷ 0 ∷ 2 ∷ 0 ∷ 3 ∷ 0 ∷ 0 ∷ []
unfolding plain_block check bytes
p14 = refl
