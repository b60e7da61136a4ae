-- By the definitions.
-- Assumes nothing.
use mathlib.Core.Path.{refl}
use Rattle.primitives.specs.Aes.{encipher as encipher_block, decipher as decipher_block, aes}
use Rattle.hch.specs.Hch.{enciphered_by, deciphered_by, enciphered, deciphered}
use Rattle.claims.specs.Demand2.{Demand2}

pub demand_2 : Demand2
unfolding encipher_block decipher_block aes enciphered_by deciphered_by enciphered deciphered
demand_2 = record {
  enciphered_by_aes = λ key tweak P. refl;
  deciphered_by_aes = λ key tweak C. refl;
  aes_128 = λ key k b. (rw k, rw k);
  aes_256 = λ key k b. (rw k, rw k);
}
