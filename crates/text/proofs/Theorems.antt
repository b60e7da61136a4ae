-- Every theorem of specs/Theorems.antt, from the laws beside this file.
-- Assumes nothing.
use Rattle.text.specs.Theorems.{Theorems}
use Rattle.text.proofs.Digits.{unhex-hex, is_hex-hex, hex-unhex}
use Rattle.text.proofs.Parts.{bytes_twice, kept_twice}

pub theorems : Theorems
theorems = record {
  bytes_back = unhex-hex;
  digits_of_bytes = is_hex-hex;
  text_back = hex-unhex;
  append_bytes = bytes_twice;
  append_kept = kept_twice;
}
