-- Every theorem of specs/Theorems.antt, from the laws beside this file.
-- Assumes nothing.
use Rattle.strings.specs.Theorems.{Theorems}
use Rattle.strings.proofs.Xor.{xor_assoc, xor_comm, xor_zero, xor_self, xor_below}
use Rattle.strings.proofs.Bytes.{number-bytes, bytes-number, bytes_xor}
use Rattle.strings.proofs.Refusals.{in_turn_lem}
use Rattle.strings.proofs.One as One

pub theorems : Theorems
theorems = record {
  sum_assoc = xor_assoc;
  sum_comm = xor_comm;
  sum_zero = xor_zero;
  sum_self = xor_self;
  sum_below = λ k a b. xor_below k;
  number_of_bytes = number-bytes;
  bytes_of_number = bytes-number;
  bytes_of_sum = bytes_xor;
  count_numbers = One.count_one;
  count_strings = One.count_strings;
  two_parts = λ m n f g s t. One.two_parts;
  one_preimage = λ n f g. One.one_preimage;
  tests_one_by_one = in_turn_lem;
}
