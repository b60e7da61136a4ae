-- 01's case of `boardline` holds of the definitions, by computation.
-- Assumes nothing.
use mathlib.Core.Path.{refl}
use mathlib.Core.List.{flat_map}
use Rattle.text.specs.Hex.{digit, is_digit, value, hex, all_digits, is_hex, unhex}
use Rattle.text.specs.Part.{split_from}
use Rattle.primitives.specs.Aes.{is_key}
use Rattle.line.specs.Line.{commanded, requested, request_of, decimal, refusal, reply, reply_to, answer}
use Rattle.line.specs.Input.{lines_of, answers}
use Rattle.claims.specs.Program.{Program}

pub program : Program
unfolding flat_map digit is_digit value hex all_digits is_hex unhex split_from is_key commanded requested request_of decimal refusal reply reply_to answer lines_of answers
program = record { whole_case = refl }
