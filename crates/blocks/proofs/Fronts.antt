-- The fronts of the schemes' passes: 16 bytes stand for a block, and 32 bytes for two.
-- Assumes nothing.
use Prim.Native.Nat.{ℕ}
use native.Mathlib.Nat.{mod-eq_of_lt}
use Rattle.strings.specs.Xor.{◌⊕◌}
use Rattle.strings.specs.Bytes.{number, bytes}
use Rattle.strings.proofs.Xor.{xor_comm, xor_below, xor_cancel_right}
use Rattle.strings.proofs.Bytes.{length-bytes, bytes_below, number_below, number-bytes, bytes-number}
use Rattle.strings.proofs.Pass.{Front, pair}
use Rattle.blocks.specs.Blocks.{IsBlock}

unfoldable pub one_block : Front 16 IsBlock
one_block = record {
  read = number;
  write = bytes 16;
  sum = ◌⊕◌;
  reads = λ s h. rw h.0 at (number_below s h.1);
  writes = λ a. (length-bytes 16 a, bytes_below 16 a);
  read_written = λ a h. rw number-bytes (mod-eq_of_lt h);
  written_read = λ s h. rw h.0 at (bytes-number s h.1);
  sum_is = λ a b. xor_below 128;
  sum_comm = xor_comm;
  sum_cancel = xor_cancel_right;
}

unfoldable pub two_blocks : Front 32 (λ (p : ℕ × ℕ). IsBlock p.0 × IsBlock p.1)
two_blocks = pair one_block one_block
