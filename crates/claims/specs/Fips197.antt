-- Worked examples of FIPS 197, as statements on the definitions; proofs/Fips197.antt computes them.
use Rattle.std.specs.Prelude.{ℕ, ◌≡◌, List}
use Rattle.strings.specs.Bytes.{number, bytes}
use Rattle.primitives.specs.Aes.{Nr, key_expansion, round_key, aes}

-- The key of appendices A.1 and B, and those of A.3 and C.3.
abbrev pub key : List ℕ
key = bytes 16 0x2b7e151628aed2a6abf7158809cf4f3c

abbrev pub long_key : List ℕ
long_key = bytes 32 0x603deb1015ca71be2b73aef0857d77811f352c073b6108d72d9810a30914dff4

abbrev pub counted_key : List ℕ
counted_key = bytes 32 0x000102030405060708090a0b0c0d0e0f101112131415161718191a1b1c1d1e1f

pub record Fips197 : Type 0 where
  -- A.1: w[40] to w[43].
  pub last_round_key : number (round_key (key_expansion 4 key) (Nr 4)) ≡ 0xd014f9a8c9ee2589e13f0cc8b6630ca6
  -- A.3: w[56] to w[59].
  pub last_round_key_256 : number (round_key (key_expansion 8 long_key) (Nr 8)) ≡ 0xfe4890d1e6188d0b046df344706c631e
  -- B: the input and the output of the cipher.
  pub cipher_example : (aes key).E 0x3243f6a8885a308d313198a2e0370734 ≡ 0x3925841d02dc09fbdc118597196a0b32
  -- C.3: the same under a key of 32 bytes.
  pub cipher_example_256 : (aes counted_key).E 0x00112233445566778899aabbccddeeff ≡ 0x8ea2b7ca516745bfeafc49904b496089
