-- The three low bytes go up by one, and the highest comes in below them.
use Rattle.std.proofs.Common.{◌≡◌, ℕ, ◌+◌, ◌*◌, ◌/◌, ◌%◌, ◌^◌, ◌<◌, [], ◌∷◌, ◌∙◌, ap₂, zero-lt-suc, arith}
use Rattle.std.specs.Int.Bits.{bit_or, or_add_and, xor_add_and}
use lib.Arith.{mod-mul}
use Rattle.strings.specs.Xor.{◌⊕◌}
use Rattle.strings.specs.Bytes.{number, bytes}
use Rattle.primitives.specs.Aes.{word, byte_of, rot_word}
use Rattle.strings.proofs.Xor.{xor_disjoint}
use Rattle.primitives.proofs.state.rot_word.Goals as goal

word_of : (a b c d : ℕ) → ((a * 256 + b) * 256 + c) * 256 + d ≡ number (a ∷ b ∷ c ∷ d ∷ [])
unfolding number
word_of a b c d = omega arith

joined : (w : ℕ) → w < 2 ^ 32 → w % 2 ^ 24 * 2 ^ 8 + w / 2 ^ 24 ≡ rot_word w
unfolding rot_word word byte_of bytes
joined w h =
    let second : w / 256 / 256 ≡ w / 256 ^ 2 = omega arith in
    let middle : w / 256 % 2 ^ 16 ≡ w / 256 / 256 % 256 * 256 + w / 256 % 256 = mod-mul (w / 256) (zero-lt-suc 255) (zero-lt-suc 255) in
    let low : w % 2 ^ 24 ≡ w / 256 % 2 ^ 16 * 256 + w % 256 = mod-mul w (zero-lt-suc 65535) (zero-lt-suc 255) in
    let last : w % 256 ≡ w / 256 ^ 0 % 256 = omega arith in
    let top : w / 2 ^ 24 ≡ w / 256 ^ 3 % 256 = omega arith in
    ap₂ (λ (x y : ℕ). x * 2 ^ 8 + y) (low ∙ ap₂ (λ (x y : ℕ). x * 256 + y) (rw second at middle) last) top
    ∙ word_of (byte_of w 1) (byte_of w 2) (byte_of w 3) (byte_of w 0)

-- Where no place has a 1 in both, `|` is the sum.
or_apart : (a b : ℕ) → a ⊕ b ≡ a + b → bit_or a b ≡ a + b
unfolding ◌⊕◌
or_apart a b e = omega (arith, or_add_and a b, xor_add_and a b, e)

rotates : (w : ℕ) → w < 2 ^ 32 → bit_or (w * 2 ^ 8 % 2 ^ 32) (w / 2 ^ 24) ≡ rot_word w
rotates w h =
    let up : w * 2 ^ 8 % 2 ^ 32 ≡ w % 2 ^ 24 * 2 ^ 8 = omega arith in
    rw up (or_apart (w % 2 ^ 24 * 2 ^ 8) (w / 2 ^ 24) (xor_disjoint 8 (w % 2 ^ 24) (w / 2 ^ 24) (omega arith)) ∙ joined w h)

pub returns : goal.returns
returns c = c.rotate_left.ensures ∙ rotates c.args.w c.ranges.w.fits
