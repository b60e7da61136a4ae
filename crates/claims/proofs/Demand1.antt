-- The numbers, by the definitions of the tests.
-- Assumes nothing.
use Prim.Native.Nat.{ℕ, zero, suc, ◌≤◌, ◌<◌}
use mathlib.Core.Path.{◌≡◌, refl}
use mathlib.Core.List.{List}
use native.Mathlib.Omega.{arith}
use lib.ListN.{length, length-drop}
use borrow.Author.Tests.{ne_eqb, lt-ltb, le-ltb}
use Rattle.strings.specs.Cipher.{Scheme}
use Rattle.strings.specs.Call.{refusal_number, number_of, looks_at, left_by}
use Rattle.strings.specs.Message.{tests as tests_of_message}
use Rattle.strings.specs.declared.refusal.Refusal.{Refusal}
use Rattle.strings.specs.declared.refusal.Refusal.TheVariants.{TooShort}
use Rattle.strings.proofs.Refusals.{refusal_range}
use Rattle.layout.proofs.Check.{zero_told, not_zero}
use Rattle.primitives.specs.Aes.{is_key}
use Rattle.hch.specs.Hch.{hch}
use Rattle.line.specs.Line.{reply_to, answer}
use Rattle.claims.specs.Demand1.{MessageNumbers, SealingNumbers, OpeningNumbers, Demand1}
use Rattle.claims.proofs.Keys.{is_key_lem, no_key}
use Rattle.claims.proofs.Number9.{line_9_only}

pub refused_left : (number : ℕ) (work lent : List ℕ) → 0 < number → left_by number work lent ≡ lent
refused_left zero work lent h = absurd (omega (arith, h))
refused_left (suc n) work lent h = refl

-- Of sealing and opening by every scheme that takes AES's keys.
module _ (S : Scheme) (keys : (key : List ℕ) → S.is_key key ≡ is_key key) where
  pub sealing_numbers : SealingNumbers S
  sealing_numbers = record {
    seal_1 = λ key payload place block k. rw (keys key, no_key key k);
    seal_7 = λ key payload place block k b. rw (keys key, is_key_lem key k, ne_eqb _ 512 b);
    seal_5 = λ key payload place block k b u. rw (keys key, is_key_lem key k, b, lt-ltb 496 _ u);
    seal_6 = λ key payload place block k b u n. rw (keys key, is_key_lem key k, b, le-ltb 496 _ u, lt-ltb 65535 _ n);
    seal_done = λ key payload place block k b u n. rw (keys key, is_key_lem key k, b, le-ltb 496 _ u, le-ltb 65535 _ n);
  }

  pub opening_numbers : OpeningNumbers S
  opening_numbers = record {
    open_1 = λ key pack place block k. rw (keys key, no_key key k);
    open_7 = λ key pack place block k b. rw (keys key, is_key_lem key k, ne_eqb _ 512 b);
    open_6 = λ key pack place block k b n. rw (keys key, is_key_lem key k, b, lt-ltb 65535 _ n);
    open_8 = λ key pack place block k b n e some. rw (keys key, is_key_lem key k, b, le-ltb 65535 _ n, e, not_zero block some);
    open_12 = λ key pack place block k b n e zero. rw (keys key, is_key_lem key k, b, le-ltb 65535 _ n, e, zero_told block zero);
    open_done = λ key pack place block k b n e. (rw (keys key, is_key_lem key k, b, le-ltb 65535 _ n, e), rw (keys key, is_key_lem key k, b, le-ltb 65535 _ n, e));
  }

  -- And of the calls on messages.
  pub message_numbers : (least : ℕ) (short : Refusal) → least ≤ 4096
      → MessageNumbers (λ key tweak message. number_of (looks_at (tests_of_message S least short key tweak message))) least (refusal_number short)
  message_numbers least short l = record {
    message_1 = λ key tweak message k. rw (keys key, no_key key k);
    message_2 = λ key tweak message k t. rw (keys key, is_key_lem key k, ne_eqb _ 16 t);
    message_short = λ key tweak message k t n. rw (keys key, is_key_lem key k, t, lt-ltb _ least n);
    message_4 = λ key tweak message k t n. rw (keys key, is_key_lem key k, t, le-ltb (length message) least (omega (arith, n, l)), lt-ltb 4096 _ n);
    message_done = λ key tweak message k t n m. rw (keys key, is_key_lem key k, t, le-ltb _ least n, le-ltb 4096 _ m);
  }

pub demand_1 : Demand1
unfolding reply_to answer
demand_1 = record {
  hch_numbers = message_numbers hch (λ key. refl) 16 TooShort (omega arith);
  hch_sealing = sealing_numbers hch (λ key. refl);
  hch_opening = opening_numbers hch (λ key. refl);
  hch_17 = λ message h. rw (length-drop, h);
  line_9 = λ line e. rw e;
  line_9_only = line_9_only;
  line_enciphered = λ line key tweak message e. rw e;
  line_deciphered = λ line key tweak message e. rw e;
  library_numbers = refusal_range;
  refused_left = refused_left;
  refused_alone = λ why. (refl, refl);
  not_opened_alone = λ why. (refl, refl);
  done_left = λ work lent. refl;
  done_alone = (refl, refl);
}
