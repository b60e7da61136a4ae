-- Each sentence is cited from the theorems of the crates below, or comes by the definitions.
-- Assumes nothing.
use mathlib.Core.List.{append-nil}
use mathlib.Core.Logic.{inl, inr}
use Rattle.primitives.specs.Aes.{key_expansion}
use Rattle.primitives.proofs.Theorems as Aes
use Rattle.hch.proofs.Theorems as Hch
use Rattle.claims.specs.Point3.{Point3}
use Rattle.claims.proofs.Keys.{is_key_lem, no_key}

pub point_3 : Point3
point_3 = record {
  accepted = is_key_lem;
  not_accepted = no_key;
  ten_rounds = λ key e. rw (is_key_lem key (inl e), e);
  fourteen_rounds = λ key e. rw (is_key_lem key (inr e), e);
  words_of_16 = λ key e. rw (is_key_lem key (inl e), e);
  words_of_32 = λ key e. rw (is_key_lem key (inr e), e) (append-nil (key_expansion 8 key));
  no_rounds = λ key none. rw (no_key key none);
  no_words = λ key none. rw (no_key key none);
  aes_carried = λ key k. (Aes.theorems).expanded_aes key (is_key_lem key k);
  hch_carried = λ key k. (Hch.theorems).same_expanded key (is_key_lem key k);
  any_rounds = (Aes.theorems).words_permutation;
}
