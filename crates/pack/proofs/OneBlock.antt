-- Sealing and opening by any scheme that is a cipher of 512 bytes under the key and the tweak.
-- Assumes nothing.
use Prim.Native.Nat.{ℕ, ◌≤◌}
use mathlib.Core.Path.{◌≡◌, refl, sym, ap, ◌∙◌}
use mathlib.Core.Bool.{Bool, true, false, cond, not, ◌&&◌, false≢true}
use mathlib.Core.List.{List, [], ◌∷◌}
use mathlib.Core.Logic.{inl, inr, ⊎_elim}
use native.Mathlib.Omega.{arith}
use borrow.Author.Tests.{eqb-true, ltb-false, eq-eqb, le-ltb}
use lib.Dec.{eqb}
use lib.ListN.{length, get_or, take}
use lib.Seq.{length-take-le}
use Rattle.strings.specs.Bytes.{Bytes, OfLength, equal}
use Rattle.strings.specs.Call.{Answer, number_of, looks_at, left_by}
use Rattle.strings.specs.Cipher.{Scheme}
use Rattle.std.specs.Prelude.{Ok, Err}
use Rattle.strings.specs.declared.refusal.Refusal.{Refusal}
use Rattle.strings.specs.declared.refusal.Refusal.TheVariants.{KeyLength}
use Rattle.strings.proofs.Bytes.{below_take}
use Rattle.strings.proofs.Equal.{both, equal_refl, equal_true}
use Rattle.strings.proofs.One.{one_string}
use Rattle.strings.proofs.Refusals.{none_holds, refused_early, not_false, refusal_leaves, refused_some}
use Rattle.layout.specs.Layout.{plain_block, tweak, used, payload_of, passes, is_zero}
use Rattle.layout.proofs.Check.{plain_of_length, used_plain, take_plain, passes_plain, passes_only, zero_only, zero_told}
use Rattle.pack.specs.Sealing.{seal, WithinLimits, tests as tests_of_sealing, answer_of as answer_of_sealing}
use Rattle.pack.specs.Opening.{Opened, values_of, returning, failure, deciphered_block, tests_between, tests, answer_of, opens_to, OneBlock, NoPayload, Unopened, UnopenedMeaning, Meaning}
use Rattle.pack.specs.Inner.{CipherAt, Opens}

-- ---- what an answer tells of the tests

-- The number is that of the tests.
number_returned : (u : ℕ) (a : Answer) → number_of (returning u a) ≡ number_of a
number_returned u (Ok a) = refl
number_returned u (Err why) = refl

-- Of sealing: what is known of a call that was done.
pub record Sealable (S : Scheme) (key payload : List ℕ) (place : ℕ) (block : List ℕ) : Type 0 where
  pub is_key_lem : S.is_key key ≡ true
  pub block_length : length block ≡ 512
  pub payload_length : length payload ≤ 496
  pub place_limit : place ≤ 65535

pub sealable : (S : Scheme) (key payload : List ℕ) (place : ℕ) (block : List ℕ) → number_of (answer_of_sealing S key payload place block) ≡ 0
    → Sealable S key payload place block
sealable S key payload place block e =
    let t = none_holds (tests_of_sealing S key payload place block) e in
    record {
      is_key_lem = not_false _ t.0;
      block_length = eqb-true (length block) 512 (not_false _ t.1.0);
      payload_length = ltb-false 496 (length payload) t.1.1.0;
      place_limit = ltb-false 65535 place t.1.1.1.0;
    }

-- Of opening: what is known of a block that is to be deciphered, to which the numbers 1, 7 and 6 do not apply.
pub record Openable (S : Scheme) (key : List ℕ) (place : ℕ) (C : List ℕ) : Type 0 where
  pub is_key_lem : S.is_key key ≡ true
  pub block_length : length C ≡ 512
  pub place_limit : place ≤ 65535

module _ (S : Scheme) (key : List ℕ) (pack place : ℕ) (C : List ℕ) where
  -- The check alone decides where the other tests are passed.
  pub by_check : Openable S key place C → (t : Bool) → passes pack place (deciphered_block S key pack place C) ≡ t
      → answer_of S key pack place C ≡ cond (not t) (Err (failure C)) (Ok (used (deciphered_block S key pack place C)))
  by_check o true e = rw (o.is_key_lem, eq-eqb _ 512 o.block_length, le-ltb 65535 _ o.place_limit, e)
  by_check o false e = rw (o.is_key_lem, eq-eqb _ 512 o.block_length, le-ltb 65535 _ o.place_limit, e)

  -- What is known of a call that was done.
  record Admitted : Type 0 where
    within : Openable S key place C
    passed : passes pack place (deciphered_block S key pack place C) ≡ true

  -- Where none of the tests between the key and the check holds, the block is deciphered.
  pub openable : looks_at (tests_between place C) ≡ Ok tt → (length C ≡ 512) × (place ≤ 65535)
  openable e =
      let t = none_holds (tests_between place C) (ap number_of e) in
      (eqb-true (length C) 512 (not_false _ t.0), ltb-false 65535 place t.1.0)

  -- A refusal before that is the answer, and leaves the block. Then one of the numbers 1, 7 and 6 applies, and numbers 8 and 12 are not asked for.
  refused_first : {why : Refusal} → looks_at (take 3 (tests S key pack place C)) ≡ Err why → Opens S key pack place C (Err why) C
  refused_first {why} e =
      let B = deciphered_block S key pack place C in
      let passed : Openable S key place C → looks_at (take 3 (tests S key pack place C)) ≡ Ok tt =
      λ o. rw (o.is_key_lem, eq-eqb (length C) 512 o.block_length, le-ltb 65535 place o.place_limit) refl in
      let refused : ◌≡◌ {A = Opened} (Err why) (Err why) = refl in
      record {
        answered = sym (ap (returning (used B)) (refused_early 3 (tests S key pack place C) why e));
        left = refusal_leaves why B C;
        meaning = record {
          used_limit = λ z. absurd (refused_some refused z);
          sealed = λ z. absurd (refused_some refused z);
          one_block = λ z. absurd (refused_some refused z);
          unopened = λ k h l. absurd (refused_some e (ap number_of (passed (record { is_key_lem = k; block_length = h; place_limit = l }))));
        };
      }

  -- It is that of a string which is no key, or that of the tests behind the key.
  pub no_key : S.is_key key ≡ false → Opens S key pack place C (Err KeyLength) C
  no_key k = refused_first (rw k)

  pub refused_behind : {why : Refusal} → S.is_key key ≡ true → looks_at (tests_between place C) ≡ Err why → Opens S key pack place C (Err why) C
  refused_behind k e = refused_first (rw k e)

  by_tests : number_of (answer_of S key pack place C) ≡ number_of (looks_at (tests S key pack place C))
  by_tests = number_returned (used (deciphered_block S key pack place C)) (looks_at (tests S key pack place C))

  admitted : number_of (answer_of S key pack place C) ≡ 0 → Admitted
  admitted e =
      let t = none_holds (tests S key pack place C) (sym by_tests ∙ e) in
      record {
        within = record {
          is_key_lem = not_false _ t.0;
          block_length = eqb-true (length C) 512 (not_false _ t.1.0);
          place_limit = ltb-false 65535 place t.1.1.0;
        };
        passed = not_false _ t.1.1.1.0;
      }

  done : Admitted → answer_of S key pack place C ≡ Ok (used (deciphered_block S key pack place C))
  done a = by_check a.within true a.passed

  pub opened_answer : number_of (answer_of S key pack place C) ≡ 0 → answer_of S key pack place C ≡ Ok (used (deciphered_block S key pack place C))
  opened_answer e = done (admitted e)

  -- What it is to open to a payload: the block opens, with the payload's length as u and the payload in front.
  module _ (payload : List ℕ) where
    pub record OpenedTo : Type 0 where
      pub answered : number_of (answer_of S key pack place C) ≡ 0
      pub used-length : used (deciphered_block S key pack place C) ≡ length payload
      pub front : take (length payload) (deciphered_block S key pack place C) ≡ payload

    pub opened_to : opens_to S key payload pack place C ≡ true → OpenedTo
    unfolding opens_to
    opened_to t =
        let n = length payload in
        let B = deciphered_block S key pack place C in
        let r = answer_of S key pack place C in
        let left = equal (take n (left_by (number_of r) B C)) payload in
        let parts = both (eqb (number_of r) 0 && equal (values_of r) (n ∷ [])) left t in
        let returned = both (eqb (number_of r) 0) (equal (values_of r) (n ∷ [])) parts.0 in
        let none = eqb-true (number_of r) 0 returned.0 in
        let d = done (admitted none) in
        let same : equal (take n B) payload ≡ true = rw d at parts.1 in
        record {
          answered = none;
          used-length = ap (λ (s : List ℕ). get_or s 0 0) (equal_true (used B ∷ []) (n ∷ []) (rw d at returned.1));
          front = equal_true (take n B) payload same;
        }

    pub opens_to_lem : OpenedTo → opens_to S key payload pack place C ≡ true
    unfolding opens_to
    opens_to_lem o =
        rw (done (admitted o.answered), o.used-length, o.front, equal_refl (length payload ∷ [])) (equal_refl payload)

  -- Where the other tests are passed, the number goes by the check, and where that fails by the lent bytes.
  number_by_check : Openable S key place C → (t z : Bool) → passes pack place (deciphered_block S key pack place C) ≡ t → is_zero C ≡ z
      → number_of (answer_of S key pack place C) ≡ cond t 0 (cond z 12 8)
  number_by_check o true z e f = ap number_of (by_check o true e)
  number_by_check o false true e f = ap number_of (by_check o false e) ∙ rw f
  number_by_check o false false e f = ap number_of (by_check o false e) ∙ rw f

-- ---- over any scheme that is a cipher of 512 bytes under the key and the tweak

module _ (S : Scheme) (key : List ℕ) (pack place : ℕ) (cipher : CipherAt S key pack place) where
  -- What was deciphered is given back when it is enciphered again.
  pub given_back : (C : List ℕ) → OfLength 512 C → S.encipher key (tweak pack place) (deciphered_block S key pack place C) ≡ C
  unfolding deciphered_block
  given_back = cipher.undoes

  -- What was sealed: 512 bytes, which decipher to the plain block.
  module _ (payload : List ℕ) (b : Bytes payload) (h : length payload ≤ 496) where
    pub seal_of_length : OfLength 512 (seal S key payload pack place)
    unfolding seal
    seal_of_length = cipher.keeps (plain_block payload pack place) (plain_of_length payload pack place b h)

    pub deciphered_sealed : deciphered_block S key pack place (seal S key payload pack place) ≡ plain_block payload pack place
    unfolding seal deciphered_block
    deciphered_sealed = cipher.undone (plain_block payload pack place) (plain_of_length payload pack place b h)

    pub answer_sealed : S.is_key key ≡ true → place ≤ 65535 → answer_of S key pack place (seal S key payload pack place) ≡ Ok (length payload)
    answer_sealed k l =
        by_check S key pack place (seal S key payload pack place) (record { is_key_lem = k; block_length = seal_of_length.0; place_limit = l }) true
        (rw deciphered_sealed (passes_plain payload pack place h))
        ∙ rw (deciphered_sealed, used_plain payload pack place h)

  -- What passes its check was sealed: C deciphers to B, whose payload is within the limits and seals to C.
  pub record FromPayload (C B : List ℕ) : Type 0 where
    pub payload_bytes : Bytes (payload_of B)
    pub used_limit : used B ≤ 496
    pub payload_length : length (payload_of B) ≤ 496
    pub seals : seal S key (payload_of B) pack place ≡ C

  sealed_passed : (C : List ℕ) → OfLength 512 C → passes pack place (deciphered_block S key pack place C) ≡ true
      → FromPayload C (deciphered_block S key pack place C)
  unfolding seal deciphered_block
  sealed_passed C h e =
      let B = S.decipher key (tweak pack place) C in
      let k = cipher.inverse_keeps C h in
      let only = passes_only pack place B k.0 e in
      record {
        payload_bytes = below_take (used B) B k.1;
        used_limit = only.0;
        payload_length = rw (length-take-le (used B) B (omega (arith, k.0, only.0))) only.0;
        seals = ap (λ (P : List ℕ). S.encipher key (tweak pack place) P) (sym only.1) ∙ cipher.undoes C h;
      }

  pub opened_from : (C : List ℕ) → Bytes C → number_of (answer_of S key pack place C) ≡ 0 → FromPayload C (deciphered_block S key pack place C)
  opened_from C b e =
      let a = admitted S key pack place C e in
      sealed_passed C (a.within.block_length, b) a.passed

  pub only_sealed : (payload C : List ℕ) → OfLength 512 C → opens_to S key payload pack place C ≡ true → C ≡ seal S key payload pack place
  only_sealed payload C h t =
      let o = opened_to S key pack place C payload t in
      let front : payload_of (deciphered_block S key pack place C) ≡ payload = rw o.used-length o.front in
      sym (rw front at (sealed_passed C h (admitted S key pack place C o.answered).passed).seals)

  pub one_block : (payload : List ℕ) → S.is_key key ≡ true → WithinLimits payload place → OneBlock S key payload pack place (seal S key payload pack place)
  unfolding opens_to
  one_block payload k w =
      let b = w.payload_bytes in
      let h = w.payload_length in
      one_string (record {
        among = seal_of_length payload b h;
        passes = rw (
          answer_sealed payload b h k w.place_limit,
          deciphered_sealed payload b h,
          take_plain payload pack place h,
          equal_refl (length payload ∷ []),
        ) (equal_refl payload);
        only = only_sealed payload;
      })

  -- A block fails its check exactly if no payload seals to it.
  module _ (C : List ℕ) where
    no_payload : passes pack place (deciphered_block S key pack place C) ≡ false → NoPayload S key pack place C
    no_payload e payload b h s =
        let plain : passes pack place (deciphered_block S key pack place (seal S key payload pack place)) ≡ true =
        rw (deciphered_sealed payload b h) (passes_plain payload pack place h) in
        let passed : passes pack place (deciphered_block S key pack place C) ≡ true = rw s at plain in
        false≢true (sym e ∙ passed)

    some_payload : OfLength 512 C → passes pack place (deciphered_block S key pack place C) ≡ true → NoPayload S key pack place C → ⊥
    some_payload h e none =
        let s = sealed_passed C h e in
        none (payload_of (deciphered_block S key pack place C)) s.payload_bytes s.payload_length s.seals

    -- So the numbers that go by the check have their meaning.
    by_check_and_zeros : OfLength 512 C → (t z : Bool) → passes pack place (deciphered_block S key pack place C) ≡ t → is_zero C ≡ z
        → Unopened S (cond t 0 (cond z 12 8)) key pack place C
    by_check_and_zeros h true z e f = record {
      eight_or_twelve = (⊎_elim (λ n. absurd (omega (arith, n))) (λ n. absurd (omega (arith, n))), λ none. absurd (some_payload h e none));
      twelve = (λ n. absurd (omega (arith, n)), λ none. absurd (some_payload h e none));
    }
    by_check_and_zeros h false true e f = record {
      eight_or_twelve = (λ n. no_payload e, λ none. inr refl);
      twelve = (λ n. (no_payload e, zero_only C f), λ none zero. refl);
    }
    by_check_and_zeros h false false e f = record {
      eight_or_twelve = (λ n. no_payload e, λ none. inl refl);
      twelve = (λ n. absurd (omega (arith, n)), λ none zero. absurd (false≢true (sym f ∙ zero_told C zero)));
    }

    pub unopened : Bytes C → UnopenedMeaning S (number_of (answer_of S key pack place C)) key pack place C
    unopened b k h l =
        let o : Openable S key place C = record { is_key_lem = k; block_length = h; place_limit = l } in
        rw (number_by_check S key pack place C o _ _ refl refl) (by_check_and_zeros (h, b) _ _ refl refl)

  -- A number and what is left by it have their meaning.
  meaning : (C : List ℕ) → Bytes C
      → let number = number_of (answer_of S key pack place C) in
      Meaning S number key pack place C (left_by number (deciphered_block S key pack place C) C)
  meaning C b =
      let B = deciphered_block S key pack place C in
      let number = number_of (answer_of S key pack place C) in
      let known : number ≡ 0 → Admitted S key pack place C = admitted S key pack place C in
      let left : number ≡ 0 → left_by number B C ≡ B = λ e. rw (done S key pack place C (known e)) in
      let whole : number ≡ 0 → FromPayload C B = opened_from C b in
      record {
        used_limit = λ e. rw (left e) (whole e).used_limit;
        sealed = λ e. rw (left e) (whole e).seals;
        one_block = λ e.
            let a = known e in
            let w = whole e in
            let limits : WithinLimits (payload_of B) place =
            record { payload_bytes = w.payload_bytes; payload_length = w.payload_length; place_limit = a.within.place_limit } in
            let one : OneBlock S key (payload_of B) pack place C = rw w.seals at (one_block (payload_of B) a.within.is_key_lem limits) in
            rw (left e) one;
        unopened = unopened C b;
      }

  -- So an answer by the definition promises what opening promises.
  pub opens : (C B : List ℕ) (answer : Opened) → Bytes C → answer ≡ answer_of S key pack place C
      → B ≡ left_by (number_of answer) (deciphered_block S key pack place C) C → Opens S key pack place C answer B
  opens C B answer b e l = record { answered = e; left = l; meaning = rw (l, e) (meaning C b) }
