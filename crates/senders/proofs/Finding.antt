-- What is found of a sender by the places of the first records that pass a test, and what noting makes of it.
-- Assumes nothing.
use Rattle.std.specs.Prelude.{Option, Some, None, position}
use Rattle.std.specs.List.{position_or_len}
use Rattle.std.proofs.Common.{◌≡◌, refl, sym, ap, ◌∙◌, Bool, true, cond, List, [], ◌∷◌, ℕ, zero, suc, ◌≤◌, ltb, length, get_or, set, take, arith}
use Rattle.std.proofs.lemmas.Bool.Decides.{nat_tests}
use lib.Dec.{leb-suc-suc}
use borrow.Author.Tests.{lt-ltb}
use borrow.Table.Steps.{cases}
use Rattle.senders.specs.declared.{SenderRecord.SenderRecord, Found.Found}
use Rattle.senders.specs.Records.{is_free, names, record_of}
use Rattle.senders.specs.Senders.{counted, some_of, first_place, knows, found, note_nothing, note}
use Rattle.senders.proofs.Naming.{stored_unknown}
use Rattle.senders.proofs.Firsts.{first_set, stored_first}
use Rattle.senders.proofs.Noting.{note_known, note_new, note_full, note_cases}

-- ---- how many places count

pub counted_within : (n : ℕ) → counted n ≤ n
unfolding counted
counted_within n = grind (arith, nat_tests)

pub counted_64 : (n : ℕ) → counted n ≤ 64
unfolding counted
counted_64 n = grind (arith, nat_tests)

-- ---- the first of n records that passes a test

module _ (p : SenderRecord → Bool) where
  place_is : (n : ℕ) (l : List SenderRecord) → position_or_len p (take n l) ≡ first_place p n l
  unfolding first_place
  place_is zero l = refl
  place_is (suc n) [] = refl
  place_is (suc n) (r ∷ l) = cases (p r) (λ e. rw e refl) (λ e. rw e (omega (arith, place_is n l)))

  some_is : (n : ℕ) (l : List SenderRecord) → ltb (first_place p n l) (length (take n l)) ≡ some_of p n l
  unfolding first_place some_of
  some_is zero l = refl
  some_is (suc n) [] = refl
  some_is (suc n) (r ∷ l) =
      cases (p r) (λ e. rw e (lt-ltb 0 (suc (length (take n l))) (omega arith)))
      (λ e. rw e (leb-suc-suc (suc (first_place p n l)) (length (take n l)) ∙ some_is n l))

  pub position_first : (n : ℕ) (l : List SenderRecord) → position p (take n l) ≡ cond (some_of p n l) (Some (first_place p n l)) None
  position_first n l = rw (place_is n l, some_is n l) refl

-- ---- what is found of a sender

module _ (s : ℕ) (l : List SenderRecord) where
  -- the place of the first that names it
  known_at : (i : ℕ) → position (names s) (take 64 l) ≡ Some i → (knows s l ≡ true) × (first_place (names s) 64 l ≡ i)
  known_at i e =
      cases (knows s l)
      (λ k. let f : Some (first_place (names s) 64 l) ≡ Some i = rw k at (sym (position_first (names s) 64 l) ∙ e) in (k, (cc)))
      (λ k. let f : ◌≡◌ {A = Option ℕ} None (Some i) = rw k at (sym (position_first (names s) 64 l) ∙ e) in absurd (cc))

  pub found_known : (i : ℕ) (d : SenderRecord) → position (names s) (take 64 l) ≡ Some i
      → record { place = Some i; counter = Some (get_or l i d).counter } ≡ found s l
  unfolding found
  found_known i d e =
      let k = known_at i e in
      rw (k.0, stored_first s 64 l d k.0, k.1) refl

  pub found_unknown : position (names s) (take 64 l) ≡ None → record { place = position is_free (take 64 l); counter = None } ≡ found s l
  unfolding found
  found_unknown e =
      cases (knows s l)
      (λ k. let f : Some (first_place (names s) 64 l) ≡ None = rw k at (sym (position_first (names s) 64 l) ∙ e) in absurd (cc))
      (λ k. rw (k, stored_unknown s 64 l k, position_first is_free 64 l) refl)

-- ---- noting, by what is found

module _ (s c : ℕ) (l : List SenderRecord) (f : Found) (e : f ≡ found s l) where
  -- there is a place
  noted_at : (i : ℕ) → f.place ≡ Some i
      → note s c l ≡ record { answer = record { refusal = 0; earlier = f.counter }; list = set l i (record_of s c) }
  unfolding found
  noted_at i p =
      let q : (found s l).place ≡ Some i = ap (λ (g : Found). g.place) (sym e) ∙ p in
      rw e (note_cases s l
      (λ k. let g : Some (first_place (names s) 64 l) ≡ Some i = rw k at q in
      let at : first_place (names s) 64 l ≡ i = (cc) in
      note_known s c l k ∙ rw (first_set (names s) (record_of s c) 64 l k, at) refl)
      (λ k h. let g : Some (first_place is_free 64 l) ≡ Some i = rw (k, h) at q in
      let at : first_place is_free 64 l ≡ i = (cc) in
      note_new s c l k h ∙ rw (first_set is_free (record_of s c) 64 l h, at) refl)
      (λ k h. let g : ◌≡◌ {A = Option ℕ} None (Some i) = rw (k, h) at q in absurd (cc)))

  pub noted_answer : (i : ℕ) → f.place ≡ Some i → record { refusal = 0; earlier = f.counter } ≡ (note s c l).answer
  noted_answer i p = rw (noted_at i p) refl

  pub noted_list : (i : ℕ) → f.place ≡ Some i → set l i (record_of s c) ≡ (note s c l).list
  noted_list i p = rw (noted_at i p) refl

  -- there is none
  pub noted_nowhere : f.place ≡ None → note s c l ≡ note_nothing 24 l
  unfolding found
  noted_nowhere p =
      let q : (found s l).place ≡ None = ap (λ (g : Found). g.place) (sym e) ∙ p in
      note_cases s l
      (λ k. let g : Some (first_place (names s) 64 l) ≡ None = rw k at q in absurd (cc))
      (λ k h. let g : Some (first_place is_free 64 l) ≡ None = rw (k, h) at q in absurd (cc))
      (λ k h. note_full s c l k h)
