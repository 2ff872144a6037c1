-- Which senders a record names, and the counter that a list stores for one.
-- Assumes nothing.
use Rattle.std.specs.Prelude.{Option, Some, None}
use mathlib.Core.Path.{◌≡◌, refl, sym, subst, ◌∙◌}
use mathlib.Core.Bool.{Bool, true, false, not, ◌&&◌, false≢true}
use mathlib.Core.List.{List, [], ◌∷◌}
use Prim.Native.Nat.{ℕ, zero, suc}
use lib.Dec.{eqb}
use borrow.Author.Tests.{eqb-true, eq-eqb, ne_eqb}
use borrow.Table.Steps.{cases}
use Rattle.senders.specs.declared.SenderRecord.{SenderRecord}
use Rattle.senders.specs.Records.{is_free, names, record_of}
use Rattle.senders.specs.Senders.{some_of, stored_in}

-- ---- one record

and_true : (a b : Bool) → (a && b) ≡ true → b ≡ true
and_true true b e = e
and_true false b e = absurd (false≢true e)

pub names_its_sender : (s c : ℕ) → names s (record_of s c) ≡ true
names_its_sender s c = eq-eqb s s refl

pub names_no_other : (s t c : ℕ) → (t ≡ s → ⊥) → names t (record_of s c) ≡ false
names_no_other s t c h = ne_eqb s t (λ e. h (sym e))

names_address : (s : ℕ) (r : SenderRecord) → names s r ≡ true → r.address ≡ s
names_address s r e = eqb-true r.address s (and_true (not (is_free r)) (eqb r.address s) e)

-- two senders are not named by one record
pub names_one : (s t : ℕ) (r : SenderRecord) → (t ≡ s → ⊥) → names s r ≡ true → names t r ≡ false
names_one s t r h e =
    cases (names t r) (λ k. absurd (h (sym (names_address t r k) ∙ names_address s r e))) (λ k. k)

pub free_names_none : (t : ℕ) (r : SenderRecord) → is_free r ≡ true → names t r ≡ false
free_names_none t r e = rw e refl

-- ---- a list's counter for s is there exactly where it names s

abbrev IsPresent : Option ℕ → Type 0
IsPresent None = ⊥
IsPresent (Some c) = Unit {0}

pub present_absent : (c : ℕ) → Some c ≡ None → ⊥
present_absent c e = subst IsPresent e tt

module _ (s : ℕ) where
  pub stored_unknown : (n : ℕ) (l : List SenderRecord) → some_of (names s) n l ≡ false → stored_in s n l ≡ None
  unfolding some_of stored_in
  stored_unknown zero l h = refl
  stored_unknown (suc n) [] h = refl
  stored_unknown (suc n) (r ∷ l) h =
      cases (names s r) (λ e. absurd (false≢true (sym h ∙ rw e refl))) (λ e. rw e (stored_unknown n l (rw e at h)))

  pub unknown_stored : (n : ℕ) (l : List SenderRecord) → stored_in s n l ≡ None → some_of (names s) n l ≡ false
  unfolding some_of stored_in
  unknown_stored zero l h = refl
  unknown_stored (suc n) [] h = refl
  unknown_stored (suc n) (r ∷ l) h =
      cases (names s r) (λ e. absurd (present_absent r.counter (rw e at h))) (λ e. rw e (unknown_stored n l (rw e at h)))

  pub known_stored : (c n : ℕ) (l : List SenderRecord) → stored_in s n l ≡ Some c → some_of (names s) n l ≡ true
  known_stored c n l h =
      cases (some_of (names s) n l) (λ e. e) (λ e. absurd (present_absent c (sym h ∙ stored_unknown n l e)))
