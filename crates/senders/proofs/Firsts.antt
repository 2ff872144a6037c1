-- The first of a list's counted records that meets a test: its place, and the list with another record there.
-- Assumes nothing.
use Rattle.std.specs.Prelude.{Some}
use mathlib.Core.Path.{◌≡◌, refl, ap}
use mathlib.Core.Bool.{Bool, true, false, cond, false≢true, ◌||◌}
use mathlib.Core.List.{List, [], ◌∷◌, ◌++◌}
use Prim.Native.Nat.{ℕ, zero, suc, ◌<◌}
use native.Mathlib.Omega.{arith}
use lib.ListN.{length, get_or, set}
use borrow.Table.Steps.{cases}
use Rattle.octets.proofs.Conditions.{or_false}
use Rattle.senders.specs.declared.SenderRecord.{SenderRecord}
use Rattle.senders.specs.Records.{names}
use Rattle.senders.specs.Senders.{some_of, first_place, first_replaced, stored_in}

or_true : (b : Bool) → (b || true) ≡ true
or_true true = refl
or_true false = refl

module _ (p : SenderRecord → Bool) where
  -- it counts, and it is a place of the list
  pub first_below : (n : ℕ) (l : List SenderRecord) → some_of p n l ≡ true → (first_place p n l < n) × (first_place p n l < length l)
  unfolding some_of first_place
  first_below zero l h = absurd (false≢true h)
  first_below (suc n) [] h = absurd (false≢true h)
  first_below (suc n) (r ∷ l) h =
      cases (p r) (λ e. rw e (omega arith)) (λ e. let below = first_below n l (rw e at h) in rw e (omega arith))

  -- the record there meets p
  pub first_meets : (n : ℕ) (l : List SenderRecord) (d : SenderRecord) → some_of p n l ≡ true → p (get_or l (first_place p n l) d) ≡ true
  unfolding some_of first_place
  first_meets zero l d h = absurd (false≢true h)
  first_meets (suc n) [] d h = absurd (false≢true h)
  first_meets (suc n) (r ∷ l) d h =
      cases (p r) (λ e. rw e e) (λ e. rw e (first_meets n l d (rw e at h)))

  -- another record there
  pub first_set : (x : SenderRecord) (n : ℕ) (l : List SenderRecord) → some_of p n l ≡ true → first_replaced p x n l ≡ set l (first_place p n l) x
  unfolding some_of first_place first_replaced
  first_set x zero l h = absurd (false≢true h)
  first_set x (suc n) [] h = absurd (false≢true h)
  first_set x (suc n) (r ∷ l) h =
      cases (p r) (λ e. rw e refl) (λ e. rw e (ap (λ (t : List SenderRecord). r ∷ t) (first_set x n l (rw e at h))))

  -- another sender's counter, where neither the new record nor one that meets p is its
  pub stored_other : (t : ℕ) (x : SenderRecord) → names t x ≡ false → ((r : SenderRecord) → p r ≡ true → names t r ≡ false)
      → (n : ℕ) (l : List SenderRecord) → stored_in t n (first_replaced p x n l) ≡ stored_in t n l
  unfolding first_replaced stored_in
  stored_other t x a b zero l = refl
  stored_other t x a b (suc n) [] = refl
  stored_other t x a b (suc n) (r ∷ l) =
      cases (p r)
      (λ e. rw e (rw (a, b r e) refl))
      (λ e. rw e (ap (cond (names t r) (Some r.counter)) (stored_other t x a b n l)))

  -- the sender's own, where no record named it before
  pub stored_new : (s : ℕ) (x : SenderRecord) → names s x ≡ true
      → (n : ℕ) (l : List SenderRecord) → some_of (names s) n l ≡ false → some_of p n l ≡ true
      → stored_in s n (first_replaced p x n l) ≡ Some x.counter
  unfolding first_replaced stored_in some_of
  stored_new s x a zero l k h = absurd (false≢true h)
  stored_new s x a (suc n) [] k h = absurd (false≢true h)
  stored_new s x a (suc n) (r ∷ l) k h =
      cases (p r)
      (λ e. rw e (rw a refl))
      (λ e. let o = or_false (names s r) (some_of (names s) n l) k in rw (e, o.0) (stored_new s x a n l o.1 (rw e at h)))

-- it has the counter that the list stores for s
pub stored_first : (s n : ℕ) (l : List SenderRecord) (d : SenderRecord) → some_of (names s) n l ≡ true
    → stored_in s n l ≡ Some (get_or l (first_place (names s) n l) d).counter
unfolding some_of first_place stored_in
stored_first s zero l d h = absurd (false≢true h)
stored_first s (suc n) [] d h = absurd (false≢true h)
stored_first s (suc n) (r ∷ l) d h = cases (names s r) (λ e. rw e refl) (λ e. rw e (stored_first s n l d (rw e at h)))

-- the sender's own, over its first record
pub stored_own : (s : ℕ) (x : SenderRecord) → names s x ≡ true
    → (n : ℕ) (l : List SenderRecord) → some_of (names s) n l ≡ true
    → stored_in s n (first_replaced (names s) x n l) ≡ Some x.counter
unfolding first_replaced stored_in some_of
stored_own s x a zero l h = absurd (false≢true h)
stored_own s x a (suc n) [] h = absurd (false≢true h)
stored_own s x a (suc n) (r ∷ l) h =
    cases (names s r) (λ e. rw e (rw a refl)) (λ e. rw e (rw e (stored_own s x a n l (rw e at h))))

-- a record r that meets p, behind records of which none does: it is found, and another takes its place
module _ (p : SenderRecord → Bool) (r : SenderRecord) (meets : p r ≡ true) (behind : List SenderRecord) where
  pub some_there : (n : ℕ) (before : List SenderRecord) → length before < n → some_of p n (before ++ (r ∷ behind)) ≡ true
  unfolding some_of
  some_there zero before h = absurd (omega (arith, h))
  some_there (suc n) [] h = rw meets refl
  some_there (suc n) (x ∷ before) h = rw (some_there n before (omega (arith, h))) (or_true (p x))

  pub replaced_there : (y : SenderRecord) (n : ℕ) (before : List SenderRecord) → length before < n → some_of p n before ≡ false
      → first_replaced p y n (before ++ (r ∷ behind)) ≡ before ++ (y ∷ behind)
  unfolding some_of first_replaced
  replaced_there y zero before h k = absurd (omega (arith, h))
  replaced_there y (suc n) [] h k = rw meets refl
  replaced_there y (suc n) (x ∷ before) h k =
      let o = or_false (p x) (some_of p n before) k in
      rw o.0 (ap (λ (t : List SenderRecord). x ∷ t) (replaced_there y n before (omega (arith, h)) o.1))

pub stored_there : (s : ℕ) (r : SenderRecord) → names s r ≡ true → (behind : List SenderRecord) (n : ℕ) (before : List SenderRecord) → length before < n
    → some_of (names s) n before ≡ false → stored_in s n (before ++ (r ∷ behind)) ≡ Some r.counter
unfolding some_of stored_in
stored_there s r e behind zero before h k = absurd (omega (arith, h))
stored_there s r e behind (suc n) [] h k = rw e refl
stored_there s r e behind (suc n) (x ∷ before) h k =
    let o = or_false (names s x) (some_of (names s) n before) k in rw o.0 (stored_there s r e behind n before (omega (arith, h)) o.1)
