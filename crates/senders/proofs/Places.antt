-- The places that count: whether one of them meets a test, by index, and that those past them do not matter.
-- Assumes nothing.
use Rattle.std.specs.Prelude.{Some}
use mathlib.Core.Path.{◌≡◌, refl, ap}
use mathlib.Core.Bool.{Bool, false, cond, ◌||◌}
use mathlib.Core.List.{List, [], ◌∷◌, ◌++◌}
use Prim.Native.Nat.{ℕ, zero, suc, ◌≤◌, ◌<◌}
use native.Mathlib.Omega.{arith}
use lib.ListN.{length, get_or}
use borrow.Table.Steps.{cases}
use Rattle.octets.proofs.Conditions.{or_false}
use Rattle.senders.specs.declared.SenderRecord.{SenderRecord}
use Rattle.senders.specs.Records.{names, kept}
use Rattle.senders.specs.Senders.{some_of, first_replaced, stored_in, forgotten_in}

module _ (p : SenderRecord → Bool) where
  -- ---- by index

  -- no counted record meets p
  abbrev pub None : ℕ → List SenderRecord → Type 0
  None n l = (i : ℕ) (d : SenderRecord) → i < n → i < length l → p (get_or l i d) ≡ false

  pub none_of : (n : ℕ) (l : List SenderRecord) → some_of p n l ≡ false → None n l
  unfolding some_of
  none_of zero l h i d a b = absurd (omega arith)
  none_of (suc n) [] h i d a b = absurd (omega arith)
  none_of (suc n) (r ∷ l) h zero d a b = (or_false (p r) (some_of p n l) h).0
  none_of (suc n) (r ∷ l) h (suc i) d a b = none_of n l (or_false (p r) (some_of p n l) h).1 i d (omega arith) (omega arith)

  pub of_none : (n : ℕ) (l : List SenderRecord) → None n l → some_of p n l ≡ false
  unfolding some_of
  of_none zero l h = refl
  of_none (suc n) [] h = refl
  of_none (suc n) (r ∷ l) h =
      rw (h 0 r (omega arith) (omega arith)) (of_none n l (λ i d a b. h (suc i) d (omega arith) (omega arith)))

  -- ---- places past those that count

  pub some_past : (past : List SenderRecord) (n : ℕ) (l : List SenderRecord) → n ≤ length l → some_of p n (l ++ past) ≡ some_of p n l
  unfolding some_of
  some_past past zero l h = refl
  some_past past (suc n) [] h = absurd (omega arith)
  some_past past (suc n) (r ∷ l) h = ap (λ (b : Bool). p r || b) (some_past past n l (omega arith))

  pub replaced_past : (x : SenderRecord) (past : List SenderRecord) (n : ℕ) (l : List SenderRecord) → n ≤ length l
      → first_replaced p x n (l ++ past) ≡ first_replaced p x n l ++ past
  unfolding first_replaced
  replaced_past x past zero l h = refl
  replaced_past x past (suc n) [] h = absurd (omega arith)
  replaced_past x past (suc n) (r ∷ l) h =
      cases (p r) (λ e. rw e refl) (λ e. rw e (ap (λ (t : List SenderRecord). r ∷ t) (replaced_past x past n l (omega arith))))

module _ (s : ℕ) (past : List SenderRecord) where
  pub stored_past : (n : ℕ) (l : List SenderRecord) → n ≤ length l → stored_in s n (l ++ past) ≡ stored_in s n l
  unfolding stored_in
  stored_past zero l h = refl
  stored_past (suc n) [] h = absurd (omega arith)
  stored_past (suc n) (r ∷ l) h = ap (cond (names s r) (Some r.counter)) (stored_past n l (omega arith))

  pub forgotten_past : (n : ℕ) (l : List SenderRecord) → n ≤ length l → forgotten_in s n (l ++ past) ≡ forgotten_in s n l ++ past
  unfolding forgotten_in
  forgotten_past zero l h = refl
  forgotten_past (suc n) [] h = absurd (omega arith)
  forgotten_past (suc n) (r ∷ l) h = ap (λ (t : List SenderRecord). kept s r ∷ t) (forgotten_past n l (omega arith))
