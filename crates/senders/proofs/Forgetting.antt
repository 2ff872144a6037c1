-- Laws of forgetting a sender, each by induction on the places that count.
-- Assumes nothing.
use Rattle.std.specs.Prelude.{Some, None}
use mathlib.Core.Path.{◌≡◌, refl, sym, ap, ◌∙◌}
use mathlib.Core.Bool.{Bool, true, false, cond, ◌||◌, false≢true}
use mathlib.Core.List.{List, [], ◌∷◌, ◌++◌}
use Prim.Native.Nat.{ℕ, zero, suc, ◌+◌, ◌<◌, ◌≤◌, min}
use native.Mathlib.Omega.{arith}
use lib.Dec.{ltb}
use lib.ListN.{length, get_or, set, take, drop}
use Rattle.std.proofs.Common.{add-one}
use borrow.Author.Tests.{ltb-true, ltb-false}
use borrow.Table.Steps.{cases}
use Rattle.octets.proofs.Conditions.{or_false}
use Rattle.senders.specs.declared.SenderRecord.{SenderRecord}
use Rattle.senders.specs.Records.{is_free, names, free_record, kept}
use Rattle.senders.specs.Senders.{some_of, stored_in, forgotten_in, forget}
use Rattle.senders.proofs.Naming.{names_one}

module _ (s : ℕ) where
  -- ---- one record

  kept_other : (r : SenderRecord) → names s r ≡ false → kept s r ≡ r
  unfolding kept
  kept_other r e = ap (λ (b : Bool). cond b free_record r) e

  kept_own : (r : SenderRecord) → names s r ≡ true → kept s r ≡ free_record
  unfolding kept
  kept_own r e = ap (λ (b : Bool). cond b free_record r) e

  kept_names : (r : SenderRecord) → names s (kept s r) ≡ false
  kept_names r =
      cases (names s r) (λ e. ap (names s) (kept_own r e)) (λ e. ap (names s) (kept_other r e) ∙ e)

  -- ---- a list

  pub length_forgotten : (n : ℕ) (l : List SenderRecord) → length (forgotten_in s n l) ≡ length l
  unfolding forgotten_in
  length_forgotten zero l = refl
  length_forgotten (suc n) [] = refl
  length_forgotten (suc n) (r ∷ l) = ap suc (length_forgotten n l)

  pub get_or_forgotten : (n : ℕ) (l : List SenderRecord) (i : ℕ) (d : SenderRecord) → names s (get_or l i d) ≡ false
      → get_or (forgotten_in s n l) i d ≡ get_or l i d
  unfolding forgotten_in
  get_or_forgotten zero l i d h = refl
  get_or_forgotten (suc n) [] i d h = refl
  get_or_forgotten (suc n) (r ∷ l) zero d h = kept_other r h
  get_or_forgotten (suc n) (r ∷ l) (suc i) d h = get_or_forgotten n l i d h

  pub zeros_forgotten : (n : ℕ) (l : List SenderRecord) (i : ℕ) (d : SenderRecord) → i < n → i < length l → names s (get_or l i d) ≡ true
      → get_or (forgotten_in s n l) i d ≡ free_record
  unfolding forgotten_in kept
  zeros_forgotten zero l i d h b e = absurd (omega (arith, h))
  zeros_forgotten (suc n) [] i d h b e = absurd (omega (arith, b))
  zeros_forgotten (suc n) (r ∷ l) zero d h b e = rw e refl
  zeros_forgotten (suc n) (r ∷ l) (suc i) d h b e = zeros_forgotten n l i d (omega (arith, h)) (omega (arith, b)) e

  pub stored_forgotten : (n : ℕ) (l : List SenderRecord) → stored_in s n (forgotten_in s n l) ≡ None
  unfolding forgotten_in stored_in
  stored_forgotten zero l = refl
  stored_forgotten (suc n) [] = refl
  stored_forgotten (suc n) (r ∷ l) = rw (kept_names r) (stored_forgotten n l)

  pub other_forgotten : (t : ℕ) → (t ≡ s → ⊥) → (n : ℕ) (l : List SenderRecord) → stored_in t n (forgotten_in s n l) ≡ stored_in t n l
  unfolding forgotten_in stored_in
  other_forgotten t h zero l = refl
  other_forgotten t h (suc n) [] = refl
  other_forgotten t h (suc n) (r ∷ l) =
      cases (names s r)
      (λ e. rw (kept_own r e, names_one s t r h e) (other_forgotten t h n l))
      (λ e. rw (kept_other r e) (ap (cond (names t r) (Some r.counter)) (other_forgotten t h n l)))

  pub forgotten_twice : (n : ℕ) (l : List SenderRecord) → forgotten_in s n (forgotten_in s n l) ≡ forgotten_in s n l
  unfolding forgotten_in
  forgotten_twice zero l = refl
  forgotten_twice (suc n) [] = refl
  forgotten_twice (suc n) (r ∷ l) = λ i. kept_other (kept s r) (kept_names r) i ∷ forgotten_twice n l i

  pub unknown_forgotten : (n : ℕ) (l : List SenderRecord) → some_of (names s) n l ≡ false → forgotten_in s n l ≡ l
  unfolding forgotten_in some_of
  unknown_forgotten zero l h = refl
  unknown_forgotten (suc n) [] h = refl
  unknown_forgotten (suc n) (r ∷ l) h =
      let o = or_false (names s r) (some_of (names s) n l) h in
      λ i. kept_other r o.0 i ∷ unknown_forgotten n l o.1 i

  -- a place that named the sender is free
  pub forgotten_free : (n : ℕ) (l : List SenderRecord) → some_of (names s) n l ≡ true → some_of is_free n (forgotten_in s n l) ≡ true
  unfolding forgotten_in some_of
  forgotten_free zero l h = absurd (false≢true h)
  forgotten_free (suc n) [] h = absurd (false≢true h)
  forgotten_free (suc n) (r ∷ l) h =
      cases (names s r)
      (λ e. rw (kept_own r e) refl)
      (λ e. rw (kept_other r e) (or_right (is_free r) _ (forgotten_free n l (rw e at h))))
    where
      or_right : (a b : Bool) → b ≡ true → (a || b) ≡ true
      or_right true b e = refl
      or_right false b e = e

  -- ---- place by place: xs with the sender forgotten in its first i places

  -- the record behind them is as it was
  behind_forgotten : (i : ℕ) (xs : List SenderRecord) (d : SenderRecord) → get_or (forgotten_in s i xs) i d ≡ get_or xs i d
  unfolding forgotten_in
  behind_forgotten zero xs d = refl
  behind_forgotten (suc i) [] d = refl
  behind_forgotten (suc i) (r ∷ xs) d = behind_forgotten i xs d

  pub forgotten_none : (xs : List SenderRecord) → xs ≡ forgotten_in s 0 xs
  unfolding forgotten_in
  forgotten_none xs = refl

  forgotten_next : (i : ℕ) (xs : List SenderRecord) (d : SenderRecord) → i < length xs
      → set (forgotten_in s i xs) i (kept s (get_or (forgotten_in s i xs) i d)) ≡ forgotten_in s (suc i) xs
  unfolding forgotten_in
  forgotten_next zero [] d h = absurd (omega (arith, h))
  forgotten_next zero (r ∷ xs) d h = refl
  forgotten_next (suc i) [] d h = absurd (omega (arith, h))
  forgotten_next (suc i) (r ∷ xs) d h = ap (λ (m : List SenderRecord). kept s r ∷ m) (forgotten_next i xs d (omega (arith, h)))

  module _ (i : ℕ) (xs ys : List SenderRecord) (d : SenderRecord) (e : ys ≡ forgotten_in s i xs) (h : i < length xs) where
    pub forgotten_own : names s (get_or ys i d) ≡ true → set ys i free_record ≡ forgotten_in s (i + 1) xs
    forgotten_own k = rw (add-one, ← kept_own (get_or ys i d) k, e) (forgotten_next i xs d h)

    pub forgotten_other : names s (get_or ys i d) ≡ false → set ys i (get_or ys i d) ≡ forgotten_in s (i + 1) xs
    forgotten_other k = ap (set ys i) (sym (kept_other (get_or ys i d) k)) ∙ rw (add-one, e) (forgotten_next i xs d h)

  -- all of the first n, with what is behind them
  forgotten_front : (i n : ℕ) (l : List SenderRecord) → length (take n l) ≤ i → forgotten_in s i (take n l) ++ drop n l ≡ forgotten_in s n l
  unfolding forgotten_in
  forgotten_front zero zero l h = refl
  forgotten_front (suc i) zero l h = refl
  forgotten_front zero (suc n) [] h = refl
  forgotten_front (suc i) (suc n) [] h = refl
  forgotten_front zero (suc n) (r ∷ l) h = absurd (omega (arith, h))
  forgotten_front (suc i) (suc n) (r ∷ l) h = ap (λ (m : List SenderRecord). kept s r ∷ m) (forgotten_front i n l (omega (arith, h)))

  forgotten_enough : (n : ℕ) (l : List SenderRecord) → length l ≤ n → forgotten_in s (length l) l ≡ forgotten_in s n l
  unfolding forgotten_in
  forgotten_enough zero [] h = refl
  forgotten_enough zero (r ∷ l) h = absurd (omega (arith, h))
  forgotten_enough (suc n) [] h = refl
  forgotten_enough (suc n) (r ∷ l) h = ap (λ (m : List SenderRecord). kept s r ∷ m) (forgotten_enough n l (omega (arith, h)))

  pub forgotten_counted : (i n : ℕ) (l : List SenderRecord) → n ≡ min (length l) 64 → length (take n l) ≤ i
      → forgotten_in s i (take n l) ++ drop n l ≡ forget s l
  unfolding forget
  forgotten_counted i n l e h =
      forgotten_front i n l h
      ∙ cases (ltb (length l) 64)
      (λ c. let k : n ≡ length l = omega (arith, e, ltb-true (length l) 64 c) in
      rw k (forgotten_enough 64 l (omega (arith, ltb-true (length l) 64 c))))
      (λ c. let k : n ≡ 64 = omega (arith, e, ltb-false (length l) 64 c) in rw k refl)
