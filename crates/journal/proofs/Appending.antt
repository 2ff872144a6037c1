-- What stands behind the complete records of a journal is read apart from them: its records come behind theirs, and its kinds alone decide
-- whether one is unknown. By induction along the bytes, some of which belong to a body. Assumes nothing.
use mathlib.Core.Path.{◌≡◌, refl, sym, ap, ◌∙◌}
use mathlib.Core.Bool.{true, true≢false}
use mathlib.Core.List.{List, [], ◌∷◌, ◌++◌}
use Prim.Native.Nat.{ℕ, zero, suc, ◌+◌, ◌<◌, ◌≤◌}
use native.Mathlib.Omega.{arith}
use native.Mathlib.Nat.{zero-add}
use lib.Dec.{leb}
use lib.ListN.{length, get_or, take, length-append, length-take, get_or-append}
use lib.Seq.{get_or-take}
use borrow.Author.Tests.{leb-true, le-leb}
use borrow.Table.Steps.{cases}
use Rattle.octets.specs.Numbers.{le_at}
use Rattle.octets.proofs.Numbers.{le_at_same}
use Rattle.journal.specs.declared.format.JournalRecord.{JournalRecord}
use Rattle.journal.specs.Format.{is_kind, body_length, record_at, record_bytes, kinds_from, records_from, records, some_unknown, unknown_kind, total_length, complete_length}
use Rattle.journal.specs.Recovery.{State, applied, applied_all}
use Rattle.journal.specs.Life.{complete_part}
use Rattle.journal.proofs.Bodies.{by_kind}
use Rattle.journal.proofs.Whole.{length_at}

-- ---- a record is read from its body alone

-- behind the byte k: n bytes from place m of a body on, where both bodies have them alike
number : (n m k : ℕ) (xs ys : List ℕ) → ((q : ℕ) → q < n → get_or xs (m + q) 0 ≡ get_or ys (m + q) 0) → le_at n (k ∷ xs) (suc m) ≡ le_at n (k ∷ ys) (suc m)
number n m k xs ys same = le_at_same n (k ∷ xs) (k ∷ ys) (suc m) (suc m) (λ q h. next xs q ∙ same q h ∙ sym (next ys q))
  where
    next : (l : List ℕ) (q : ℕ) → get_or (k ∷ l) (suc m + q) 0 ≡ get_or l (m + q) 0
    next l q = let e : suc m + q ≡ suc (m + q) = omega arith in rw e refl

module _ (xs ys : List ℕ) where
  abbrev Same : ℕ → Type 0
  Same k = is_kind k ≡ true → ((i : ℕ) → i < body_length k → get_or xs i 0 ≡ get_or ys i 0) → record_at (k ∷ xs) 0 ≡ record_at (k ∷ ys) 0

  record_same : (k : ℕ) → Same k
  unfolding record_at body_length
  record_same k =
      by_kind Same
      (λ _ same. λ t. JournalRecord.Ceiling (number 4 0 1 xs ys (λ q h. same (0 + q) (omega (arith, h))) t))
      (λ _ same. λ t. JournalRecord.Sender (number 8 0 2 xs ys (λ q h. same (0 + q) (omega (arith, h))) t) (number 4 8 2 xs ys (λ q h. same (8 + q) (omega (arith, h))) t))
      (λ _ same. ap JournalRecord.KeyNumber (same 0 (omega arith)))
      k (λ e _ w. absurd (true≢false (sym w ∙ e)))

-- ---- l, of which the first n bytes belong to a body, and t behind its complete records

-- the bytes up to the end of the complete records
abbrev up_to : ℕ → List ℕ → List ℕ
up_to n l = take (n + total_length (records_from n l)) l

whole_from : (k : ℕ) (l : List ℕ) → is_kind k ≡ true → body_length k ≤ length l → records (k ∷ l) ≡ record_at (k ∷ l) 0 ∷ records_from (body_length k) l
unfolding records_from
whole_from k l w h = rw (w, le-leb (body_length k) (length l) h)

kinds_from_lem : (k : ℕ) (l : List ℕ) → is_kind k ≡ true → unknown_kind (k ∷ l) ≡ some_unknown (kinds_from (body_length k) l)
unfolding kinds_from some_unknown
kinds_from_lem k l w = rw w

-- with a complete record at its front
up_to_whole : (k : ℕ) (l : List ℕ) → is_kind k ≡ true → body_length k ≤ length l → up_to 0 (k ∷ l) ≡ k ∷ up_to (body_length k) l
unfolding total_length
up_to_whole k l w h =
    let rs = records_from (body_length k) l in
    let e : 0 + (length (record_bytes (record_at (k ∷ l) 0)) + total_length rs) ≡ suc (body_length k + total_length rs) = omega (arith, length_at (k ∷ l) 0 w) in
    ap (λ (rs : List JournalRecord). take (0 + total_length rs) (k ∷ l)) (whole_from k l w h) ∙ ap (λ (n : ℕ). take n (k ∷ l)) e

module _ (t : List ℕ) where
  -- as long as the body is there
  long : (n m : ℕ) (l : List ℕ) → n ≤ length l → n ≤ m → n ≤ length (take m l ++ t)
  long n m l h g = rw (length-append (take m l) t, length-take m l) (omega (arith, h, g))

  alike : (n m : ℕ) (l : List ℕ) → n ≤ length l → n ≤ m → (i : ℕ) → i < n → get_or (take m l ++ t) i 0 ≡ get_or l i 0
  alike n m l h g i b =
      get_or-append (take m l) t 0 i (rw (length-take m l) (omega (arith, h, g, b))) ∙ get_or-take m l i 0 (omega (arith, g, b))

  -- the records of up_to with t behind it, and whether one of its kinds is unknown
  abbrev Both : ℕ → List ℕ → List ℕ → Type 0
  Both n l front = (records_from n (front ++ t) ≡ records_from n l ++ records t) × (some_unknown (kinds_from n (front ++ t)) ≡ unknown_kind t)

  -- at the byte k of a record that is complete, where the same is known behind it
  both_whole : (k : ℕ) (l : List ℕ) → is_kind k ≡ true → body_length k ≤ length l → Both (body_length k) l (up_to (body_length k) l) → Both 0 (k ∷ l) (up_to 0 (k ∷ l))
  both_whole k l w h behind =
      let m = body_length k + total_length (records_from (body_length k) l) in
      let body = take m l ++ t in
      rw (up_to_whole k l w h) (
        whole_from k body w (long (body_length k) m l h (omega arith))
            ∙ (λ x. record_same body l k w (alike (body_length k) m l h (omega arith)) x ∷ behind.0 x)
            ∙ ap (λ (rs : List JournalRecord). rs ++ records t) (sym (whole_from k l w h)),
        kinds_from_lem k body w ∙ behind.1,
      )

  both : (n : ℕ) (l : List ℕ) → n ≤ length l → Both n l (up_to n l)
  unfolding kinds_from records_from some_unknown total_length
  both zero [] h = (refl, refl)
  both zero (k ∷ l) h =
      cases (is_kind k)
      (λ w. cases (leb (body_length k) (length l))
      (λ e. both_whole k l w (leb-true (body_length k) (length l) e) (both (body_length k) l (leb-true (body_length k) (length l) e)))
      (λ e. rw (w, e) (refl, refl)))
      (λ w. rw w (refl, refl))
  both (suc n) [] h = absurd (omega (arith, h))
  both (suc n) (b ∷ l) h =
      let x = total_length (records_from n l) in
      let e : suc n + x ≡ suc (n + x) = omega arith in
      rw e (both n l (omega (arith, h)))

-- ---- a whole journal

module _ (j t : List ℕ) where
  front : complete_part j ≡ up_to 0 j
  front = ap (λ (n : ℕ). take n j) (sym (zero-add (complete_length j)))

  pub records_append : records (complete_part j ++ t) ≡ records j ++ records t
  records_append = rw front (both t 0 j (omega arith)).0

  pub unknown_append : unknown_kind (complete_part j ++ t) ≡ unknown_kind t
  unknown_append = rw front (both t 0 j (omega arith)).1

-- the complete records are no longer than the journal
total_within : (n : ℕ) (l : List ℕ) → n ≤ length l → n + total_length (records_from n l) ≤ length l
unfolding records_from total_length
total_within zero [] h = omega arith
total_within zero (k ∷ l) h =
    cases (is_kind k)
    (λ w. cases (leb (body_length k) (length l))
    (λ e. rw (w, e) (omega (arith, length_at (k ∷ l) 0 w, total_within (body_length k) l (leb-true (body_length k) (length l) e))))
    (λ e. rw (w, e) (omega arith)))
    (λ w. rw w (omega arith))
total_within (suc n) [] h = absurd (omega (arith, h))
total_within (suc n) (b ∷ l) h = omega (arith, total_within n l (omega (arith, h)))

pub complete_within : (j : List ℕ) → complete_length j ≤ length j
complete_within j = omega (arith, total_within 0 j (omega arith))

-- ---- the state that records make

pub applied_append : (rs qs : List JournalRecord) (g : State) → applied_all (rs ++ qs) g ≡ applied_all qs (applied_all rs g)
unfolding applied_all
applied_append [] qs g = refl
applied_append (r ∷ rs) qs g = applied_append rs qs (applied r g)
