-- Keeping a sender in the table is noting it among the senders that the table holds: in its place, or behind them. Assumes nothing.
use Rattle.std.specs.Prelude.{Option, Some, None, position}
use Rattle.std.specs.List.{position_or_len}
use Rattle.std.proofs.Common.{◌≡◌, refl, sym, ap, ◌∙◌, Bool, true, false, cond, List, [], ◌∷◌, ◌++◌, ℕ, suc, ◌+◌, ◌<◌, ◌≤◌, eqb, ltb, length, set, take, arith, length-set, length-take, length-append}
use Rattle.std.proofs.Math.Numerals.{one-add}
use Rattle.std.proofs.Math.Seq.{take-set-lt}
use Rattle.std.proofs.lemmas.List.{take_more_set}
use lib.Dec.{leb-suc-suc}
use borrow.Author.Tests.{lt-ltb, le-leb, lt-leb}
use borrow.Table.Steps.{cases}
use Rattle.senders.specs.declared.SenderRecord.{SenderRecord}
use Rattle.senders.specs.Records.{record_of}
use Rattle.journal.specs.Recovery.{noted}
use Rattle.journal.specs.Scan.{held, within, with_sender}

module _ (s c : ℕ) where
  -- whether a record is the sender's
  abbrev is : SenderRecord → Bool
  is r = eqb r.address s

  -- its place, or the length
  abbrev place : List SenderRecord → ℕ
  place ss = position_or_len is ss

  abbrev stored_at : List SenderRecord → ℕ → List SenderRecord
  stored_at ss p = cond (ltb p (length ss)) (set ss p (record_of s c)) (ss ++ (record_of s c ∷ []))

  stored_next : (r : SenderRecord) (ss : List SenderRecord) (p : ℕ) → stored_at (r ∷ ss) (suc p) ≡ r ∷ stored_at ss p
  stored_next r ss p =
      ap (λ (b : Bool). cond b (r ∷ set ss p (record_of s c)) (r ∷ (ss ++ (record_of s c ∷ [])))) (leb-suc-suc (suc p) (length ss))
      ∙ either (ltb p (length ss))
    where
      either : (b : Bool) → cond b (r ∷ set ss p (record_of s c)) (r ∷ (ss ++ (record_of s c ∷ []))) ≡ r ∷ cond b (set ss p (record_of s c)) (ss ++ (record_of s c ∷ []))
      either true = refl
      either false = refl

  -- noting is storing the record at that place, or behind the others
  noted_at : (ss : List SenderRecord) → noted s c ss ≡ stored_at ss (place ss)
  unfolding noted
  noted_at [] = refl
  noted_at (r ∷ ss) =
      cases (eqb r.address s)
      (λ e. rw (e, lt-ltb 0 (suc (length ss)) (omega arith)) refl)
      (λ e. rw (e, one-add) (ap (λ (l : List SenderRecord). r ∷ l) (noted_at ss) ∙ sym (stored_next r ss (place ss))))

  noted_found : (ss : List SenderRecord) (i : ℕ) → position is ss ≡ Some i → noted s c ss ≡ set ss i (record_of s c)
  noted_found ss i e =
      noted_at ss
      ∙ cases (ltb (place ss) (length ss))
      (λ b. let q : Some (place ss) ≡ Some i = rw b at e in let p : place ss ≡ i = (cc) in rw (b, p) refl)
      (λ b. let q : ◌≡◌ {A = Option ℕ} None (Some i) = rw b at e in absurd (cc))

  noted_new : (ss : List SenderRecord) → position is ss ≡ None → noted s c ss ≡ ss ++ (record_of s c ∷ [])
  noted_new ss e =
      noted_at ss
      ∙ cases (ltb (place ss) (length ss))
      (λ b. let q : Some (place ss) ≡ None = rw b at e in absurd (cc))
      (λ b. rw b refl)

  -- noting never makes fewer
  pub noted_longer : (ss : List SenderRecord) → length ss ≤ length (noted s c ss)
  unfolding noted
  noted_longer [] = omega arith
  noted_longer (r ∷ ss) = cases (eqb r.address s) (λ e. rw e (omega arith)) (λ e. rw e (omega (arith, noted_longer ss)))

  -- ---- a table of which so many places may be filled, and the first n hold senders

  module _ (places n : ℕ) (xs : List SenderRecord) (h : places ≤ length xs) (k : n ≤ length xs) (l : length (take n xs) ≤ places) where
    filled : n ≤ places
    filled = omega (arith, l, k, length-take n xs)

    room_for : (ts : List SenderRecord) → length ts ≤ places → Some ts ≡ within places ts
    room_for ts q = rw (le-leb (length ts) places q) refl

    pub keep_found : (i : ℕ) → position is (take n xs) ≡ Some i → i < length (take n xs)
        → held (Some n) (set xs i (record_of s c)) ≡ with_sender places s c (held (Some n) xs)
    keep_found i e b =
        rw (noted_found (take n xs) i e)
        (ap Some (take-set-lt n xs i (record_of s c) (omega (arith, b, length-take n xs))) ∙ room_for (set (take n xs) i (record_of s c)) (simp (length-set, length-take) (omega (arith, filled))))

    pub keep_new : position is (take n xs) ≡ None → n < places → held (Some (n + 1)) (set xs n (record_of s c)) ≡ with_sender places s c (held (Some n) xs)
    keep_new e m =
        rw (noted_new (take n xs) e)
        (ap Some (take_more_set xs n (record_of s c) (omega arith)) ∙ room_for (take n xs ++ (record_of s c ∷ [])) (simp (length-append, length-take) (omega arith)))

    pub keep_full : position is (take n xs) ≡ None → places ≤ n → held None xs ≡ with_sender places s c (held (Some n) xs)
    keep_full e m =
        rw (noted_new (take n xs) e) (rw (lt-leb (length (take n xs ++ (record_of s c ∷ []))) places (simp (length-append, length-take) (omega arith))) refl)
