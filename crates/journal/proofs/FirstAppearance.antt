-- The senders that records make stand in the order of their first records, and recovery's list has them in its first places, with zeros behind
-- them. By induction on the records, and along the list. Assumes nothing.
use mathlib.Core.Path.{◌≡◌, refl, sym, ap, ◌∙◌}
use mathlib.Core.Bool.{true, false, true≢false, false≢true}
use mathlib.Core.List.{List, [], ◌∷◌, ◌++◌, append-nil, append_assoc}
use Prim.Native.Nat.{ℕ, zero, suc, ◌<◌, ◌≤◌}
use native.Mathlib.Omega.{arith}
use lib.Dec.{eqb}
use lib.ListN.{length, get_or}
use borrow.Author.Tests.{eqb-true, eq-eqb}
use borrow.Table.Steps.{cases}
use Rattle.senders.specs.declared.SenderRecord.{SenderRecord}
use Rattle.senders.specs.Records.{names, free_record}
use Rattle.senders.specs.Senders.{counted_places}
use Rattle.senders.proofs.Finding.{counted_within, counted_64}
use Rattle.journal.specs.declared.format.JournalRecord.{JournalRecord}
use Rattle.journal.specs.Format.{records}
use Rattle.journal.specs.Recovery.{State, blank, noted, senders_after, applied, applied_all, state_of, anew}
use Rattle.journal.specs.Claims.{among, appearing, FilledByFirstAppearance, LeftOverZeroed}
use Rattle.journal.proofs.SendersOnce.{Once, names_marked, once_state, filled_anew, room}

-- ---- along the records

abbrev addresses : List SenderRecord → List ℕ
addresses [] = []
addresses (r ∷ l) = r.address ∷ addresses l

length_addresses : (l : List SenderRecord) → length (addresses l) ≡ length l
length_addresses [] = refl
length_addresses (r ∷ l) = ap suc (length_addresses l)

module _ (s c : ℕ) where
  noted_known : (l : List SenderRecord) → among s (addresses l) ≡ true → addresses (noted s c l) ≡ addresses l
  unfolding noted
  noted_known [] h = absurd (false≢true h)
  noted_known (r ∷ l) h =
      cases (eqb r.address s)
      (λ e. rw e (ap (λ (x : ℕ). x ∷ addresses l) (sym (eqb-true r.address s e))))
      (λ e. rw e (ap (λ (xs : List ℕ). r.address ∷ xs) (noted_known l (rw e at h))))

  noted_new : (l : List SenderRecord) → among s (addresses l) ≡ false → addresses (noted s c l) ≡ addresses l ++ (s ∷ [])
  unfolding noted
  noted_new [] h = refl
  noted_new (r ∷ l) h =
      cases (eqb r.address s) (λ e. absurd (true≢false (rw e at h))) (λ e. rw e (ap (λ (xs : List ℕ). r.address ∷ xs) (noted_new l (rw e at h))))

appear_all : (rs : List JournalRecord) (g : State)
    → addresses (applied_all rs g).senders ≡ addresses g.senders ++ appearing (addresses g.senders) rs
unfolding applied_all senders_after appearing
appear_all [] g = sym (append-nil (addresses g.senders))
appear_all (JournalRecord.Ceiling c ∷ rs) g = appear_all rs (applied (JournalRecord.Ceiling c) g)
appear_all (JournalRecord.Sender s c ∷ rs) g =
    let xs = addresses g.senders in
    let after = appear_all rs (applied (JournalRecord.Sender s c) g) in
    cases (among s xs)
    (λ e. rw e (rw (noted_known s c g.senders e) at after))
    (λ e. rw e ((rw (noted_new s c g.senders e) at after) ∙ append_assoc xs (s ∷ []) _))
appear_all (JournalRecord.KeyNumber k ∷ rs) g = appear_all rs (applied (JournalRecord.KeyNumber k) g)

pub appear : (j : List ℕ) → addresses (state_of j).senders ≡ appearing [] (records j)
unfolding state_of
appear j = appear_all (records j) blank

-- ---- along the list, of which n places count

named_at : (n : ℕ) (ss l : List SenderRecord) (i : ℕ) (d : SenderRecord) → Once ss → i < length ss → length ss ≤ n → length ss ≤ length l
    → names (get_or (addresses ss) i 0) (get_or (anew n ss l) i d) ≡ true
unfolding anew
named_at n [] l i d o h a b = absurd (omega arith)
named_at zero (r ∷ ss) l i d o h a b = absurd (omega arith)
named_at (suc n) (r ∷ ss) [] i d o h a b = absurd (omega arith)
named_at (suc n) (r ∷ ss) (x ∷ l) zero d o h a b = names_marked r.address r o.0 ∙ eq-eqb r.address r.address refl
named_at (suc n) (r ∷ ss) (x ∷ l) (suc i) d o h a b = named_at n ss l i d o.1.1 (omega arith) (omega arith) (omega arith)

zeroed_at : (n : ℕ) (ss l : List SenderRecord) (i : ℕ) (d : SenderRecord) → length ss ≤ i → i < n → i < length l → get_or (anew n ss l) i d ≡ free_record
unfolding anew
zeroed_at zero ss l i d h a b = absurd (omega arith)
zeroed_at (suc n) ss [] i d h a b = absurd (omega arith)
zeroed_at (suc n) [] (x ∷ l) zero d h a b = refl
zeroed_at (suc n) [] (x ∷ l) (suc i) d h a b = zeroed_at n [] l i d (omega arith) (omega arith) (omega arith)
zeroed_at (suc n) (r ∷ ss) (x ∷ l) zero d h a b = absurd (omega arith)
zeroed_at (suc n) (r ∷ ss) (x ∷ l) (suc i) d h a b = zeroed_at n ss l i d (omega arith) (omega arith) (omega arith)

-- ---- the claims

how_many : (j : List ℕ) → length (appearing [] (records j)) ≡ length (state_of j).senders
how_many j = ap length (sym (appear j)) ∙ length_addresses (state_of j).senders

pub filled_by_first_appearance : FilledByFirstAppearance
filled_by_first_appearance j l z =
    let m = room j l z in (
      omega (arith, m, how_many j),
      λ i d h. rw (← appear j, filled_anew j l z)
          (named_at counted_places (state_of j).senders l i d (once_state j) (omega (arith, h, how_many j)) (omega (arith, m, counted_64 (length l)))
          (omega (arith, m, counted_within (length l)))),
    )

pub left_over_zeroed : LeftOverZeroed
left_over_zeroed j l i d z h b =
    rw (filled_anew j l z)
    (zeroed_at counted_places (state_of j).senders l i d (omega (arith, h, how_many j)) (omega (arith, b, counted_64 (length l))) (omega (arith, b, counted_within (length l))))
