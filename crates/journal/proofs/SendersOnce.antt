-- The senders that records make are named once each, with their last counters, and recovery's list stores just them. By induction on the
-- records, and along the list. Assumes nothing.
use Rattle.std.specs.Prelude.{Option, Some, None}
use mathlib.Core.Path.{◌≡◌, refl, sym, ap, subst, ◌∙◌}
use mathlib.Core.Bool.{Bool, true, false, cond, true≢false}
use mathlib.Core.List.{List, [], ◌∷◌}
use Prim.Native.Nat.{ℕ, zero, suc, ◌<◌, ◌≤◌}
use native.Mathlib.Omega.{arith}
use lib.Dec.{eqb}
use lib.ListN.{length, get_or}
use borrow.Author.Tests.{eqb-true, eqb-false, ne_eqb, ltb-false}
use borrow.Table.Steps.{cases}
use Rattle.octets.proofs.Conditions.{accepted, none, unless_either}
use Rattle.senders.specs.declared.SenderRecord.{SenderRecord}
use Rattle.senders.specs.Records.{names}
use Rattle.senders.specs.Senders.{counted_places, counted, stored_in, stored}
use Rattle.senders.proofs.Finding.{counted_within, counted_64}
use Rattle.journal.specs.declared.format.JournalRecord.{JournalRecord}
use Rattle.journal.specs.Format.{records}
use Rattle.journal.specs.Recovery.{State, blank, noted, senders_after, applied, applied_all, state_of, anew, recover_refusal, recovered_list}
use Rattle.journal.specs.Claims.{last_of, LastCounterIsStored, EachSenderOnce, PlacesBehindStay}

-- the counter of s among senders
abbrev pub counter_of : ℕ → List SenderRecord → Option ℕ
counter_of s [] = None
counter_of s (r ∷ l) = cond (eqb r.address s) (Some r.counter) (counter_of s l)

-- ---- senders, each marked and named once

abbrev pub Once : List SenderRecord → Type 0
Once [] = Unit {0}
Once (r ∷ l) = (r.used ≡ 1) × ((counter_of r.address l ≡ None) × Once l)

counter_noted : (s t c : ℕ) (l : List SenderRecord) → counter_of s (noted t c l) ≡ cond (eqb t s) (Some c) (counter_of s l)
unfolding noted
counter_noted s t c [] = refl
counter_noted s t c (r ∷ l) =
    cases (eqb r.address t)
    (λ e. rw e (cases (eqb t s) (λ f. rw f refl) (λ f. rw (f, (subst (λ (x : ℕ). eqb x s ≡ false) (sym (eqb-true r.address t e)) f)) refl)))
    (λ e. rw e (cases (eqb r.address s)
    (λ f. rw (f, ne_eqb t s (λ q. eqb-false r.address t e (eqb-true r.address s f ∙ sym q))) refl)
    (λ f. rw f (counter_noted s t c l))))

once_noted : (s c : ℕ) (l : List SenderRecord) → Once l → Once (noted s c l)
unfolding noted
once_noted s c [] o = (refl, (refl, tt))
once_noted s c (r ∷ l) o =
    cases (eqb r.address s)
    (λ e. rw e (refl, (subst (λ (x : ℕ). counter_of x l ≡ None) (eqb-true r.address s e) o.1.0, o.1.1)))
    (λ e. rw e (o.0, (counter_noted r.address s c l ∙ rw (ne_eqb s r.address (λ q. eqb-false r.address s e (sym q))) o.1.0, once_noted s c l o.1.1)))

-- ---- along the records

once_all : (rs : List JournalRecord) (g : State) → Once g.senders → Once (applied_all rs g).senders
unfolding applied_all senders_after
once_all [] g o = o
once_all (JournalRecord.Ceiling c ∷ rs) g o = once_all rs (applied (JournalRecord.Ceiling c) g) o
once_all (JournalRecord.Sender s c ∷ rs) g o = once_all rs (applied (JournalRecord.Sender s c) g) (once_noted s c g.senders o)
once_all (JournalRecord.KeyNumber k ∷ rs) g o = once_all rs (applied (JournalRecord.KeyNumber k) g) o

pub last_all : (s : ℕ) (rs : List JournalRecord) (g : State) → counter_of s (applied_all rs g).senders ≡ last_of s (counter_of s g.senders) rs
unfolding applied_all senders_after last_of
last_all s [] g = refl
last_all s (JournalRecord.Ceiling c ∷ rs) g = last_all s rs (applied (JournalRecord.Ceiling c) g)
last_all s (JournalRecord.Sender t c ∷ rs) g =
    last_all s rs (applied (JournalRecord.Sender t c) g) ∙ ap (λ (o : Option ℕ). last_of s o rs) (counter_noted s t c g.senders)
last_all s (JournalRecord.KeyNumber k ∷ rs) g = last_all s rs (applied (JournalRecord.KeyNumber k) g)

-- ---- along the list, of which n places count

pub names_marked : (s : ℕ) (r : SenderRecord) → r.used ≡ 1 → names s r ≡ eqb r.address s
names_marked s r e = rw e refl

stored_anew : (s n : ℕ) (ss l : List SenderRecord) → Once ss → length ss ≤ n → length ss ≤ length l → stored_in s n (anew n ss l) ≡ counter_of s ss
unfolding anew stored_in
stored_anew s zero [] l o h g = refl
stored_anew s zero (r ∷ ss) l o h g = absurd (omega (arith, h))
stored_anew s (suc n) [] [] o h g = refl
stored_anew s (suc n) [] (x ∷ l) o h g = stored_anew s n [] l tt (omega arith) (omega arith)
stored_anew s (suc n) (r ∷ ss) [] o h g = absurd (omega (arith, g))
stored_anew s (suc n) (r ∷ ss) (x ∷ l) o h g =
    rw (names_marked s r o.0) (cases (eqb r.address s) (λ e. rw e refl) (λ e. rw e (stored_anew s n ss l o.1.1 (omega (arith, h)) (omega (arith, g)))))

-- a counter is not none
abbrev is_there : Option ℕ → Bool
is_there None = false
is_there (Some c) = true

pub there : (c : ℕ) → Some c ≡ None → ⊥
there c e = true≢false (ap is_there e)

-- where a place names s, s is one of the senders
named : (s n : ℕ) (ss l : List SenderRecord) (i : ℕ) (d : SenderRecord) → Once ss → i < n → i < length l → names s (get_or (anew n ss l) i d) ≡ true
    → counter_of s ss ≡ None → ⊥
unfolding anew
named s zero ss l i d o h g e a = omega (arith, h)
named s (suc n) ss [] i d o h g e a = omega (arith, g)
named s (suc n) [] (x ∷ l) zero d o h g e a = true≢false (sym e)
named s (suc n) [] (x ∷ l) (suc i) d o h g e a = named s n [] l i d tt (omega (arith, h)) (omega (arith, g)) e refl
named s (suc n) (r ∷ ss) (x ∷ l) zero d o h g e a =
    let f : eqb r.address s ≡ true = sym (names_marked s r o.0) ∙ e in there r.counter (rw f at a)
named s (suc n) (r ∷ ss) (x ∷ l) (suc i) d o h g e a =
    cases (eqb r.address s) (λ f. there r.counter (rw f at a))
    (λ f. named s n ss l i d o.1.1 (omega (arith, h)) (omega (arith, g)) e (rw f at a))

-- and no other place does
module _ (s : ℕ) (d : SenderRecord) where
  -- the first of the senders is s, and a place behind it names s too
  twice : (n : ℕ) (r : SenderRecord) (ss l : List SenderRecord) (i : ℕ) → Once (r ∷ ss) → i < n → i < length l → names s r ≡ true
      → names s (get_or (anew n ss l) i d) ≡ true → ⊥
  twice n r ss l i o h g e f =
      let a : r.address ≡ s = eqb-true r.address s (sym (names_marked s r o.0) ∙ e) in
      named s n ss l i d o.1.1 h g f (subst (λ (x : ℕ). counter_of x ss ≡ None) a o.1.0)

  one_place : (n : ℕ) (ss l : List SenderRecord) (i k : ℕ) → Once ss → i < n → k < n → i < length l → k < length l
      → names s (get_or (anew n ss l) i d) ≡ true → names s (get_or (anew n ss l) k d) ≡ true → i ≡ k
  unfolding anew
  one_place zero ss l i k o h h' g g' e f = absurd (omega (arith, h))
  one_place (suc n) ss [] i k o h h' g g' e f = absurd (omega (arith, g))
  one_place (suc n) [] (x ∷ l) i k o h h' g g' e f = absurd (named s (suc n) [] (x ∷ l) i d tt h g e refl)
  one_place (suc n) (r ∷ ss) (x ∷ l) zero zero o h h' g g' e f = refl
  one_place (suc n) (r ∷ ss) (x ∷ l) zero (suc k) o h h' g g' e f = absurd (twice n r ss l k o (omega (arith, h')) (omega (arith, g')) e f)
  one_place (suc n) (r ∷ ss) (x ∷ l) (suc i) zero o h h' g g' e f = absurd (twice n r ss l i o (omega (arith, h)) (omega (arith, g)) f e)
  one_place (suc n) (r ∷ ss) (x ∷ l) (suc i) (suc k) o h h' g g' e f =
      ap suc (one_place n ss l i k o.1.1 (omega (arith, h)) (omega (arith, h')) (omega (arith, g)) (omega (arith, g')) e f)

behind_stay : (n : ℕ) (ss l : List SenderRecord) (i : ℕ) (d : SenderRecord) → n ≤ i → get_or (anew n ss l) i d ≡ get_or l i d
unfolding anew
behind_stay zero ss l i d h = refl
behind_stay (suc n) ss [] i d h = refl
behind_stay (suc n) ss (x ∷ l) zero d h = absurd (omega (arith, h))
behind_stay (suc n) [] (x ∷ l) (suc i) d h = behind_stay n [] l i d (omega (arith, h))
behind_stay (suc n) (r ∷ ss) (x ∷ l) (suc i) d h = behind_stay n ss l i d (omega (arith, h))

-- ---- the claims

pub once_state : (j : List ℕ) → Once (state_of j).senders
unfolding state_of
once_state j = once_all (records j) blank tt

-- a list that was filled
module _ (j : List ℕ) (l : List SenderRecord) (z : recover_refusal j (length l) ≡ 0) where
  pub filled_anew : recovered_list j l ≡ anew counted_places (state_of j).senders l
  unfolding recovered_list
  filled_anew = accepted (recover_refusal j (length l)) _ l z

  pub room : length (state_of j).senders ≤ counted (length l)
  unfolding recover_refusal
  room = ltb-false (counted (length l)) (length (state_of j).senders) (none _ z).1.0

  -- it stores each sender's counter
  pub stored_counter : (s : ℕ) → stored s (recovered_list j l) ≡ counter_of s (state_of j).senders
  stored_counter s =
      ap (stored s) filled_anew
      ∙ stored_anew s counted_places (state_of j).senders l (once_state j) (omega (arith, room, counted_64 (length l))) (omega (arith, room, counted_within (length l)))

pub last_counter_is_stored : LastCounterIsStored
unfolding state_of
last_counter_is_stored j l s z = stored_counter j l z s ∙ last_all s (records j) blank

pub each_sender_once : EachSenderOnce
each_sender_once j l s i k d z h h' g g' =
    rw (filled_anew j l z) (one_place s d counted_places (state_of j).senders l i k (once_state j) h h' g g')

pub places_behind_stay : PlacesBehindStay
unfolding recovered_list
places_behind_stay j l i d h =
    unless_either (λ (m : List SenderRecord). get_or m i d ≡ get_or l i d) (recover_refusal j (length l)) _ l
    (λ _. behind_stay counted_places (state_of j).senders l i d h) refl
