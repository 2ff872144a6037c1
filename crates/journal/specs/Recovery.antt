-- What recovery takes from a journal (document 02, 6): the largest ceiling, or 0; each sender once, by first appearance, with its last
-- counter; the last key number, or none; and the length of the complete records. It fills the list of senders anew.
-- Assumes nothing.
use Rattle.std.specs.Prelude.{ℕ, zero, suc, cond, List, [], ◌∷◌, eqb, ltb, length, Option, Some, None, Result, Ok, Err}
use Rattle.octets.specs.declared.refusals.Refusal.{Refusal}
use Rattle.octets.specs.Refusals.{unless, on, first_of, number_of}
use Rattle.senders.specs.declared.SenderRecord.{SenderRecord}
use Rattle.senders.specs.Records.{record_of, free_record}
use Rattle.senders.specs.Senders.{counted_places, counted}
use Rattle.journal.specs.declared.{format.JournalRecord.JournalRecord, Recovery.Recovery}
use Rattle.journal.specs.Format.{records, unknown_kind, complete_length}

-- ---- the state that records make

pub record State : Type 0 where
  pub ceiling : ℕ
  pub key_number : Option ℕ
  pub senders : List SenderRecord

-- of an empty journal
abbrev pub blank : State
blank = record { ceiling = 0; key_number = None; senders = [] }

abbrev pub larger : ℕ → ℕ → ℕ
larger a b = cond (ltb a b) b a

-- the senders once s has the counter c: in its place, or behind the others if it is new
unfoldable pub noted : ℕ → ℕ → List SenderRecord → List SenderRecord
noted s c [] = record_of s c ∷ []
noted s c (r ∷ l) = cond (eqb r.address s) (record_of s c ∷ l) (r ∷ noted s c l)

-- what one more record makes of each part of the state
unfoldable pub ceiling_after : JournalRecord → ℕ → ℕ
ceiling_after (JournalRecord.Ceiling c) x = larger x c
ceiling_after (JournalRecord.Sender s c) x = x
ceiling_after (JournalRecord.KeyNumber k) x = x

unfoldable pub key_number_after : JournalRecord → Option ℕ → Option ℕ
key_number_after (JournalRecord.Ceiling c) o = o
key_number_after (JournalRecord.Sender s c) o = o
key_number_after (JournalRecord.KeyNumber k) o = Some k

unfoldable pub senders_after : JournalRecord → List SenderRecord → List SenderRecord
senders_after (JournalRecord.Ceiling c) l = l
senders_after (JournalRecord.Sender s c) l = noted s c l
senders_after (JournalRecord.KeyNumber k) l = l

-- the state with one more record applied
abbrev pub applied : JournalRecord → State → State
applied r g =
    record {
      ceiling = ceiling_after r g.ceiling;
      key_number = key_number_after r g.key_number;
      senders = senders_after r g.senders;
    }

unfoldable pub applied_all : List JournalRecord → State → State
applied_all [] g = g
applied_all (r ∷ rs) g = applied_all rs (applied r g)

-- of a journal: its complete records in order
unfoldable pub state_of : List ℕ → State
state_of j = applied_all (records j) blank

-- ---- recovery

-- 25 is looked for over the whole journal, then 24: a 65th sender, or one past the list's places
unfoldable pub recover_refusal : List ℕ → ℕ → ℕ
recover_refusal j places = first_of (on 25 (unknown_kind j) ∷ on 24 (ltb (counted places) (length (state_of j).senders)) ∷ [])

-- a list of which n places count, filled anew: the senders in order, then zeros
unfoldable pub anew : ℕ → List SenderRecord → List SenderRecord → List SenderRecord
anew zero ss l = l
anew (suc n) ss [] = []
anew (suc n) [] (x ∷ l) = free_record ∷ anew n [] l
anew (suc n) (s ∷ ss) (x ∷ l) = s ∷ anew n ss l

-- what recovery answers: a refusal's number alone; or 0, the largest ceiling (0 if none), the last key number or none, and the
-- length of the complete records
pub record Recovered : Type 0 where
  pub refusal : ℕ
  pub ceiling : ℕ
  pub key_number : Option ℕ
  pub complete : ℕ

abbrev pub recover_given : List ℕ → Recovered
recover_given j = record { refusal = 0; ceiling = (state_of j).ceiling; key_number = (state_of j).key_number; complete = complete_length j }

abbrev pub recover_nothing : ℕ → Recovered
recover_nothing n = record { refusal = n; ceiling = 0; key_number = None; complete = 0 }

-- recovery's answer, of the code's
abbrev pub told_recovered : Result Recovery Refusal → Recovered
told_recovered (Ok r) = record { refusal = 0; ceiling = r.ceiling; key_number = r.key_number; complete = r.complete }
told_recovered (Err r) = recover_nothing (number_of r)

-- for the journal and the list's places
unfoldable pub recover_answer : List ℕ → ℕ → Recovered
recover_answer j places = unless (recover_refusal j places) (recover_given j) (recover_nothing (recover_refusal j places))

-- refused, the list is as it was
unfoldable pub recovered_list : List ℕ → List SenderRecord → List SenderRecord
recovered_list j l = unless (recover_refusal j (length l)) (anew counted_places (state_of j).senders l) l
