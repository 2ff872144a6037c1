-- Writing the next record of a journal, and the next outgoing counter (document 02, 6).
-- Assumes nothing.
use Rattle.std.specs.Prelude.{ℕ, suc, Bool, false, cond, not, ◌||◌, List, [], ◌∷◌, eqb, leb, ltb, length, Result, Ok, Err}
use Rattle.octets.specs.declared.refusals.Refusal.{Refusal}
use Rattle.octets.specs.Refusals.{unless, on, first_of, number_of}
use Rattle.octets.specs.Writing.{Run, written}
use Rattle.senders.specs.Senders.{counted_places}
use Rattle.journal.specs.declared.format.JournalRecord.{JournalRecord}
use Rattle.journal.specs.Format.{is_kind, record_bytes, records, unknown_kind}
use Rattle.journal.specs.Recovery.{applied, state_of}

-- ---- writing a record: its kind, and a sender, a counter (or ceiling) and a key number, of which the kind takes its own

unfoldable pub record_of_kind : ℕ → ℕ → ℕ → ℕ → JournalRecord
record_of_kind kind s c k = cond (eqb kind 1) (JournalRecord.Ceiling c) (cond (eqb kind 2) (JournalRecord.Sender s c) (JournalRecord.KeyNumber k))

-- for the journal, the new record's kind, the record, and the output's length
unfoldable pub write_refusal : List ℕ → ℕ → JournalRecord → ℕ → ℕ
write_refusal j kind r room =
    first_of
    (on 25 (unknown_kind j || not (is_kind kind)) ∷ on 24 (ltb counted_places (length (applied r (state_of j)).senders))
    ∷ on 18 (ltb room (length (record_bytes r))) ∷ [])

-- the record alone at the front of the output
unfoldable pub write_record : List ℕ → ℕ → ℕ → ℕ → ℕ → List ℕ → Run
write_record j kind s c k o =
    written (write_refusal j kind (record_of_kind kind s c k) (length o)) (record_bytes (record_of_kind kind s c k)) o

-- ---- the next counter: one more than the last

-- a ceiling record is no lower than n
unfoldable pub some_ceiling : ℕ → List JournalRecord → Bool
some_ceiling n [] = false
some_ceiling n (JournalRecord.Ceiling c ∷ rs) = leb n c || some_ceiling n rs
some_ceiling n (JournalRecord.Sender s c ∷ rs) = some_ceiling n rs
some_ceiling n (JournalRecord.KeyNumber k ∷ rs) = some_ceiling n rs

-- behind FFFFFFFE there is no counter to hand out
unfoldable pub next_refusal : List ℕ → ℕ → ℕ
next_refusal j last =
    first_of (on 25 (unknown_kind j) ∷ on 26 (leb 0xFFFFFFFE last) ∷ on 27 (not (some_ceiling (suc last) (records j))) ∷ [])

-- what asking for the next counter answers: a refusal's number alone, or 0 and the counter
pub record NextCounter : Type 0 where
  pub refusal : ℕ
  pub counter : ℕ

abbrev pub next_given : ℕ → NextCounter
next_given last = record { refusal = 0; counter = suc last }

abbrev pub next_nothing : ℕ → NextCounter
next_nothing n = record { refusal = n; counter = 0 }

-- that answer, of the code's
abbrev pub told_next : Result ℕ Refusal → NextCounter
told_next (Ok n) = record { refusal = 0; counter = n }
told_next (Err r) = next_nothing (number_of r)

unfoldable pub next_counter : List ℕ → ℕ → NextCounter
next_counter j last = unless (next_refusal j last) (next_given last) (next_nothing (next_refusal j last))
