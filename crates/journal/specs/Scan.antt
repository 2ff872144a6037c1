-- What one pass over a journal gathers: it goes from record to record, and keeps the senders in a table.
-- Assumes nothing.
use Rattle.std.specs.Prelude.{ℕ, cond, ◌&&◌, List, [], ◌∷◌, ◌++◌, eqb, leb, length, take, Option, Some, None, Result, Ok, Err}
use Rattle.std.specs.Option.{option_map, option_and_then}
use Rattle.std.specs.Int.{w64, swap_bytes}
use Rattle.std.specs.List.Sorted.{IsPermutation, IsNonDecreasingBy}
use Rattle.octets.specs.declared.refusals.Refusal.{Refusal}
use Rattle.senders.specs.declared.SenderRecord.{SenderRecord}
use Rattle.journal.specs.declared.{Recovery.Recovery, format.Kind.Kind, format.JournalRecord.JournalRecord}
use Rattle.journal.specs.Format.{is_kind, body_length, record_at, unknown_kind, complete_length}
use Rattle.journal.specs.Recovery.{state_of, noted}
use Rattle.journal.specs.Shrinking.{key_number_records, ceiling_records, sender_records}

-- ---- the kinds

-- the kind of a byte, or refusal 25
abbrev pub kind_of : ℕ → Result Kind Refusal
kind_of k = cond (eqb k 1) (Ok Kind.Ceiling) (cond (eqb k 2) (Ok Kind.Sender) (cond (eqb k 3) (Ok Kind.KeyNumber) (Err Refusal.JournalKind)))

-- its byte
abbrev pub byte_of : Kind → ℕ
byte_of Kind.Ceiling = 1
byte_of Kind.Sender = 2
byte_of Kind.KeyNumber = 3

-- the kind of a record
abbrev pub kind_in : JournalRecord → Kind
kind_in (JournalRecord.Ceiling c) = Kind.Ceiling
kind_in (JournalRecord.Sender s c) = Kind.Sender
kind_in (JournalRecord.KeyNumber k) = Kind.KeyNumber

-- the record at the front, if a complete one of a known kind stands there
unfoldable pub first_record : List ℕ → Option JournalRecord
first_record [] = None
first_record (k ∷ l) = cond (is_kind k && leb (body_length k) (length l)) (Some (record_at (k ∷ l) 0)) None

-- ---- the table: its places, and how many of them hold senders, or none where there were more senders than places

-- the senders that it holds
abbrev pub held : Option ℕ → List SenderRecord → Option (List SenderRecord)
held n xs = option_map (λ m. take m xs) n

-- senders, if there are so many places
abbrev pub within : ℕ → List SenderRecord → Option (List SenderRecord)
within places ss = cond (leb (length ss) places) (Some ss) None

-- once s has the counter c too
abbrev pub with_sender : ℕ → ℕ → ℕ → Option (List SenderRecord) → Option (List SenderRecord)
with_sender places s c o = option_and_then (λ ss. within places (noted s c ss)) o

-- and once a record was seen
abbrev pub with_record : ℕ → JournalRecord → Option (List SenderRecord) → Option (List SenderRecord)
with_record places (JournalRecord.Ceiling c) o = o
with_record places (JournalRecord.Sender s c) o = with_sender places s c o
with_record places (JournalRecord.KeyNumber k) o = o

-- the same senders by the numbers that their address bytes make, the first byte highest
pub record Sorts (ss ts : List SenderRecord) : Type 0 where
  pub same : IsPermutation ss ts
  pub rising : IsNonDecreasingBy (λ (r : SenderRecord). swap_bytes w64 r.address) ts

-- of what tables hold
abbrev pub SortsHeld : Option (List SenderRecord) → Option (List SenderRecord) → Type 0
SortsHeld None None = Unit {0}
SortsHeld None (Some ts) = ⊥
SortsHeld (Some ss) None = ⊥
SortsHeld (Some ss) (Some ts) = Sorts ss ts

-- ---- the whole pass

-- what it finds of a journal, beside the senders
abbrev pub found_in : List ℕ → Recovery
found_in j = record { ceiling = (state_of j).ceiling; key_number = (state_of j).key_number; complete = complete_length j }

-- what it answers: refusal 25, or what it finds
unfoldable pub gathered : List ℕ → Result Recovery Refusal
gathered j = cond (unknown_kind j) (Err Refusal.JournalKind) (Ok (found_in j))

-- ---- shrinking

-- the records of a shrunk journal, with the senders in the order in which they are written
abbrev pub shrunk_of : Recovery → List SenderRecord → List JournalRecord
shrunk_of f ss = key_number_records f.key_number ++ (ceiling_records f.ceiling ++ sender_records ss)
