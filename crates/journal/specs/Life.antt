-- The life of a gateway over its journal (document 02, 6 and 7): what can happen to it, in any order and any number of times. What a call
-- refuses does not happen: the gateway is then as it was.
-- Assumes nothing.
use Rattle.std.specs.Prelude.{ℕ, ◌%◌, Bool, true, false, cond, List, [], ◌∷◌, ◌++◌, length, take, Option, Some, None}
use Rattle.octets.specs.Refusals.{unless}
use Rattle.octets.specs.Writing.{Run}
use Rattle.senders.specs.declared.SenderRecord.{SenderRecord}
use Rattle.journal.specs.Format.{complete_length}
use Rattle.journal.specs.Recovery.{Recovered, recover_answer}
use Rattle.journal.specs.Writing.{write_record, NextCounter, next_counter}
use Rattle.journal.specs.Shrinking.{shrink}

-- ---- a gateway

pub record Gateway : Type 0 where
  -- the bytes of the journal in the store
  pub stored : List ℕ
  -- the bytes beside it: a shrunk journal, a part of one, or one that was left over
  pub beside : List ℕ
  -- in memory: what is beside is complete, and nothing was appended to the journal since
  pub marked : Bool
  -- in memory: the last counter, or none before a recovery
  pub last : Option ℕ
  -- the counters handed out so far, in order
  pub handed : List ℕ

-- an empty store, the power off
abbrev pub begun : Gateway
begun = record { stored = []; beside = []; marked = false; last = None; handed = [] }

-- ---- what can happen to it

-- a record to be written: its kind, a sender, a counter and a key number, and the output lent for it
pub record Writing : Type 0 where
  pub kind : ℕ
  pub sender : ℕ
  pub counter : ℕ
  pub key_number : ℕ
  pub out : List ℕ

pub data Event : Type 0 where
  -- recovery, into a list of senders
  recovers : List SenderRecord → Event
  -- the journal is shortened to its complete records
  shortens : Event
  -- the record that the writer gives is appended to them, whole
  appends : Writing → Event
  -- the append fails after so many bytes of the record, and the power stays on
  fails_appending : Writing → ℕ → Event
  -- the power fails in the middle of an append, after so many bytes of the record
  cuts_appending : Writing → ℕ → Event
  -- garbage stands behind the complete records
  garbles : List ℕ → Event
  -- the next counter is handed out
  hands : Event
  -- the power fails at rest
  cuts : Event
  -- the shrunk journal is written beside the journal, whole, as it was given in an output lent for it
  shrinks : List ℕ → Event
  -- writing it fails after so many of its bytes, and the power stays on
  fails_shrinking : List ℕ → ℕ → Event
  -- the power fails while it is being written, after so many of its bytes
  cuts_shrinking : List ℕ → ℕ → Event
  -- the one beside takes the journal's place, in one step, if it has the mark
  replaces : Event

-- ---- what it leaves

-- the complete records of a journal, up to a kind that is none
abbrev pub complete_part : List ℕ → List ℕ
complete_part j = take (complete_length j) j

-- what the writer answers and leaves for a journal, and the record that it gave
abbrev pub writes : List ℕ → Writing → Run
writes j w = write_record j w.kind w.sender w.counter w.key_number w.out

abbrev pub given : Run → List ℕ
given r = take r.answer.length r.out

-- what is in memory is lost
abbrev pub off : Gateway → Gateway
off g = record { stored = g.stored; beside = g.beside; marked = false; last = None; handed = g.handed }

-- after a recovery the last counter is its ceiling
abbrev pub recovered : Recovered → Gateway → Gateway
recovered a g =
    unless a.refusal
    (record { stored = g.stored; beside = g.beside; marked = g.marked; last = Some a.ceiling; handed = g.handed }) g

-- the store has these bytes and those beside, with the mark or without it
abbrev pub storing : List ℕ → List ℕ → Bool → Gateway → Gateway
storing j b m g = record { stored = j; beside = b; marked = m; last = g.last; handed = g.handed }

-- these bytes stand behind the complete records, and the mark is cleared
abbrev pub behind : List ℕ → Gateway → Gateway
behind t g = storing (complete_part g.stored ++ t) g.beside false g

-- n bytes of what the writer gave stand there
abbrev pub appended : Run → ℕ → Gateway → Gateway
appended r n g = unless r.answer.refusal (behind (take n (given r)) g) g

-- garbage: numbers taken as bytes
abbrev pub as_bytes : List ℕ → List ℕ
as_bytes [] = []
as_bytes (b ∷ t) = b % 256 ∷ as_bytes t

-- one more counter was handed out
abbrev pub handed_out : NextCounter → Gateway → Gateway
handed_out a g =
    unless a.refusal
    (record {
      stored = g.stored;
      beside = g.beside;
      marked = g.marked;
      last = Some a.counter;
      handed = g.handed ++ (a.counter ∷ []);
    }) g

-- n bytes of what shrinking gave stand beside, with the mark or without it
abbrev pub shrunk_beside : Run → ℕ → Bool → Gateway → Gateway
shrunk_beside r n m g = unless r.answer.refusal (storing g.stored (take n (given r)) m g) g

-- no counter is handed out before a recovery
abbrev pub after_recovery : Option ℕ → (ℕ → Gateway) → Gateway → Gateway
after_recovery None f g = g
after_recovery (Some c) f g = f c

unfoldable pub after : Event → Gateway → Gateway
after (recovers l) g = recovered (recover_answer g.stored (length l)) g
after shortens g = storing (complete_part g.stored) g.beside g.marked g
after (appends w) g = let r = writes g.stored w in appended r (length (given r)) g
after (fails_appending w n) g = appended (writes g.stored w) n g
after (cuts_appending w n) g = off (appended (writes g.stored w) n g)
after (garbles t) g = behind (as_bytes t) g
after hands g = after_recovery g.last (λ c. handed_out (next_counter g.stored c) g) g
after cuts g = off g
after (shrinks o) g = let r = shrink g.stored o in shrunk_beside r (length (given r)) true g
after (fails_shrinking o n) g = shrunk_beside (shrink g.stored o) n false g
after (cuts_shrinking o n) g = off (shrunk_beside (shrink g.stored o) n false g)
after replaces g = cond g.marked (storing g.beside [] false g) g

-- a life: events one after the other
unfoldable pub after_all : List Event → Gateway → Gateway
after_all [] g = g
after_all (e ∷ es) g = after_all es (after e g)

abbrev pub life : List Event → Gateway
life es = after_all es begun
