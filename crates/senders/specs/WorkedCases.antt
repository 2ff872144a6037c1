-- Readings of document 02, 5 at its edges, as one table. What a row says of the definitions is `Holds`; that every row holds is
-- one claim, in proofs/WorkedCases.antt.
-- Assumes nothing.
use Rattle.std.specs.Prelude.{◌≡◌, List, [], ◌∷◌, ◌++◌, ℕ, replicate, Option, Some, None}
use Rattle.types.specs.declared.Key.{Key}
use Rattle.types.specs.Keys.{key}
use Rattle.senders.specs.declared.SenderRecord.{SenderRecord}
use Rattle.senders.specs.Records.{record_of, free_record}
use Rattle.senders.specs.Senders.{ask_refused, inbound_network_key, note_nothing, note, forget}

-- ---- the rows

pub data Case : Type 0 where
  -- asking with a list for a sender by a key sequence number and a counter gives the active key
  gives : List SenderRecord → ℕ → ℕ → ℕ → Case
  -- it refuses by a number
  refuses : List SenderRecord → ℕ → ℕ → ℕ → ℕ → Case
  -- noting in a list for a sender a counter gives the earlier counter, and leaves a list
  notes : List SenderRecord → ℕ → ℕ → Option ℕ → List SenderRecord → Case
  -- it refuses by a number, and changes nothing
  note_refuses : List SenderRecord → ℕ → ℕ → ℕ → Case
  -- forgetting in a list a sender leaves a list
  forgets : List SenderRecord → ℕ → List SenderRecord → Case

-- the active key, and its number
abbrev pub active_key : Key
active_key = key (replicate 16 0xA5)

abbrev pub active : ℕ
active = 5

-- what a row says: the operation's whole answer and, where it may change, the whole list
abbrev pub Holds : Case → Type 0
Holds (gives l s k c) = inbound_network_key active_key active l s k c ≡ record { refusal = 0; key = active_key }
Holds (refuses l s k c n) = inbound_network_key active_key active l s k c ≡ ask_refused n
Holds (notes l s c o after) = note s c l ≡ record { answer = record { refusal = 0; earlier = o }; list = after }
Holds (note_refuses l s c n) = note s c l ≡ note_nothing n l
Holds (forgets l s after) = forget s l ≡ after

abbrev pub AllHold : List Case → Type 0
AllHold [] = Unit {0}
AllHold (c ∷ cs) = Holds c × AllHold cs

-- ---- what the rows name

-- a sender's address, and another's
abbrev pub probe : ℕ
probe = 0x00124B0001020304

abbrev pub other : ℕ
other = 0x00124B0005060708

-- a record of the probe's address and the counter 1000, with a mark
abbrev pub marked : ℕ → SenderRecord
marked mark = record { address = probe; counter = 1000; used = mark }

-- the probe's record alone, and with a second one behind it
abbrev pub once : List SenderRecord
once = record_of probe 1000 ∷ []

abbrev pub twice : List SenderRecord
twice = record_of probe 1000 ∷ record_of probe 2000 ∷ []

-- a probe that noted the last counter
abbrev pub exhausted : List SenderRecord
exhausted = record_of probe 0xFFFFFFFF ∷ []

-- the other sender in all counted places, and a 65th place
abbrev pub behind64 : SenderRecord → List SenderRecord
behind64 r = replicate 64 (record_of other 7) ++ (r ∷ [])

-- ---- the table

unfoldable pub worked : List Case
worked =
    -- the last counter is refused for every sender, behind a wrong key number
    refuses [] probe active 0xFFFFFFFF 23
    ∷ refuses [] probe 4 0xFFFFFFFF 22
    ∷ gives [] probe active 0xFFFFFFFE
    ∷ gives [] probe active 0
    -- a stored counter is passed or refused
    ∷ refuses once probe active 1000 23
    ∷ refuses once probe active 999 23
    ∷ gives once probe active 1001
    ∷ gives once other active 1000
    -- noting takes any counter, and after the last one nothing passes
    ∷ notes once probe 0xFFFFFFFF (Some 1000) exhausted
    ∷ refuses exhausted probe active 0 23
    ∷ refuses exhausted probe active 0xFFFFFFFE 23
    ∷ refuses exhausted probe active 0xFFFFFFFF 23
    ∷ notes once probe 999 (Some 1000) (record_of probe 999 ∷ [])
    -- address 0 with the mark is a sender
    ∷ refuses (record_of 0 7 ∷ []) 0 active 7 23
    ∷ notes (record_of 0 7 ∷ []) 0 8 (Some 7) (record_of 0 8 ∷ [])
    -- without the mark no address is one: all zeros, or one left over
    ∷ gives (free_record ∷ []) 0 active 0
    ∷ gives (marked 0 ∷ []) probe active 0
    ∷ notes (marked 0 ∷ []) probe 5 None (record_of probe 5 ∷ [])
    ∷ forgets (marked 0 ∷ []) probe (marked 0 ∷ [])
    -- of two records that name a sender the first counts; both are forgotten
    ∷ refuses twice probe active 1000 23
    ∷ gives twice probe active 1001
    ∷ notes twice probe 1500 (Some 1000) (record_of probe 1500 ∷ record_of probe 2000 ∷ [])
    ∷ forgets twice probe (free_record ∷ free_record ∷ [])
    -- a known sender keeps its record, though a free place stands before it
    ∷ notes (free_record ∷ once) probe 1001 (Some 1000) (free_record ∷ record_of probe 1001 ∷ [])
    -- any mark but 0 counts, and noting writes 1
    ∷ refuses (marked 255 ∷ []) probe active 1000 23
    ∷ notes (marked 255 ∷ []) probe 1001 (Some 1000) (record_of probe 1001 ∷ [])
    -- the 65th place neither names nor is free
    ∷ gives (behind64 (record_of probe 1000)) probe active 0
    ∷ forgets (behind64 (record_of probe 1000)) probe (behind64 (record_of probe 1000))
    ∷ note_refuses (behind64 (record_of probe 1000)) probe 1001 24
    ∷ note_refuses (behind64 free_record) probe 1001 24
    ∷ note_refuses [] probe 1001 24
    -- an earlier counter of 0 is there, and a new sender has none
    ∷ notes (record_of probe 0 ∷ []) probe 1 (Some 0) (record_of probe 1 ∷ [])
    ∷ notes (record_of other 7 ∷ free_record ∷ []) probe 1 None (record_of other 7 ∷ record_of probe 1 ∷ [])
    ∷ []
