-- Readings of document 02, 6 and 7, at their edges, as one table. What a row says of the definitions is `Holds`; that every row holds is one
-- claim, in proofs/WorkedCases.antt.
-- Assumes nothing.
use Rattle.std.specs.Prelude.{◌≡◌, List, [], ◌∷◌, ◌++◌, ℕ, zero, suc, length, replicate, take, Option, Some, None}
use Rattle.octets.specs.Writing.{wrote, wrote_nothing}
use Rattle.senders.specs.declared.SenderRecord.{SenderRecord}
use Rattle.senders.specs.Records.{record_of, free_record}
use Rattle.journal.specs.declared.format.JournalRecord.{JournalRecord}
use Rattle.journal.specs.Format.{record_bytes}
use Rattle.journal.specs.Recovery.{recover_nothing, recover_answer, recovered_list}
use Rattle.journal.specs.Writing.{write_record, next_given, next_nothing, next_counter}
use Rattle.journal.specs.Shrinking.{shrink}
use Rattle.journal.specs.Life.{Event, Writing, recovers, shortens, appends, fails_appending, cuts_appending, garbles, hands, cuts, shrinks, cuts_shrinking, replaces, life}

-- ---- the rows

pub data Case : Type 0 where
  -- recovering a journal into a list gives a ceiling, a key number or none, and the length of the complete records, and leaves a list
  gives : List ℕ → List SenderRecord → ℕ → Option ℕ → ℕ → List SenderRecord → Case
  -- it refuses by a number, and changes nothing
  refuses : List ℕ → List SenderRecord → ℕ → Case
  -- writing a record of a kind, a sender, a counter and a key number behind a journal gives bytes
  puts : List ℕ → ℕ → ℕ → ℕ → ℕ → List ℕ → List ℕ → Case
  -- it refuses by a number, and changes nothing
  put_refuses : List ℕ → ℕ → ℕ → ℕ → ℕ → List ℕ → ℕ → Case
  -- the next counter behind the last is one more
  nexts : List ℕ → ℕ → Case
  -- it is refused by a number
  next_refuses : List ℕ → ℕ → ℕ → Case
  -- shrinking a journal into an output gives bytes
  shrinks_to : List ℕ → List ℕ → List ℕ → Case
  -- it refuses by a number, and changes nothing
  shrink_refuses : List ℕ → List ℕ → ℕ → Case
  -- in a life these counters are handed out
  lives : List Event → List ℕ → Case

-- what a row says: the whole answer, and what is left of what was lent
abbrev pub Holds : Case → Type 0
Holds (gives j l c k n after) =
    (recover_answer j (length l) ≡ record { refusal = 0; ceiling = c; key_number = k; complete = n }) × (recovered_list j l ≡ after)
Holds (refuses j l n) = (recover_answer j (length l) ≡ recover_nothing n) × (recovered_list j l ≡ l)
Holds (puts j kind s c k o bs) = write_record j kind s c k o ≡ wrote bs o
Holds (put_refuses j kind s c k o n) = write_record j kind s c k o ≡ wrote_nothing n o
Holds (nexts j last) = next_counter j last ≡ next_given last
Holds (next_refuses j last n) = next_counter j last ≡ next_nothing n
Holds (shrinks_to j o bs) = shrink j o ≡ wrote bs o
Holds (shrink_refuses j o n) = shrink j o ≡ wrote_nothing n o
Holds (lives es cs) = (life es).handed ≡ cs

abbrev pub AllHold : List Case → Type 0
AllHold [] = Unit {0}
AllHold (c ∷ cs) = Holds c × AllHold cs

-- ---- what the rows name

-- two senders, and records of them
abbrev pub probe : ℕ
probe = 0x00124B0001020304

abbrev pub other : ℕ
other = 0x00124B0005060708

abbrev pub ceiling_record : ℕ → List ℕ
ceiling_record c = record_bytes (JournalRecord.Ceiling c)

abbrev pub sender_record : ℕ → ℕ → List ℕ
sender_record s c = record_bytes (JournalRecord.Sender s c)

-- a list of two places with something in them
abbrev pub used : List SenderRecord
used = record_of other 99 ∷ record_of other 98 ∷ []

-- a journal with a ceiling, a sender and a key number, and what it recovers to in that list, with n bytes of a record behind it
abbrev pub three : List ℕ
three = ceiling_record 7 ++ (sender_record probe 1000 ++ (3 ∷ 5 ∷ []))

abbrev pub part_of : List ℕ → ℕ → Case
part_of r n = gives (three ++ take n r) used 7 (Some 5) 20 (record_of probe 1000 ∷ free_record ∷ [])

-- n senders, one record each
unfoldable pub many : ℕ → List ℕ
many zero = []
many (suc n) = many n ++ sender_record n 7

-- the list of n such senders
unfoldable pub listed : ℕ → List SenderRecord
listed zero = []
listed (suc n) = listed n ++ (record_of n 7 ∷ [])

-- a record to be written in a life
abbrev pub ceiling_written : ℕ → Writing
ceiling_written c = record { kind = 1; sender = 0; counter = c; key_number = 0; out = replicate 5 0 }

-- ---- the table, in four parts

unfoldable pub recoveries : List Case
recoveries =
    -- an empty journal: no ceiling, no key number, and a list of zeros
    gives [] used 0 None 0 (free_record ∷ free_record ∷ [])
    ∷ gives [] [] 0 None 0 []
    -- each kind whole, byte by byte
    ∷ gives (1 ∷ 4 ∷ 3 ∷ 2 ∷ 1 ∷ []) [] 0x01020304 None 5 []
    ∷ gives (2 ∷ 8 ∷ 7 ∷ 6 ∷ 5 ∷ 4 ∷ 3 ∷ 2 ∷ 1 ∷ 4 ∷ 3 ∷ 2 ∷ 1 ∷ []) (free_record ∷ []) 0 None 13 (record_of 0x0102030405060708 0x01020304 ∷ [])
    ∷ gives (3 ∷ 0 ∷ []) [] 0 (Some 0) 2 []
    -- a record cut after each of its bytes: a ceiling, a sender, a key number
    ∷ part_of (ceiling_record 9) 0 ∷ part_of (ceiling_record 9) 1 ∷ part_of (ceiling_record 9) 2 ∷ part_of (ceiling_record 9) 3 ∷ part_of (ceiling_record 9) 4
    ∷ part_of (sender_record probe 2000) 1 ∷ part_of (sender_record probe 2000) 2 ∷ part_of (sender_record probe 2000) 3 ∷ part_of (sender_record probe 2000) 4
    ∷ part_of (sender_record probe 2000) 5 ∷ part_of (sender_record probe 2000) 6 ∷ part_of (sender_record probe 2000) 7 ∷ part_of (sender_record probe 2000) 8
    ∷ part_of (sender_record probe 2000) 9 ∷ part_of (sender_record probe 2000) 10 ∷ part_of (sender_record probe 2000) 11 ∷ part_of (sender_record probe 2000) 12
    ∷ part_of (3 ∷ 6 ∷ []) 1
    -- ceilings 5, 9, 7: the largest
    ∷ gives (ceiling_record 5 ++ (ceiling_record 9 ++ ceiling_record 7)) [] 9 None 15 []
    -- a sender twice: the place of the first, the counter of the second, even a lower one
    ∷ gives (sender_record probe 9 ++ (sender_record other 5 ++ sender_record probe 3)) used 0 None 39 (record_of probe 3 ∷ record_of other 5 ∷ [])
    -- key numbers 1 and 2: the last
    ∷ gives (3 ∷ 1 ∷ 3 ∷ 2 ∷ []) [] 0 (Some 2) 4 []
    -- kind 0, kind 4, and kind 4 as an incomplete last byte
    ∷ refuses (0 ∷ []) used 25 ∷ refuses (three ++ (4 ∷ 1 ∷ 2 ∷ 3 ∷ [])) used 25 ∷ refuses (three ++ (4 ∷ [])) used 25
    -- it is looked for before 24
    ∷ refuses (sender_record probe 9 ++ (4 ∷ [])) [] 25
    -- a sender past the list's places; a 65th place does not count
    ∷ refuses (sender_record probe 9) [] 24
    ∷ refuses (sender_record probe 9 ++ (sender_record other 5 ++ sender_record 1 1)) used 24
    ∷ refuses (many 65) (replicate 70 free_record) 24
    -- 64 senders, and a place behind them
    ∷ gives (many 64) (replicate 64 free_record ++ used) 0 None 832 (listed 64 ++ used)
    ∷ []

unfoldable pub writings : List Case
writings =
    -- a record behind 64 senders: of one of them, of a 65th, and of another kind; a journal of 65 takes none
    puts (many 64) 2 0 8 0 (replicate 14 0xEE) (sender_record 0 8)
    ∷ put_refuses (many 64) 2 64 8 0 (replicate 14 0xEE) 24
    ∷ puts (many 64) 1 64 8 0 (replicate 5 0xEE) (ceiling_record 8)
    ∷ put_refuses (many 65) 3 0 0 1 (replicate 14 0xEE) 24
    -- 25 for the journal or the kind, before 24 and 18; 18 for a byte too few
    ∷ put_refuses (4 ∷ []) 1 0 8 0 [] 25 ∷ put_refuses [] 0 0 8 0 [] 25 ∷ put_refuses (many 65) 4 0 8 0 [] 25
    ∷ put_refuses [] 1 0 8 0 (replicate 4 0xEE) 18 ∷ put_refuses (many 64) 2 64 8 0 [] 24
    -- behind an incomplete record the next one is given alone, and a ceiling of 0 is written too
    ∷ puts (three ++ (1 ∷ 9 ∷ [])) 3 probe 8 0xFF (replicate 3 0xEE) (3 ∷ 0xFF ∷ []) ∷ puts [] 1 0 0 0 (replicate 5 0xEE) (ceiling_record 0)
    ∷ []

unfoldable pub counters : List Case
counters =
    -- the next counter up to the ceiling, never 0, and none behind FFFFFFFE; a cut ceiling covers nothing
    nexts (ceiling_record 8) 7 ∷ next_refuses (ceiling_record 8) 8 27 ∷ next_refuses (ceiling_record 0) 0 27 ∷ next_refuses [] 0 27
    ∷ nexts (ceiling_record 9 ++ ceiling_record 5) 8 ∷ next_refuses (ceiling_record 5 ++ take 4 (ceiling_record 9)) 5 27
    ∷ nexts (ceiling_record 0xFFFFFFFF) 0xFFFFFFFD ∷ next_refuses (ceiling_record 0xFFFFFFFF) 0xFFFFFFFE 26 ∷ next_refuses [] 0xFFFFFFFF 26
    ∷ next_refuses (4 ∷ []) 0xFFFFFFFF 25 ∷ nexts (many 65 ++ ceiling_record 8) 0
    -- a life: two counters under a ceiling of 5, a cut in the middle of the next ceiling; behind it only the next whole ceiling covers
    ∷ lives
    (recovers [] ∷ hands ∷ appends (ceiling_written 5) ∷ hands ∷ hands ∷ cuts_appending (ceiling_written 9) 4 ∷ hands ∷ recovers [] ∷ hands ∷ shortens
    ∷ appends (ceiling_written 9) ∷ hands ∷ cuts ∷ recovers [] ∷ hands ∷ appends (ceiling_written 10) ∷ hands ∷ hands ∷ [])
    (1 ∷ 2 ∷ 6 ∷ 10 ∷ [])
    -- a life: an append before the recovery, one that fails with the power on, garbage that reads as a record, and garbage that is no kind, behind
    -- which nothing is handed out until it is cut off
    ∷ lives
    (appends (ceiling_written 5) ∷ hands ∷ recovers [] ∷ hands ∷ fails_appending (ceiling_written 9) 4 ∷ hands ∷ appends (ceiling_written 7) ∷ hands
    ∷ garbles (3 ∷ 7 ∷ []) ∷ hands ∷ hands ∷ garbles (4 ∷ []) ∷ appends (ceiling_written 9) ∷ hands ∷ recovers [] ∷ hands ∷ shortens
    ∷ appends (ceiling_written 9) ∷ hands ∷ [])
    (6 ∷ 7 ∷ 8 ∷ [])
    ∷ []

unfoldable pub shrinkings : List Case
shrinkings =
    -- an empty journal, and one with a ceiling of 0 alone, shrink to nothing
    shrinks_to [] [] [] ∷ shrinks_to [] (0xEE ∷ []) [] ∷ shrinks_to (ceiling_record 0) (0xEE ∷ []) []
    -- a key number alone, 0 too
    ∷ shrinks_to (3 ∷ 1 ∷ 3 ∷ 5 ∷ []) (replicate 3 0xEE) (3 ∷ 5 ∷ []) ∷ shrinks_to (3 ∷ 0 ∷ []) (replicate 2 0xEE) (3 ∷ 0 ∷ [])
    -- two senders: the lower number has the higher first byte
    ∷ shrinks_to (sender_record 0x0000000000000001 7 ++ sender_record 0x0100000000000000 8) (replicate 26 0xEE)
    (2 ∷ 0 ∷ 0 ∷ 0 ∷ 0 ∷ 0 ∷ 0 ∷ 0 ∷ 1 ∷ 8 ∷ 0 ∷ 0 ∷ 0 ∷ (2 ∷ 1 ∷ 0 ∷ 0 ∷ 0 ∷ 0 ∷ 0 ∷ 0 ∷ 0 ∷ 7 ∷ 0 ∷ 0 ∷ 0 ∷ []))
    -- key number, ceiling, senders: the last key number, the largest ceiling, the last counter of each
    ∷ shrinks_to (sender_record other 9 ++ (ceiling_record 5 ++ (sender_record probe 9 ++ (ceiling_record 9 ++ (3 ∷ 2 ∷ ceiling_record 7 ++ sender_record other 3)))))
    (replicate 34 0xEE) (3 ∷ 2 ∷ ceiling_record 9 ++ (sender_record probe 9 ++ sender_record other 3))
    -- an incomplete last record is left out; into just the bytes that are to be written, and a byte too few
    ∷ shrinks_to (three ++ (1 ∷ 9 ∷ [])) (replicate 20 0xEE) (3 ∷ 5 ∷ ceiling_record 7 ++ sender_record probe 1000)
    ∷ shrink_refuses (three ++ (1 ∷ 9 ∷ [])) (replicate 19 0xEE) 18
    -- 64 senders and 65; 25 before 24, and 24 before 18
    ∷ shrinks_to (many 64) (replicate 833 0xEE) (many 64) ∷ shrink_refuses (many 64) (replicate 831 0xEE) 18
    ∷ shrink_refuses (many 65) [] 24 ∷ shrink_refuses (many 65 ++ (4 ∷ [])) [] 25 ∷ shrink_refuses (0 ∷ []) [] 25
    -- a life: the shrunk journal takes the place; of the next one a cut leaves three bytes, which never do; nor does a third, once a ceiling
    -- was appended, left over behind a cut too
    ∷ lives
    (recovers [] ∷ appends (ceiling_written 5) ∷ appends (ceiling_written 9) ∷ hands ∷ shrinks (replicate 5 0) ∷ hands ∷ replaces ∷ hands
    ∷ cuts_shrinking (replicate 5 0) 3 ∷ replaces ∷ hands ∷ recovers [] ∷ hands ∷ appends (ceiling_written 12) ∷ hands ∷ shrinks (replicate 5 0)
    ∷ appends (ceiling_written 14) ∷ replaces ∷ cuts ∷ replaces ∷ recovers [] ∷ appends (ceiling_written 15) ∷ hands ∷ [])
    (1 ∷ 2 ∷ 3 ∷ 10 ∷ 15 ∷ [])
    ∷ []

abbrev pub AllWorked : Type 0
AllWorked = AllHold recoveries × (AllHold writings × (AllHold counters × AllHold shrinkings))
