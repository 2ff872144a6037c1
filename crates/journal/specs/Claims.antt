-- What document 02, 6 promises of the journal, each one claim over all journals, records, lists and lives. They are proved in
-- `proofs/Claims.antt`, `proofs/SendersOnce.antt`, `proofs/FirstAppearance.antt` and `proofs/NoCounterTwice.antt`.
-- Assumes nothing.
use Rattle.std.specs.Prelude.{ℕ, suc, ◌+◌, ◌^◌, ◌≤◌, ◌<◌, ◌≡◌, Bool, true, false, cond, ◌||◌, List, [], ◌∷◌, ◌++◌, ◌⊎◌, eqb, ltb, length, get_or, take, Option, Some, None}
use Rattle.octets.specs.Strings.{Below}
use Rattle.types.specs.Counters.{last_counter}
use Rattle.senders.specs.declared.SenderRecord.{SenderRecord}
use Rattle.senders.specs.Records.{names, free_record}
use Rattle.senders.specs.Senders.{counted_places, counted, stored}
use Rattle.journal.specs.declared.format.JournalRecord.{JournalRecord}
use Rattle.journal.specs.Format.{record_bytes, records, unknown_kind, bytes_of, complete_length}
use Rattle.journal.specs.Recovery.{applied, state_of, recover_refusal, recover_answer, recovered_list}
use Rattle.journal.specs.Writing.{record_of_kind, some_ceiling, next_counter}
use Rattle.journal.specs.Life.{Event, Writing, complete_part, writes, given, life}

-- ---- 1: no counter twice

abbrev pub AllBelow : ℕ → List ℕ → Type 0
AllBelow c [] = Unit {0}
AllBelow c (x ∷ xs) = (x < c) × AllBelow c xs

-- In every life (Life.antt), of any length and with any number of cuts, a counter handed out is larger than every one handed out before
-- it. So none is handed out twice, and none that was handed out before a cut is handed out again after it. The store keeps the complete
-- records, each call is handed the last counter, and a shrunk journal takes the journal's place in one step and only with the mark.
abbrev pub NoCounterTwice : Type 0
NoCounterTwice = (es : List Event) (before behind : List ℕ) (c : ℕ) → (life es).handed ≡ before ++ (c ∷ behind) → AllBelow c before

-- each can be sealed, and none is 0
abbrev pub EachCanBeSealed : Type 0
EachCanBeSealed = (es : List Event) (before behind : List ℕ) (c : ℕ) → (life es).handed ≡ before ++ (c ∷ behind) → (0 < c) × (c < last_counter)

-- where it is not refused, the next counter is one more than the last, and a complete ceiling record is no lower
abbrev pub OneMoreIfCovered : Type 0
OneMoreIfCovered =
    (j : List ℕ) (last : ℕ) → (next_counter j last).refusal ≡ 0
    → ((next_counter j last).counter ≡ suc last) × (some_ceiling (suc last) (records j) ≡ true)

-- ---- 2: a record behind the complete ones

-- the values of a record are in their ranges, as those of every JournalRecord are (`ranges::record_fits`)
abbrev pub Fits : JournalRecord → Type 0
Fits (JournalRecord.Ceiling c) = c < 2 ^ 32
Fits (JournalRecord.Sender s c) = (s < 2 ^ 64) × (c < 2 ^ 32)
Fits (JournalRecord.KeyNumber k) = k < 2 ^ 8

-- a whole record, its values in range, is applied: the larger ceiling, the sender's counter in its place, or the key number
pub record WithRecord (j : List ℕ) (r : JournalRecord) (k : List ℕ) : Type 0 where
  pub state : state_of k ≡ applied r (state_of j)
  pub known : unknown_kind k ≡ false
  pub complete : complete_length k ≡ complete_length j + length (record_bytes r)

abbrev pub RecordIsApplied : Type 0
RecordIsApplied = (j : List ℕ) (r : JournalRecord) → Fits r → WithRecord j r (complete_part j ++ record_bytes r)

-- what is recovered from one journal is what is recovered from the other, answer and list, refused or not
abbrev pub SameRecovery : List ℕ → List ℕ → Type 0
SameRecovery j k = (l : List SenderRecord) → (recover_answer k (length l) ≡ recover_answer j (length l)) × (recovered_list k l ≡ recovered_list j l)

-- a part of one changes nothing, where every kind of the journal is known
abbrev pub PartChangesNothing : Type 0
PartChangesNothing =
    (j : List ℕ) (r : JournalRecord) (n : ℕ) → unknown_kind j ≡ false → n < length (record_bytes r) → SameRecovery j (complete_part j ++ take n (record_bytes r))

-- ---- 3: the complete records

-- where every kind is known, they alone recover to the same, and the length given is theirs
abbrev pub CompleteRecordsRecover : Type 0
CompleteRecordsRecover = (j : List ℕ) → unknown_kind j ≡ false → SameRecovery j (complete_part j) × (length (complete_part j) ≡ complete_length j)

-- they are the records' bytes, end to end, where each byte is below 256
abbrev pub CompletePartIsRecords : Type 0
CompletePartIsRecords = (j : List ℕ) → Below 256 j → complete_part j ≡ bytes_of (records j)

-- ---- 4: what the writer wrote reads back, where it did not refuse and the values are in range

abbrev pub length_of_kind : ℕ → ℕ → Type 0
length_of_kind kind n = ((kind ≡ 1) × (n ≡ 5)) ⊎ (((kind ≡ 2) × (n ≡ 13)) ⊎ ((kind ≡ 3) × (n ≡ 2)))

abbrev pub ReadsBack : Type 0
ReadsBack =
    (j : List ℕ) (w : Writing) → let r = record_of_kind w.kind w.sender w.counter w.key_number in
    (writes j w).answer.refusal ≡ 0 → Fits r
    → (records (given (writes j w)) ≡ r ∷ []) × length_of_kind w.kind (writes j w).answer.length

-- ---- what recovery gives; but for the first and the last claim, where it is not refused

-- the ceiling is the largest: a counter is covered by a ceiling record exactly if it is no higher
abbrev pub LargestCeiling : Type 0
LargestCeiling = (j : List ℕ) (n : ℕ) → some_ceiling (suc n) (records j) ≡ ltb n (state_of j).ceiling

-- no record is a key number
abbrev pub NoKeyNumber : List JournalRecord → Type 0
NoKeyNumber [] = Unit {0}
NoKeyNumber (JournalRecord.Ceiling c ∷ rs) = NoKeyNumber rs
NoKeyNumber (JournalRecord.Sender s c ∷ rs) = NoKeyNumber rs
NoKeyNumber (JournalRecord.KeyNumber k ∷ rs) = ⊥

-- the key number is that of the last such record, or none if there is no such record
abbrev pub LastKeyNumberOrNone : Type 0
LastKeyNumberOrNone =
    (j : List ℕ) (places : ℕ) → recover_refusal j places ≡ 0
    → ((before behind : List JournalRecord) (k : ℕ) → records j ≡ before ++ (JournalRecord.KeyNumber k ∷ behind) → NoKeyNumber behind
    → (recover_answer j places).key_number ≡ Some k)
    × (NoKeyNumber (records j) → (recover_answer j places).key_number ≡ None)

-- the counter of the last record of s, or none
unfoldable pub last_of : ℕ → Option ℕ → List JournalRecord → Option ℕ
last_of s o [] = o
last_of s o (JournalRecord.Ceiling c ∷ rs) = last_of s o rs
last_of s o (JournalRecord.Sender t c ∷ rs) = last_of s (cond (eqb t s) (Some c) o) rs
last_of s o (JournalRecord.KeyNumber k ∷ rs) = last_of s o rs

-- the list recovered stores each sender's last counter, and names no other sender
abbrev pub LastCounterIsStored : Type 0
LastCounterIsStored =
    (j : List ℕ) (l : List SenderRecord) (s : ℕ) → recover_refusal j (length l) ≡ 0 → stored s (recovered_list j l) ≡ last_of s None (records j)

-- whether s is one of xs
abbrev pub among : ℕ → List ℕ → Bool
among s [] = false
among s (x ∷ xs) = eqb x s || among s xs

-- the senders by first appearance, where xs appeared before
unfoldable pub appearing : List ℕ → List JournalRecord → List ℕ
appearing xs [] = []
appearing xs (JournalRecord.Ceiling c ∷ rs) = appearing xs rs
appearing xs (JournalRecord.Sender s c ∷ rs) = cond (among s xs) (appearing xs rs) (s ∷ appearing (xs ++ (s ∷ [])) rs)
appearing xs (JournalRecord.KeyNumber k ∷ rs) = appearing xs rs

-- all of them have a counted place, and place i names the one that is the i-th to appear
abbrev pub FilledByFirstAppearance : Type 0
FilledByFirstAppearance =
    (j : List ℕ) (l : List SenderRecord) → let ss = appearing [] (records j) in recover_refusal j (length l) ≡ 0
    → (length ss ≤ counted (length l))
    × ((i : ℕ) (d : SenderRecord) → i < length ss → names (get_or ss i 0) (get_or (recovered_list j l) i d) ≡ true)

-- the counted places behind theirs are zeroed
abbrev pub LeftOverZeroed : Type 0
LeftOverZeroed =
    (j : List ℕ) (l : List SenderRecord) (i : ℕ) (d : SenderRecord) → recover_refusal j (length l) ≡ 0
    → length (appearing [] (records j)) ≤ i → i < counted (length l) → get_or (recovered_list j l) i d ≡ free_record

-- the list names each sender once
abbrev pub EachSenderOnce : Type 0
EachSenderOnce =
    (j : List ℕ) (l : List SenderRecord) (s i k : ℕ) (d : SenderRecord) → recover_refusal j (length l) ≡ 0 → i < counted_places → k < counted_places
    → i < length l → k < length l → names s (get_or (recovered_list j l) i d) ≡ true → names s (get_or (recovered_list j l) k d) ≡ true → i ≡ k

-- places past the 64th stay, refused or not
abbrev pub PlacesBehindStay : Type 0
PlacesBehindStay =
    (j : List ℕ) (l : List SenderRecord) (i : ℕ) (d : SenderRecord) → counted_places ≤ i → get_or (recovered_list j l) i d ≡ get_or l i d
