-- What document 02, 5 promises of the inbound counters, each one claim over all lists, senders and counters, proved in
-- `proofs/Claims.antt`.
-- Assumes nothing.
use Rattle.std.specs.Prelude.{ℕ, ◌≤◌, ◌<◌, ◌≡◌, true, false, cond, List, [], ◌∷◌, ◌++◌, length, get_or, set, Some, None}
use Rattle.types.specs.Counters.{last_counter}
use Rattle.types.specs.declared.Key.{Key}
use Rattle.senders.specs.declared.SenderRecord.{SenderRecord}
use Rattle.senders.specs.Records.{is_free, names, record_of, free_record}
use Rattle.senders.specs.Senders.{counted_places, stored, knows, has_free, inbound_network_key, ask_refused, note, note_nothing, forget}

-- ---- asking: 22, then 23, and else the active key

-- asking with another key sequence number than the active one answers 22; with the active one 23 for the last counter, and for one
-- that is not above the stored one
abbrev pub RefusedByNumber : Type 0
RefusedByNumber =
    (key : Key) (active s k c : ℕ) (l : List SenderRecord)
    → ((k ≡ active → ⊥) → inbound_network_key key active l s k c ≡ ask_refused 22)
    × ((k ≡ active → c ≡ last_counter → inbound_network_key key active l s k c ≡ ask_refused 23)
    × ((x : ℕ) → k ≡ active → stored s l ≡ Some x → c ≤ x → inbound_network_key key active l s k c ≡ ask_refused 23))

-- any other counter above the stored one gives the active key, and so does any other of an unknown sender
abbrev pub ElseTheActiveKey : Type 0
ElseTheActiveKey =
    (key : Key) (active s c : ℕ) (l : List SenderRecord) → c < last_counter
    → ((x : ℕ) → stored s l ≡ Some x → x < c → inbound_network_key key active l s active c ≡ record { refusal = 0; key = key })
    × (stored s l ≡ None → inbound_network_key key active l s active c ≡ record { refusal = 0; key = key })

-- ---- which place

-- the first record r that names s, within the first 64 places, counts: its counter is compared, and noting overwrites it
abbrev pub FirstRecordCounts : Type 0
FirstRecordCounts =
    (s c : ℕ) (before behind : List SenderRecord) (r : SenderRecord) → length before < counted_places → knows s before ≡ false → names s r ≡ true
    → (stored s (before ++ (r ∷ behind)) ≡ Some r.counter)
    × ((note s c (before ++ (r ∷ behind))).list ≡ before ++ (record_of s c ∷ behind))

-- a sender that no record names takes the first free place r, within the first 64, and has no earlier counter
abbrev pub FirstFreePlace : Type 0
FirstFreePlace =
    (s c : ℕ) (before behind : List SenderRecord) (r : SenderRecord) → length before < counted_places → has_free before ≡ false → is_free r ≡ true
    → knows s (before ++ (r ∷ behind)) ≡ false
    → note s c (before ++ (r ∷ behind))
    ≡ record { answer = record { refusal = 0; earlier = None }; list = before ++ (record_of s c ∷ behind) }

-- ---- 1: a call changes the list only at records of the sender named

-- the list keeps its length, and a record that names s neither before nor after the call is as it was
abbrev pub OnlyAt : ℕ → List SenderRecord → List SenderRecord → Type 0
OnlyAt s before after =
    (length after ≡ length before)
    × ((i : ℕ) (d : SenderRecord) → names s (get_or before i d) ≡ false → names s (get_or after i d) ≡ false → get_or after i d ≡ get_or before i d)

-- every other sender is answered as before
abbrev pub OthersAsBefore : ℕ → List SenderRecord → List SenderRecord → Type 0
OthersAsBefore s before after =
    (key : Key) (active t k x : ℕ) → (t ≡ s → ⊥) → inbound_network_key key active after t k x ≡ inbound_network_key key active before t k x

abbrev pub NotingChangesOnlyTheSender : Type 0
NotingChangesOnlyTheSender =
    (s c : ℕ) (l : List SenderRecord) → OnlyAt s l (note s c l).list × OthersAsBefore s l (note s c l).list

abbrev pub ForgettingChangesOnlyTheSender : Type 0
ForgettingChangesOnlyTheSender =
    (s : ℕ) (l : List SenderRecord) → OnlyAt s l (forget s l) × OthersAsBefore s l (forget s l)

-- noting that is not refused writes one counted place: the sender's own or, where it has none, a free one
abbrev pub NotingTakesOnePlace : Type 0
NotingTakesOnePlace =
    (s c : ℕ) (l : List SenderRecord) → (note s c l).answer.refusal ≡ 0
    → (i : ℕ) × ((i < counted_places) × (i < length l))
    × ((d : SenderRecord) → cond (knows s l) (names s (get_or l i d)) (is_free (get_or l i d)) ≡ true)
    × ((note s c l).list ≡ set l i (record_of s c))

-- ---- 2: after noting c

-- where noting was not refused: every counter up to c is refused by 23, every one above it but the last gives the key, and noting
-- again gives c
abbrev pub AfterNoting : Type 0
AfterNoting =
    (key : Key) (active s c x : ℕ) (l : List SenderRecord) → (note s c l).answer.refusal ≡ 0
    → (x ≤ c → inbound_network_key key active (note s c l).list s active x ≡ ask_refused 23)
    × ((c < x → x < last_counter → inbound_network_key key active (note s c l).list s active x ≡ record { refusal = 0; key = key })
    × ((note s x (note s c l).list).answer ≡ record { refusal = 0; earlier = Some c }))

-- ---- 3: after forgetting s

-- its counter is not compared, and noting gives no earlier one
abbrev pub AfterForgetting : Type 0
AfterForgetting =
    (key : Key) (active s x : ℕ) (l : List SenderRecord)
    → (x < last_counter → inbound_network_key key active (forget s l) s active x ≡ record { refusal = 0; key = key })
    × ((note s x (forget s l)).answer.earlier ≡ None)

-- every counted place that named it is left with zeros
abbrev pub ForgettingLeavesZeros : Type 0
ForgettingLeavesZeros =
    (s i : ℕ) (d : SenderRecord) (l : List SenderRecord) → i < counted_places → i < length l → names s (get_or l i d) ≡ true → get_or (forget s l) i d ≡ free_record

abbrev pub ForgettingTwice : Type 0
ForgettingTwice = (s : ℕ) (l : List SenderRecord) → forget s (forget s l) ≡ forget s l

-- an unknown sender changes nothing
abbrev pub ForgettingTheUnknown : Type 0
ForgettingTheUnknown = (s : ℕ) (l : List SenderRecord) → stored s l ≡ None → forget s l ≡ l

-- the next new sender can use the place
abbrev pub ForgettingFrees : Type 0
ForgettingFrees = (s t c : ℕ) (l : List SenderRecord) → knows s l ≡ true → (note t c (forget s l)).answer.refusal ≡ 0

-- ---- 4: places past the 64th never matter and never change

abbrev pub OnlyTheFirst64 : Type 0
OnlyTheFirst64 =
    (key : Key) (active s k c : ℕ) (l past : List SenderRecord) → length l ≡ counted_places
    → (inbound_network_key key active (l ++ past) s k c ≡ inbound_network_key key active l s k c)
    × ((note s c (l ++ past) ≡ record { answer = (note s c l).answer; list = (note s c l).list ++ past })
    × (forget s (l ++ past) ≡ forget s l ++ past))

-- ---- 5: 24 exactly if all counted places are used and none names the sender

abbrev pub FullOf : ℕ → List SenderRecord → Type 0
FullOf s l =
    (i : ℕ) (d : SenderRecord) → i < counted_places → i < length l → (is_free (get_or l i d) ≡ false) × (names s (get_or l i d) ≡ false)

abbrev pub RefusedExactlyIfFull : Type 0
RefusedExactlyIfFull =
    (s c : ℕ) (l : List SenderRecord)
    → ((FullOf s l → note s c l ≡ note_nothing 24 l) × ((FullOf s l → ⊥) → (note s c l).answer.refusal ≡ 0))
    × ((note s c l).answer.refusal ≡ 24 → FullOf s l)

abbrev pub EmptyListRefuses : Type 0
EmptyListRefuses = (s c : ℕ) → note s c [] ≡ note_nothing 24 []
