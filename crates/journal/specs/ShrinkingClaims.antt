-- What document 02, 7 promises of shrinking, each one claim over all journals and outputs, proved in `proofs/ShrinkingClaims.antt`. Unless
-- its type leaves them out, a claim's premises are that shrinking is not refused and that each byte is below 256. That no counter is
-- handed out twice is the claim of `Claims`: lives have shrinking and replacing among their events.
-- Assumes nothing.
use Rattle.std.specs.Prelude.{ℕ, ◌+◌, ◌*◌, ◌≤◌, ◌≡◌, true, List, [], ◌∷◌, length}
use Rattle.octets.specs.Strings.{Below}
use Rattle.octets.specs.Writing.{wrote}
use Rattle.senders.specs.declared.SenderRecord.{SenderRecord}
use Rattle.senders.specs.Senders.{stored}
use Rattle.journal.specs.Format.{records, complete_length}
use Rattle.journal.specs.Recovery.{state_of, recover_refusal, recover_answer, recovered_list}
use Rattle.journal.specs.Writing.{next_counter}
use Rattle.journal.specs.Shrinking.{address_before, sorted, shrunk_records, shrink}
use Rattle.journal.specs.Life.{Writing, writes, given}

-- ---- 1: it recovers to the same

-- two journals into a list: both refused by the same number or neither, the same ceiling, the same key number or none, and of each
-- sender the same counter or none
pub record SameState (j k : List ℕ) (l : List SenderRecord) : Type 0 where
  pub refusal : recover_refusal k (length l) ≡ recover_refusal j (length l)
  pub ceiling : (recover_answer k (length l)).ceiling ≡ (recover_answer j (length l)).ceiling
  pub key_number : (recover_answer k (length l)).key_number ≡ (recover_answer j (length l)).key_number
  pub senders : (s : ℕ) → stored s (recovered_list k l) ≡ stored s (recovered_list j l)

-- into any list, and where there is room in it nothing is incomplete
abbrev pub RecoversTheSame : Type 0
RecoversTheSame =
    (j o : List ℕ) (l : List SenderRecord) → let k = given (shrink j o) in
    Below 256 j → (shrink j o).answer.refusal ≡ 0
    → SameState j k l × (recover_refusal j (length l) ≡ 0 → (recover_answer k (length l)).complete ≡ length k)

-- a gateway's other calls answer as before: the next counter behind any last one, and the writer with any record
abbrev pub AnswersTheSame : Type 0
AnswersTheSame =
    (j o : List ℕ) → let k = given (shrink j o) in Below 256 j → (shrink j o).answer.refusal ≡ 0
    → ((last : ℕ) → next_counter k last ≡ next_counter j last) × ((w : Writing) → writes k w ≡ writes j w)

-- ---- the order

abbrev pub Each : (SenderRecord → Type 0) → List SenderRecord → Type 0
Each P [] = Unit {0}
Each P (r ∷ l) = P r × Each P l

-- the address s is before that of r
abbrev pub Before : ℕ → SenderRecord → Type 0
Before s r = address_before s r.address ≡ true

-- each address is before all those behind it
abbrev pub Rising : List SenderRecord → Type 0
Rising [] = Unit {0}
Rising (r ∷ l) = Each (Before r.address) l × Rising l

-- the records are those of the definition, and their senders rise
abbrev pub RisingAddressBytes : Type 0
RisingAddressBytes =
    (j o : List ℕ) → Below 256 j → (shrink j o).answer.refusal ≡ 0
    → (records (given (shrink j o)) ≡ shrunk_records (state_of j)) × Rising (sorted (state_of j).senders)

-- ---- 2: it is the shortest

-- no journal that recovers to the same, into any list with room for it, has fewer bytes
abbrev pub NoneIsShorter : Type 0
NoneIsShorter =
    (j k o : List ℕ) (l : List SenderRecord) → Below 256 j → Below 256 k → (shrink j o).answer.refusal ≡ 0
    → recover_refusal j (length l) ≡ 0 → SameState j k l → (shrink j o).answer.length ≤ length k

-- it is never longer than the complete records of the journal, nor than those of a key number, a ceiling and 64 senders
abbrev pub NeverLonger : Type 0
NeverLonger =
    (j o : List ℕ) → (shrink j o).answer.refusal ≡ 0
    → ((shrink j o).answer.length ≤ complete_length j) × ((shrink j o).answer.length ≤ 2 + (5 + 13 * 64))

-- ---- 3: what is written depends on the state alone

-- two journals that recover to the same, into any list with room for it, shrink to the same: answer, bytes and what is left of the output
abbrev pub SameStateSameBytes : Type 0
SameStateSameBytes =
    (j k o : List ℕ) (l : List SenderRecord) → Below 256 j → Below 256 k → recover_refusal j (length l) ≡ 0 → SameState j k l → shrink k o ≡ shrink j o

-- a shrunk journal shrinks to itself, into an output with room for it
abbrev pub ShrunkTwice : Type 0
ShrunkTwice =
    (j o p : List ℕ) → let k = given (shrink j o) in Below 256 j → (shrink j o).answer.refusal ≡ 0 → length k ≤ length p → shrink k p ≡ wrote k p
