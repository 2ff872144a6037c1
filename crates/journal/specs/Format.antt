-- The journal's format (document 02, 6): records end to end, each one kind byte and a body of the length that the kind fixes. Numbers are
-- least significant byte first, a sender is a number, its first wire byte lowest. The last record may be incomplete.
-- Assumes nothing.
use Rattle.std.specs.Prelude.{ℕ, zero, suc, ◌+◌, Bool, false, cond, not, ◌&&◌, ◌||◌, List, [], ◌∷◌, ◌++◌, eqb, leb, length, get_or}
use Rattle.octets.specs.Numbers.{le, le_at}
use Rattle.journal.specs.declared.format.JournalRecord.{JournalRecord}

-- ---- the kinds: 1 a ceiling, 2 a sender and its counter, 3 an active key number

abbrev pub is_kind : ℕ → Bool
is_kind k = eqb k 1 || (eqb k 2 || eqb k 3)

-- the length of the body; 0 for another byte, since what is read behind it does not matter: 25 comes first
unfoldable pub body_length : ℕ → ℕ
body_length k = cond (eqb k 1) 4 (cond (eqb k 2) 12 (cond (eqb k 3) 1 0))

-- ---- a record

-- the one whose kind byte stands at place i
unfoldable pub record_at : List ℕ → ℕ → JournalRecord
record_at j i =
    cond (eqb (get_or j i 0) 1) (JournalRecord.Ceiling (le_at 4 j (i + 1)))
    (cond (eqb (get_or j i 0) 2) (JournalRecord.Sender (le_at 8 j (i + 1)) (le_at 4 j (i + 9)))
    (JournalRecord.KeyNumber (get_or j (i + 1) 0)))

-- its bytes
unfoldable pub record_bytes : JournalRecord → List ℕ
record_bytes (JournalRecord.Ceiling c) = 1 ∷ le 4 c
record_bytes (JournalRecord.Sender s c) = 2 ∷ (le 8 s ++ le 4 c)
record_bytes (JournalRecord.KeyNumber k) = 3 ∷ le 1 k

-- ---- a journal, of which the first `skip` bytes belong to a body

-- the kinds of all its records, an incomplete last one's too
unfoldable pub kinds_from : ℕ → List ℕ → List ℕ
kinds_from zero [] = []
kinds_from zero (k ∷ j) = k ∷ kinds_from (body_length k) j
kinds_from (suc skip) [] = []
kinds_from (suc skip) (b ∷ j) = kinds_from skip j

-- its complete records, up to a kind that is none
unfoldable pub records_from : ℕ → List ℕ → List JournalRecord
records_from zero [] = []
records_from zero (k ∷ j) = cond (is_kind k && leb (body_length k) (length j)) (record_at (k ∷ j) 0 ∷ records_from (body_length k) j) []
records_from (suc skip) [] = []
records_from (suc skip) (b ∷ j) = records_from skip j

-- ---- a whole journal

abbrev pub records : List ℕ → List JournalRecord
records j = records_from 0 j

unfoldable pub some_unknown : List ℕ → Bool
some_unknown [] = false
some_unknown (k ∷ ks) = not (is_kind k) || some_unknown ks

-- a record's kind, even the last one's, is not 1 to 3
abbrev pub unknown_kind : List ℕ → Bool
unknown_kind j = some_unknown (kinds_from 0 j)

-- the length of all records of a list
unfoldable pub total_length : List JournalRecord → ℕ
total_length [] = 0
total_length (r ∷ rs) = length (record_bytes r) + total_length rs

-- their bytes, end to end
abbrev pub bytes_of : List JournalRecord → List ℕ
bytes_of [] = []
bytes_of (r ∷ rs) = record_bytes r ++ bytes_of rs

-- the length of its complete records
abbrev pub complete_length : List ℕ → ℕ
complete_length j = total_length (records j)
