-- A place of the list of senders (document 02, 5): a used mark, an address and a counter. An address is a number, its first
-- wire byte lowest.
-- Assumes nothing.
use Rattle.std.specs.Prelude.{ℕ, Bool, cond, not, ◌&&◌, eqb}
use Rattle.senders.specs.declared.SenderRecord.{SenderRecord}

-- without the mark it is free
abbrev pub is_free : SenderRecord → Bool
is_free r = eqb r.used 0

-- a free record names nobody, whatever address it holds
abbrev pub names : ℕ → SenderRecord → Bool
names s r = not (is_free r) && eqb r.address s

-- the record of a sender and its counter
abbrev pub record_of : ℕ → ℕ → SenderRecord
record_of s c = record { address = s; counter = c; used = 1 }

-- the zeros that a forgotten sender leaves
abbrev pub free_record : SenderRecord
free_record = record { address = 0; counter = 0; used = 0 }

-- what forgetting s leaves of a record
unfoldable pub kept : ℕ → SenderRecord → SenderRecord
kept s r = cond (names s r) free_record r
