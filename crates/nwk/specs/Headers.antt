-- Reading and writing a header and an auxiliary header by their records: the refusals in document 01's order.
-- Assumes nothing.
use Rattle.std.specs.Prelude.{ℕ, not, List, [], ◌∷◌, ltb}
use Rattle.octets.specs.Refusals.{on, by, first_of}
use Rattle.header.specs.Reading.{header_refusal}
use Rattle.header.specs.Writing.{header_write_refusal}
use Rattle.header.specs.Auxiliary.{aux_refusal, aux_write_refusal}
use Rattle.records.specs.HeaderRecord.{header_record_size, header_of, bad_header_record}
use Rattle.records.specs.AuxiliaryRecord.{aux_record_size, aux_of, aux_present, bad_aux_record}

-- 1 to 8, then 18 where the record lent has fewer than 147 bytes
unfoldable pub read_header_refusal : List ℕ → ℕ → ℕ
read_header_refusal f room = first_of (by (header_refusal f) ∷ on 18 (ltb room header_record_size) ∷ [])

-- 13 for the record, then the header's own 13, 28, 17 and 18
unfoldable pub write_header_refusal : List ℕ → ℕ → ℕ
write_header_refusal r room = first_of (on 13 (bad_header_record r) ∷ by (header_write_refusal (header_of r) room) ∷ [])

-- 1, 9, 10 and 11, then 18 where the record lent has fewer than 19 bytes
unfoldable pub read_aux_refusal : List ℕ → ℕ → ℕ
read_aux_refusal f room = first_of (by (aux_refusal f) ∷ on 18 (ltb room aux_record_size) ∷ [])

-- 13 for the record, also where it has no auxiliary header, then 18
unfoldable pub write_aux_refusal : List ℕ → ℕ → ℕ
write_aux_refusal r room =
    first_of (on 13 (bad_aux_record r) ∷ on 13 (not (aux_present r)) ∷ by (aux_write_refusal (aux_of r) room) ∷ [])
