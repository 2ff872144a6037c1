-- The opened record, 182 bytes: 0 refusal, 1 mark, 2 length, 4 count of blocks, 5 presence of the nonce's address, 6 that
-- address, 14 two bytes, 16 the header record, 163 the auxiliary record. The count and the two bytes are 0, kept for what later
-- requests add. Here too is the record of an auxiliary header or none.
-- Assumes nothing.
use Rattle.std.specs.Prelude.{ℕ, cond, not, List, [], ◌∷◌, ◌++◌, get_or, take, drop, eqb, Option}
use Rattle.octets.specs.Numbers.{le, le_at}
use Rattle.header.specs.declared.auxiliary.NwkAuxHeader.{NwkAuxHeader}
use Rattle.frame.specs.Opening.{Mark, FrameOpened}
use Rattle.frame.specs.Reading.{aux_if}
use Rattle.frame.specs.Security as security
use Rattle.records.specs.Optional.{ieee_record, ieee_in}
use Rattle.records.specs.HeaderRecord.{header_record, header_of}
use Rattle.records.specs.AuxiliaryRecord.{aux_record, aux_of, aux_present}

-- the record of an auxiliary header or none, and the one that a record encodes
unfoldable pub option_record : Option NwkAuxHeader → List ℕ
option_record o = aux_record (not (security.is_absent o)) (security.or_blank o)

unfoldable pub option_of : List ℕ → Option NwkAuxHeader
option_of r = aux_if (aux_present r) (aux_of r)

abbrev pub opened_record_size : ℕ
opened_record_size = 182

-- the number of each mark, and the mark of a number
abbrev pub mark_code : Mark → ℕ
mark_code Mark.Unmarked = 0
mark_code Mark.Clear = 1
mark_code Mark.Sealed = 2

unfoldable pub mark_of : ℕ → Mark
mark_of n = cond (eqb n 1) Mark.Clear (cond (eqb n 2) Mark.Sealed Mark.Unmarked)

-- 0 to 15
unfoldable pub opened_front : ℕ → ℕ → ℕ → Option ℕ → List ℕ
opened_front refusal mark length ieee = refusal ∷ mark ∷ (le 2 length ++ (0 ∷ (ieee_record ieee ++ (0 ∷ 0 ∷ []))))

unfoldable pub opened_record : FrameOpened → List ℕ
opened_record o =
    opened_front o.refusal (mark_code o.mark) o.length o.nonce_ieee ++ (header_record o.header ++ option_record o.aux)

-- the answer that a record encodes
unfoldable pub opened_of : List ℕ → FrameOpened
opened_of r =
    record {
      refusal = get_or r 0 0;
      mark = mark_of (get_or r 1 0);
      length = le_at 2 r 2;
      nonce_ieee = ieee_in r 5;
      header = header_of (take 147 (drop 16 r));
      aux = option_of (drop 163 r);
    }
