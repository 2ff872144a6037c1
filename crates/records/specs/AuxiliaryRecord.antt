-- The auxiliary record, 19 bytes: 0 presence of the auxiliary header itself, 1 level, 2 key identifier, 3 extended nonce
-- bit, 4 verified counter bit, 5 frame counter, 9 IEEE, 18 key sequence number. Of an absent one all bytes are 0 when the
-- record is filled in, and none but the presence byte is read.
-- Assumes nothing.
use Rattle.std.specs.Prelude.{ℕ, Bool, not, ◌&&◌, ◌||◌, List, [], ◌∷◌, ◌++◌, length, get_or, eqb}
use Rattle.octets.specs.Numbers.{le, le_at}
use Rattle.header.specs.declared.{auxiliary.NwkSecurityHeaderControlField.NwkSecurityHeaderControlField, auxiliary.NwkAuxHeader.NwkAuxHeader}
use Rattle.octets.specs.Fields.{bit}
use Rattle.header.specs.AuxiliaryControl.{level_code, level_of, key_id_code, key_id_of}
use Rattle.records.specs.Limits.{exceeds}
use Rattle.records.specs.Optional.{ieee_record, ieee_in}

abbrev pub aux_record_size : ℕ
aux_record_size = 19

-- ---- the record of an auxiliary header

-- 0 to 4
abbrev pub security_record : Bool → NwkSecurityHeaderControlField → List ℕ
security_record present c =
    bit present ∷ level_code c.security_level ∷ key_id_code c.key_id ∷ bit c.extended_nonce
    ∷ bit c.require_verified_frame_counter ∷ []

-- 5 to 18
unfoldable pub counter_record : NwkAuxHeader → List ℕ
counter_record a = le 4 a.frame_counter ++ (ieee_record a.extended_source ++ le 1 a.key_sequence_number)

unfoldable pub aux_record : Bool → NwkAuxHeader → List ℕ
aux_record present a = security_record present a.security_control ++ counter_record a

-- ---- the auxiliary header of a record

unfoldable pub security_at : List ℕ → NwkSecurityHeaderControlField
security_at r =
    record {
      security_level = level_of (get_or r 1 0);
      key_id = key_id_of (get_or r 2 0);
      extended_nonce = eqb (get_or r 3 0) 1;
      require_verified_frame_counter = eqb (get_or r 4 0) 1;
    }

unfoldable pub aux_of : List ℕ → NwkAuxHeader
aux_of r =
    record {
      security_control = security_at r;
      frame_counter = le_at 4 r 5;
      extended_source = ieee_in r 9;
      key_sequence_number = get_or r 18 0;
    }

-- whether the record has an auxiliary header
abbrev pub aux_present : List ℕ → Bool
aux_present r = eqb (get_or r 0 0) 1

-- ---- records that encode nothing (refusal 13)

-- the greatest value of each byte from 0 to 9
abbrev pub aux_limits : List ℕ
aux_limits = 1 ∷ 7 ∷ 3 ∷ 1 ∷ 1 ∷ 255 ∷ 255 ∷ 255 ∷ 255 ∷ 1 ∷ []

-- another length, or a byte that a field cannot take; where the presence byte is 0 there is no field, and no other byte counts
unfoldable pub bad_aux_record : List ℕ → Bool
bad_aux_record r = not (eqb (length r) aux_record_size) || (not (eqb (get_or r 0 0) 0) && exceeds aux_limits r)
