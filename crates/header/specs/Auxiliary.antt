-- The auxiliary header (Zigbee Specification 4.5.1): reading with the refusals 1, 9, 10 and 11, and writing with those
-- that it can meet, of which there is 18 alone.
-- Assumes nothing.
use Rattle.std.specs.Prelude.{ℕ, ◌+◌, ◌*◌, List, [], ◌∷◌, ◌++◌, length, get_or, ltb, Result, Ok, Err}
use Rattle.octets.specs.Numbers.{le, le_at}
use Rattle.octets.specs.declared.refusals.Refusal.{Refusal}
use Rattle.octets.specs.Refusals.{unless, on, first_of, number_of}
use Rattle.octets.specs.Writing.{Run, written}
use Rattle.header.specs.declared.{auxiliary.NwkSecurityHeaderControlField.NwkSecurityHeaderControlField, auxiliary.NwkAuxHeader.NwkAuxHeader}
use Rattle.types.specs.Optional.{ieee_if, ieee_bytes}
use Rattle.octets.specs.Fields.{bit}
use Rattle.header.specs.AuxiliaryControl.{security_byte, security_of}

-- ---- reading: control at 0, counter at 1, IEEE at 5

abbrev pub security : List ℕ → NwkSecurityHeaderControlField
security f = security_of (get_or f 0 0)

-- the key sequence number's place
unfoldable pub key_sequence_at : NwkSecurityHeaderControlField → ℕ
key_sequence_at c = 5 + 8 * bit c.extended_nonce

-- with extended nonce the IEEE takes 13 bytes in all (10), and the key sequence number one more (11)
unfoldable pub aux_refusal : List ℕ → ℕ
aux_refusal f =
    first_of (on 1 (ltb 118 (length f))
    ∷ on 9 (ltb (length f) 6)
    ∷ on 10 (ltb (length f) (key_sequence_at (security f)))
    ∷ on 11 (ltb (length f) (key_sequence_at (security f) + 1))
    ∷ [])

unfoldable pub aux_by : List ℕ → NwkSecurityHeaderControlField → NwkAuxHeader
aux_by f c =
    record {
      security_control = c;
      frame_counter = le_at 4 f 1;
      extended_source = ieee_if c.extended_nonce (le_at 8 f 5);
      key_sequence_number = get_or f (key_sequence_at c) 0;
    }

-- the record of zeros that stands beside a refusal
unfoldable pub blank_aux : NwkAuxHeader
blank_aux = aux_by [] (security_of 0)

-- what reading answers: a refusal's number with length 0 and a blank header, or 0, the header's length in bytes and the record
pub record AuxRead : Type 0 where
  pub refusal : ℕ
  pub length : ℕ
  pub aux : NwkAuxHeader

-- the record and its length, or a refusal's number alone
abbrev pub aux_given : List ℕ → AuxRead
aux_given f = record { refusal = 0; length = key_sequence_at (security f) + 1; aux = aux_by f (security f) }

abbrev pub aux_refused : ℕ → AuxRead
aux_refused n = record { refusal = n; length = 0; aux = blank_aux }

-- the same, of the code's answer
abbrev pub told_aux : Result (NwkAuxHeader × ℕ) Refusal → AuxRead
told_aux (Ok (a, n)) = record { refusal = 0; length = n; aux = a }
told_aux (Err r) = aux_refused (number_of r)

unfoldable pub read_aux : List ℕ → AuxRead
read_aux f = unless (aux_refusal f) (aux_given f) (aux_refused (aux_refusal f))

-- ---- writing

unfoldable pub aux_bytes : NwkAuxHeader → List ℕ
aux_bytes a =
    le 1 (security_byte a.security_control) ++ (le 4 a.frame_counter ++ (ieee_bytes a.extended_source ++ le 1 a.key_sequence_number))

-- no field can exceed its bits (13), and 14 bytes at the most are no more than 118 (17)
unfoldable pub aux_write_refusal : NwkAuxHeader → ℕ → ℕ
aux_write_refusal a room = first_of (on 18 (ltb room (length (aux_bytes a))) ∷ [])

unfoldable pub write_aux : NwkAuxHeader → List ℕ → Run
write_aux a o = written (aux_write_refusal a (length o)) (aux_bytes a) o
