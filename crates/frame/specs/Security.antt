-- What sealing and opening share (Zigbee Specification 4.3.1.1, 4.3.1.2 and 4.5.2): the network's level in the auxiliary
-- header, the nonce and the authenticated bytes.
-- Assumes nothing.
use Rattle.std.specs.Prelude.{ℕ, Bool, true, false, not, ◌||◌, List, ◌++◌, Option, Some, None}
use Rattle.octets.specs.Numbers.{le}
use Rattle.header.specs.declared.{auxiliary.NwkSecurityLevel.NwkSecurityLevel, auxiliary.NwkAuxHeader.NwkAuxHeader, nwk.NwkHeader.NwkHeader}
use Rattle.types.specs.declared.level.Level.{Level}
use Rattle.types.specs.Optional.{has_ieee}
use Rattle.header.specs.AuxiliaryControl.{security_byte, with_level}
use Rattle.header.specs.Auxiliary.{aux_bytes, blank_aux}
use Rattle.header.specs.Writing.{header_bytes}

-- the network's level in the security control field (document 02, 9); another level is in no frame
abbrev pub field_level : Level → NwkSecurityLevel
field_level Level.EncMic32 = NwkSecurityLevel.EncMic32
field_level Level.EncMic64 = NwkSecurityLevel.EncMic64
field_level Level.EncMic128 = NwkSecurityLevel.EncMic128
field_level Level.Other = NwkSecurityLevel.NoSecurity

-- the level that is sent in its place
abbrev pub sent_level : NwkSecurityLevel
sent_level = NwkSecurityLevel.NoSecurity

-- the auxiliary header with the level l
unfoldable pub at_level : NwkSecurityLevel → NwkAuxHeader → NwkAuxHeader
at_level l a =
    record {
      security_control = with_level a.security_control l;
      frame_counter = a.frame_counter;
      extended_source = a.extended_source;
      key_sequence_number = a.key_sequence_number;
    }

abbrev pub is_absent : Option NwkAuxHeader → Bool
is_absent None = true
is_absent (Some a) = false

-- the auxiliary header that there is, or the blank one
abbrev pub or_blank : Option NwkAuxHeader → NwkAuxHeader
or_blank None = blank_aux
or_blank (Some a) = a

-- the nonce's IEEE: the auxiliary one, else the header's source
abbrev pub ieee_of : Option ℕ → Option ℕ → ℕ
ieee_of (Some x) s = x
ieee_of None (Some x) = x
ieee_of None None = 0

-- that address, or none where neither has one
abbrev pub nonce_ieee : Option ℕ → Option ℕ → Option ℕ
nonce_ieee (Some x) s = Some x
nonce_ieee None s = s

-- neither has one (refusal 15)
abbrev pub no_ieee : NwkHeader → NwkAuxHeader → Bool
no_ieee h a = not (has_ieee a.extended_source || has_ieee h.source_ieee)

-- 4.5.2.2: source address, frame counter, security control with the network's level
unfoldable pub nonce : Level → NwkHeader → NwkAuxHeader → List ℕ
nonce l h a =
    le 8 (ieee_of a.extended_source h.source_ieee) ++ (le 4 a.frame_counter ++ le 1 (security_byte (with_level a.security_control (field_level l))))

-- the authenticated bytes: both headers, with the network's level
unfoldable pub authenticated : Level → NwkHeader → NwkAuxHeader → List ℕ
authenticated l h a = header_bytes h ++ aux_bytes (at_level (field_level l) a)
