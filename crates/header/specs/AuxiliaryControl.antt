-- The security control field (Zigbee Specification 4.5.1.1): its bit fields, lowest first. Bit 7 is skipped on reading
-- and 0 on writing.
-- Assumes nothing.
use Rattle.std.specs.Prelude.{ℕ, zero, suc, List, [], ◌∷◌, get_or, eqb}
use Rattle.octets.specs.Fields.{fields, packed, bit}
use Rattle.header.specs.declared.{auxiliary.NwkSecurityLevel.NwkSecurityLevel, auxiliary.NwkSecurityHeaderKeyId.NwkSecurityHeaderKeyId, auxiliary.NwkSecurityHeaderControlField.NwkSecurityHeaderControlField}

-- bits 0-2 level, 3-4 key id, 5 extended nonce, 6 verified counter, 7 skipped
abbrev pub security_sizes : List ℕ
security_sizes = 3 ∷ 2 ∷ 1 ∷ 1 ∷ 1 ∷ []

abbrev pub level_code : NwkSecurityLevel → ℕ
level_code NwkSecurityLevel.NoSecurity = 0
level_code NwkSecurityLevel.Mic32 = 1
level_code NwkSecurityLevel.Mic64 = 2
level_code NwkSecurityLevel.Mic128 = 3
level_code NwkSecurityLevel.Enc = 4
level_code NwkSecurityLevel.EncMic32 = 5
level_code NwkSecurityLevel.EncMic64 = 6
level_code NwkSecurityLevel.EncMic128 = 7

-- the level of a code below 8
abbrev pub level_of : ℕ → NwkSecurityLevel
level_of zero = NwkSecurityLevel.NoSecurity
level_of (suc zero) = NwkSecurityLevel.Mic32
level_of (suc (suc zero)) = NwkSecurityLevel.Mic64
level_of (suc (suc (suc zero))) = NwkSecurityLevel.Mic128
level_of (suc (suc (suc (suc zero)))) = NwkSecurityLevel.Enc
level_of (suc (suc (suc (suc (suc zero))))) = NwkSecurityLevel.EncMic32
level_of (suc (suc (suc (suc (suc (suc zero)))))) = NwkSecurityLevel.EncMic64
level_of (suc (suc (suc (suc (suc (suc (suc n))))))) = NwkSecurityLevel.EncMic128

abbrev pub key_id_code : NwkSecurityHeaderKeyId → ℕ
key_id_code NwkSecurityHeaderKeyId.DataKey = 0
key_id_code NwkSecurityHeaderKeyId.NetworkKey = 1
key_id_code NwkSecurityHeaderKeyId.KeyTransportKey = 2
key_id_code NwkSecurityHeaderKeyId.KeyLoadKey = 3

-- the key identifier of a code below 4
abbrev pub key_id_of : ℕ → NwkSecurityHeaderKeyId
key_id_of zero = NwkSecurityHeaderKeyId.DataKey
key_id_of (suc zero) = NwkSecurityHeaderKeyId.NetworkKey
key_id_of (suc (suc zero)) = NwkSecurityHeaderKeyId.KeyTransportKey
key_id_of (suc (suc (suc n))) = NwkSecurityHeaderKeyId.KeyLoadKey

-- the values of the five fields, bit 7 being 0
abbrev pub security_values : NwkSecurityHeaderControlField → List ℕ
security_values c =
    level_code c.security_level ∷ key_id_code c.key_id ∷ bit c.extended_nonce
    ∷ bit c.require_verified_frame_counter ∷ 0 ∷ []

abbrev pub security_from : List ℕ → NwkSecurityHeaderControlField
security_from v =
    record {
      security_level = level_of (get_or v 0 0);
      key_id = key_id_of (get_or v 1 0);
      extended_nonce = eqb (get_or v 2 0) 1;
      require_verified_frame_counter = eqb (get_or v 3 0) 1;
    }

-- the field's byte
unfoldable pub security_byte : NwkSecurityHeaderControlField → ℕ
security_byte c = packed security_sizes (security_values c)

-- the field of a byte
unfoldable pub security_of : ℕ → NwkSecurityHeaderControlField
security_of b = security_from (fields security_sizes b)

-- the field with another level
unfoldable pub with_level : NwkSecurityHeaderControlField → NwkSecurityLevel → NwkSecurityHeaderControlField
with_level c l =
    record {
      security_level = l;
      key_id = c.key_id;
      extended_nonce = c.extended_nonce;
      require_verified_frame_counter = c.require_verified_frame_counter;
    }
