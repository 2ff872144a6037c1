-- Document 02, 4, at its boundary: the last counter and the one before it, as one table. What a row says of the definitions
-- is `Holds`; that every row holds is one claim, in proofs/LastCounter.antt. Ciphertext and MIC of the two frames are another
-- AES-CCM's (the Python library cryptography, 48.0.0).
-- Assumes nothing.
use Rattle.header.specs.declared.auxiliary.NwkAuxHeader.{NwkAuxHeader}
use Rattle.std.specs.Prelude.{◌≡◌, true, false, List, [], ◌∷◌, ◌++◌, ℕ, length, drop, replicate, Option, Some, None}
use Rattle.types.specs.Addresses.{no_nwk}
use Rattle.types.specs.Optional.{has_ieee}
use Rattle.types.specs.declared.level.Level.{Level}
use Rattle.header.specs.declared.{auxiliary.NwkSecurityLevel.NwkSecurityLevel, auxiliary.NwkSecurityHeaderKeyId.NwkSecurityHeaderKeyId, control.NwkFrameType.NwkFrameType, control.NwkRouteDiscovery.NwkRouteDiscovery, nwk.NwkHeader.NwkHeader}
use Rattle.frame.specs.Sealing.{seal_frame}
use Rattle.frame.specs.Opening.{Mark, open_frame}
use Rattle.boundary.specs.Starred.{from_probe}
use Rattle.worked_frames.specs.Bytes.{hex}

-- ---- the rows, each at level 5 under the one key and header

pub data Case : Type 0 where
  -- with this auxiliary header a payload is sealed as a byte string
  seals : Option NwkAuxHeader → List ℕ → List ℕ → Case
  -- with this auxiliary header sealing refuses a payload by a number
  refuses : Option NwkAuxHeader → List ℕ → ℕ → Case
  -- a frame opens to this auxiliary header, this address that the nonce used, and this payload
  opens : List ℕ → Option NwkAuxHeader → Option ℕ → List ℕ → Case

unfoldable pub key : List ℕ
key = hex 16 0x01030507090B0D0F00020406080A0C0D

-- data, version 2, source 0x1234, radius 30, sequence 7, the security bit set
unfoldable pub probe : NwkHeader
probe =
    from_probe
    (record {
      frame_type = NwkFrameType.Data;
      protocol_version = 2;
      discover_route = NwkRouteDiscovery.Suppress;
      multicast = false;
      security = true;
      source_route = false;
      destination = false;
      extended_source = false;
      end_device_initiator = false;
      reserved1 = 0;
    })
    None (replicate 54 no_nwk)

-- an output of thirty bytes that are not 0, so that what stays of it is seen
abbrev pub lent : List ℕ
lent = replicate 30 0xA5

-- what a row says: the operation's whole answer and its whole output
abbrev pub Holds : Case → Type 0
Holds (seals a p f) = seal_frame Level.EncMic32 key probe a p lent ≡ record { answer = record { refusal = 0; length = length f }; out = f ++ drop (length f) lent }
Holds (refuses a p n) = seal_frame Level.EncMic32 key probe a p lent ≡ record { answer = record { refusal = n; length = 0 }; out = lent }
Holds (opens f a ieee p) =
    open_frame Level.EncMic32 key f lent
    ≡ record {
      answer = record { refusal = 0; mark = Mark.Sealed; length = length p; nonce_ieee = ieee; header = probe; aux = a };
      out = p ++ drop (length p) lent;
    }

-- ---- what the rows name

-- an auxiliary header under the network key, with this address for the nonce or none, and this counter
unfoldable pub counted : Option ℕ → ℕ → Option NwkAuxHeader
counted ieee counter =
    Some
    (record {
      security_control = record {
        security_level = NwkSecurityLevel.NoSecurity;
        key_id = NwkSecurityHeaderKeyId.NetworkKey;
        extended_nonce = has_ieee ieee;
        require_verified_frame_counter = false;
      };
      frame_counter = counter;
      extended_source = ieee;
      key_sequence_number = 0;
    })

-- the address whose bytes in a frame are `0D 6F 00 11 22 33 44 55`
unfoldable pub probe_ieee : Option ℕ
probe_ieee = Some 0x5544332211006F0D

-- one byte, `AA`, sealed with it under the counter before the last one, and under the last one
unfoldable pub sealed_before : List ℕ
sealed_before = hex 27 0x0802000034121E0728FEFFFFFF0D6F00112233445500D96FB00333

unfoldable pub sealed_last : List ℕ
sealed_last = hex 27 0x0802000034121E0728FFFFFFFF0D6F001122334455003F9EFEE197

-- ---- the table

unfoldable pub cases : List Case
cases =
    seals (counted probe_ieee 0xFFFFFFFE) (0xAA ∷ []) sealed_before
    ∷ refuses (counted probe_ieee 0xFFFFFFFF) (0xAA ∷ []) 21
    -- with no address as well; and with no auxiliary header, which has the counter
    ∷ refuses (counted None 0xFFFFFFFF) (0xAA ∷ []) 15
    ∷ refuses None (0xAA ∷ []) 14
    -- a payload of 93 bytes, which makes a frame of 119: 21 is before 17
    ∷ refuses (counted probe_ieee 0xFFFFFFFF) (replicate 93 0xAA) 21
    ∷ refuses (counted probe_ieee 0xFFFFFFFE) (replicate 93 0xAA) 17
    ∷ opens sealed_last (counted probe_ieee 0xFFFFFFFF) probe_ieee (0xAA ∷ [])
    ∷ []
