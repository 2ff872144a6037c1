-- Document 02, 8, at its edges: which presence bits are refused by 28, and in which order, as tables. What a row says of the
-- definitions is `Holds`; that every row of every table holds is one claim, in proofs/PresenceBits.antt.
-- Assumes nothing.
use Rattle.header.specs.declared.auxiliary.NwkAuxHeader.{NwkAuxHeader}
use Rattle.std.specs.Prelude.{◌≡◌, Bool, true, false, List, [], ◌∷◌, ◌++◌, ℕ, replicate, eqb, Option, Some, None}
use Rattle.types.specs.Addresses.{nwk, no_nwk}
use Rattle.types.specs.Optional.{ieee_if}
use Rattle.types.specs.declared.level.Level.{Level}
use Rattle.header.specs.declared.{auxiliary.NwkSecurityLevel.NwkSecurityLevel, auxiliary.NwkSecurityHeaderKeyId.NwkSecurityHeaderKeyId, control.NwkFrameType.NwkFrameType, control.NwkRouteDiscovery.NwkRouteDiscovery, nwk.NwkHeader.NwkHeader}
use Rattle.header.specs.Optional.{multicast_if, route_if}
use Rattle.header.specs.Writing.{write_header}
use Rattle.frame.specs.Writing.{write_frame}
use Rattle.frame.specs.Sealing.{seal_frame}
use Rattle.worked_frames.specs.LastCounter.{key}

-- ---- the rows

pub data Case : Type 0 where
  -- writing the header, alone or in a frame without a key, answers a number, 0 where it is accepted
  writing : NwkHeader → ℕ → Case
  -- sealing with the header and this auxiliary header, or none, answers a number
  sealing : NwkHeader → Option NwkAuxHeader → ℕ → Case

-- a frame's places
abbrev pub lent : List ℕ
lent = replicate 118 0xA5

abbrev pub Holds : Case → Type 0
Holds (writing h n) = ((write_header h lent).answer.refusal ≡ n) × ((write_frame h [] lent).answer.refusal ≡ n)
Holds (sealing h a n) = (seal_frame Level.EncMic32 key h a [] lent).answer.refusal ≡ n

-- ---- what the rows name

-- a header of this version and security bit; of bits 8, 10, 11 and 12 the one with this number is set, if any; of their fields the
-- one of the second number is there, if any, a source route without relays
unfoldable pub made : ℕ → Bool → ℕ → ℕ → NwkHeader
made version secured set there =
    record {
      frame_control = record {
        frame_type = NwkFrameType.Data;
        protocol_version = version;
        discover_route = NwkRouteDiscovery.Suppress;
        multicast = eqb set 8;
        security = secured;
        source_route = eqb set 10;
        destination = eqb set 11;
        extended_source = eqb set 12;
        end_device_initiator = false;
        reserved1 = 0;
      };
      destination = nwk 0;
      source = nwk 0x1234;
      radius = 30;
      sequence_number = 7;
      destination_ieee = ieee_if (eqb there 11) 0x8877665544332211;
      source_ieee = ieee_if (eqb there 12) 0xC3B2A11C004B1200;
      multicast_control = multicast_if (eqb there 8) 5;
      source_route = route_if (eqb there 10) 0 0;
      relays = replicate 54 no_nwk;
    }

-- an auxiliary header with this extended nonce bit, this address or none, and this counter
unfoldable pub auxiliary : Bool → Option ℕ → ℕ → Option NwkAuxHeader
auxiliary set ieee counter =
    Some
    (record {
      security_control = record {
        security_level = NwkSecurityLevel.NoSecurity;
        key_id = NwkSecurityHeaderKeyId.NetworkKey;
        extended_nonce = set;
        require_verified_frame_counter = false;
      };
      frame_counter = counter;
      extended_source = ieee;
      key_sequence_number = 0;
    })

-- one that agrees, with an address
unfoldable pub agreeing : Option NwkAuxHeader
agreeing = auxiliary true (Some 1) 1

-- a row for each of the four bits
unfoldable pub each : (ℕ → Case) → List Case
each row = row 8 ∷ row 10 ∷ row 11 ∷ row 12 ∷ []

-- ---- the tables

-- a bit without its field, a field without its bit (the request's own case is a long source address and bit 12 off), and both
unfoldable pub written_bits : List Case
written_bits =
    each (λ (n : ℕ). writing (made 2 false n 0) 28)
    ++ (each (λ (n : ℕ). writing (made 2 false 0 n) 28) ++ each (λ (n : ℕ). writing (made 2 false n n) 0))

unfoldable pub sealed_bits : List Case
sealed_bits =
    each (λ (n : ℕ). sealing (made 2 true n 0) agreeing 28)
    ++ (each (λ (n : ℕ). sealing (made 2 true 0 n) agreeing 28) ++ each (λ (n : ℕ). sealing (made 2 true n n) agreeing 0))

unfoldable pub in_order : List Case
in_order =
    -- bit 9: writing does not look at it; sealing does, also where there is no auxiliary header
    writing (made 2 true 0 0) 0
    ∷ sealing (made 2 true 0 0) agreeing 0
    ∷ sealing (made 2 false 0 0) agreeing 28
    ∷ sealing (made 2 false 0 0) None 28
    ∷ sealing (made 2 true 0 0) None 14
    ∷ sealing (made 2 true 12 0) None 28
    -- the header's bits are before 15 too
    ∷ sealing (made 2 false 0 0) (auxiliary false None 1) 28
    ∷ sealing (made 2 true 12 0) (auxiliary false None 1) 28
    -- the extended nonce bit, with no address anywhere and with the header's
    ∷ sealing (made 2 true 0 0) (auxiliary true None 1) 28
    ∷ sealing (made 2 true 0 0) (auxiliary false None 1) 15
    ∷ sealing (made 2 true 12 12) (auxiliary true None 1) 28
    ∷ sealing (made 2 true 12 12) (auxiliary false None 1) 0
    ∷ sealing (made 2 true 0 0) (auxiliary false (Some 1) 1) 28
    -- 13 is before 28, and 21 behind it
    ∷ writing (made 16 false 12 0) 13
    ∷ sealing (made 16 false 12 0) (auxiliary true None 1) 13
    ∷ sealing (made 2 true 0 0) (auxiliary true None 0xFFFFFFFF) 28
    ∷ sealing (made 2 true 0 0) (auxiliary true (Some 1) 0xFFFFFFFF) 21
    ∷ []

unfoldable pub cases : List (List Case)
cases = written_bits ∷ sealed_bits ∷ in_order ∷ []
