-- The frame control field (Zigbee Specification 3.3.1.1): its bit fields, lowest first, and the record they make.
-- Assumes nothing.
use Rattle.std.specs.Prelude.{ℕ, zero, suc, List, [], ◌∷◌, get_or, eqb}
use Rattle.octets.specs.Fields.{fields, packed, bit}
use Rattle.header.specs.declared.{control.NwkFrameType.NwkFrameType, control.NwkRouteDiscovery.NwkRouteDiscovery, control.NwkFrameControl.NwkFrameControl}

-- bits 0-1 type, 2-5 version, 6-7 discovery, 8 multicast, 9 security, 10 source route, 11 destination IEEE,
-- 12 source IEEE, 13 end device initiator, 14-15 kept
abbrev pub control_sizes : List ℕ
control_sizes = 2 ∷ 4 ∷ 2 ∷ 1 ∷ 1 ∷ 1 ∷ 1 ∷ 1 ∷ 1 ∷ 2 ∷ []

-- frame type: 0 data, 1 command, 3 inter-PAN
abbrev pub type_code : NwkFrameType → ℕ
type_code NwkFrameType.Data = 0
type_code NwkFrameType.Command = 1
type_code NwkFrameType.Interpan = 3

-- the type of a code; 2 is refused before this is asked
abbrev pub type_of : ℕ → NwkFrameType
type_of zero = NwkFrameType.Data
type_of (suc zero) = NwkFrameType.Command
type_of (suc (suc n)) = NwkFrameType.Interpan

-- discovery: 0 suppress, 1 enable, 2 with multicast
abbrev pub discovery_code : NwkRouteDiscovery → ℕ
discovery_code NwkRouteDiscovery.Suppress = 0
discovery_code NwkRouteDiscovery.Enable = 1
discovery_code NwkRouteDiscovery.WithMulticast = 2

-- the discovery of a code; 3 is refused before this is asked
abbrev pub discovery_of : ℕ → NwkRouteDiscovery
discovery_of zero = NwkRouteDiscovery.Suppress
discovery_of (suc zero) = NwkRouteDiscovery.Enable
discovery_of (suc (suc n)) = NwkRouteDiscovery.WithMulticast

-- the values of the ten fields
abbrev pub control_values : NwkFrameControl → List ℕ
control_values c =
    type_code c.frame_type ∷ c.protocol_version ∷ discovery_code c.discover_route
    ∷ bit c.multicast ∷ bit c.security ∷ bit c.source_route ∷ bit c.destination
    ∷ bit c.extended_source ∷ bit c.end_device_initiator ∷ c.reserved1 ∷ []

-- the record of ten values
abbrev pub control_from : List ℕ → NwkFrameControl
control_from v =
    record {
      frame_type = type_of (get_or v 0 0);
      protocol_version = get_or v 1 0;
      discover_route = discovery_of (get_or v 2 0);
      multicast = eqb (get_or v 3 0) 1;
      security = eqb (get_or v 4 0) 1;
      source_route = eqb (get_or v 5 0) 1;
      destination = eqb (get_or v 6 0) 1;
      extended_source = eqb (get_or v 7 0) 1;
      end_device_initiator = eqb (get_or v 8 0) 1;
      reserved1 = get_or v 9 0;
    }

-- the field's 16 bits
unfoldable pub control_word : NwkFrameControl → ℕ
control_word c = packed control_sizes (control_values c)

-- the field of 16 bits
unfoldable pub control_of : ℕ → NwkFrameControl
control_of w = control_from (fields control_sizes w)
