-- The header record, 147 bytes: 0 frame type, 1 protocol version, 2 discovery, 3 multicast bit, 4 security bit,
-- 5 source route bit, 6 destination IEEE bit, 7 source IEEE bit, 8 end device initiator, 9 bits 14-15, 10 destination,
-- 12 source, 14 radius, 15 sequence number, 16 destination IEEE, 25 source IEEE, 34 multicast control, 36 source route,
-- 39 its 54 relays. The bits are given as bits and the fields by their presence bytes; writers go by the fields.
-- Assumes nothing.
use Rattle.std.specs.Prelude.{ℕ, ◌+◌, ◌*◌, Bool, not, ◌||◌, List, [], ◌∷◌, ◌++◌, length, get_or, eqb}
use Rattle.octets.specs.Strings.{tab}
use Rattle.octets.specs.Numbers.{le, le_at}
use Rattle.types.specs.declared.Nwk.{Nwk}
use Rattle.types.specs.Addresses.{nwk}
use Rattle.header.specs.declared.nwk.NwkHeader.{NwkHeader}
use Rattle.header.specs.Control.{control_values, control_from}
use Rattle.header.specs.Optional.{relay_bytes}
use Rattle.records.specs.Limits.{exceeds}
use Rattle.records.specs.Optional.{ieee_record, ieee_in, multicast_record, multicast_in, route_record, route_in}

abbrev pub header_record_size : ℕ
header_record_size = 147

-- ---- the record of a header

-- 10 to 15
unfoldable pub address_record : ℕ → ℕ → ℕ → ℕ → List ℕ
address_record destination source radius sequence = le 2 destination ++ (le 2 source ++ (le 1 radius ++ le 1 sequence))

-- 16 to 35
unfoldable pub optional_record : NwkHeader → List ℕ
optional_record h =
    ieee_record h.destination_ieee ++ (ieee_record h.source_ieee ++ multicast_record h.multicast_control)

unfoldable pub header_record : NwkHeader → List ℕ
header_record h =
    control_values h.frame_control ++ (address_record h.destination.0 h.source.0 h.radius h.sequence_number
    ++ (optional_record h ++ (route_record h.source_route ++ relay_bytes 54 h.relays)))

-- ---- the header of a record

-- the relays from place i on
unfoldable pub relays_from : List ℕ → ℕ → List Nwk
relays_from r i = tab (λ (k : ℕ). nwk (le_at 2 r (i + 2 * k))) 54

unfoldable pub header_of : List ℕ → NwkHeader
header_of r =
    record {
      frame_control = control_from r;
      destination = nwk (le_at 2 r 10);
      source = nwk (le_at 2 r 12);
      radius = get_or r 14 0;
      sequence_number = get_or r 15 0;
      destination_ieee = ieee_in r 16;
      source_ieee = ieee_in r 25;
      multicast_control = multicast_in r 34;
      source_route = route_in r 36;
      relays = relays_from r 39;
    }

-- ---- records that encode nothing (refusal 13)

-- the greatest value of each byte from 0 to 36
abbrev pub header_limits : List ℕ
header_limits =
    3 ∷ 15 ∷ 2 ∷ 1 ∷ 1 ∷ 1 ∷ 1 ∷ 1 ∷ 1 ∷ 3
    ∷ 255 ∷ 255 ∷ 255 ∷ 255 ∷ 255 ∷ 255
    ∷ 1 ∷ 255 ∷ 255 ∷ 255 ∷ 255 ∷ 255 ∷ 255 ∷ 255 ∷ 255
    ∷ 1 ∷ 255 ∷ 255 ∷ 255 ∷ 255 ∷ 255 ∷ 255 ∷ 255 ∷ 255
    ∷ 1 ∷ 255 ∷ 1 ∷ []

-- another length, a byte that a field cannot take, or the frame type 2. A relay count above 54 is the header's own
-- refusal 13.
unfoldable pub bad_header_record : List ℕ → Bool
bad_header_record r = not (eqb (length r) header_record_size) || (eqb (get_or r 0 0) 2 || exceeds header_limits r)
