-- Writing a NWK header (Zigbee Specification 3.3.1): its bytes, by the fields present and not by the bits, and the
-- refusals 13, 28, 17 and 18.
-- Assumes nothing.
use Rattle.std.specs.Prelude.{ℕ, Bool, not, ◌||◌, List, [], ◌∷◌, ◌++◌, length, ltb}
use Rattle.octets.specs.Numbers.{le}
use Rattle.octets.specs.Refusals.{on, by, first_of}
use Rattle.octets.specs.Writing.{Run, written}
use Rattle.header.specs.declared.{control.NwkFrameControl.NwkFrameControl, nwk.NwkHeader.NwkHeader}
use Rattle.header.specs.Optional.{multicast_bytes, route_bytes, relay_count}
use Rattle.types.specs.Optional.{ieee_bytes}
use Rattle.header.specs.Control.{control_word}
use Rattle.header.specs.Same.{agrees}

-- the eight bytes that every header has
unfoldable pub fixed_bytes : NwkHeader → List ℕ
fixed_bytes h =
    le 2 (control_word h.frame_control) ++ (le 2 h.destination.0 ++ (le 2 h.source.0 ++ (le 1 h.radius ++ le 1 h.sequence_number)))

-- the bytes of the fields that may be missing
unfoldable pub optional_bytes : NwkHeader → List ℕ
optional_bytes h =
    ieee_bytes h.destination_ieee ++ (ieee_bytes h.source_ieee ++ (multicast_bytes h.multicast_control ++ route_bytes h.source_route h.relays))

unfoldable pub header_bytes : NwkHeader → List ℕ
header_bytes h = fixed_bytes h ++ optional_bytes h

-- 13: a field exceeds its bits (version 4, bits 14-15), or the relays exceed their 54 places
unfoldable pub bad_control : NwkFrameControl → Bool
bad_control c = ltb 15 c.protocol_version || ltb 3 c.reserved1

unfoldable pub bad_header : NwkHeader → Bool
bad_header h = bad_control h.frame_control || ltb 54 (relay_count h.source_route)

-- the refusal of the fields, the first entry of every writer's list: 13, then document 02's 28 where a presence bit disagrees
unfoldable pub field_refusal : NwkHeader → ℕ
field_refusal h = first_of (on 13 (bad_header h) ∷ on 28 (not (agrees h)) ∷ [])

-- the refusals of writing a header into room places
unfoldable pub header_write_refusal : NwkHeader → ℕ → ℕ
header_write_refusal h room =
    first_of (by (field_refusal h)
    ∷ on 17 (ltb 118 (length (header_bytes h)))
    ∷ on 18 (ltb room (length (header_bytes h)))
    ∷ [])

unfoldable pub write_header : NwkHeader → List ℕ → Run
write_header h o = written (header_write_refusal h (length o)) (header_bytes h) o
