-- The opened record of a refusal is its number and zeros, by computing the definitions.
-- Assumes nothing.
use mathlib.Core.Path.{◌≡◌, refl}
use mathlib.Core.List.{◌∷◌}
use Prim.Native.Nat.{ℕ}
use Rattle.octets.specs.Strings.{tab}
use Rattle.octets.specs.Numbers.{le, le_at}
use Rattle.octets.specs.Fields.{fields}
use Rattle.header.specs.Control.{control_of}
use Rattle.header.specs.Optional.{relay_bytes}
use Rattle.header.specs.Reading.{source_at, multicast_at, route_at, relays_announced, relays_of, header_by, blank_header}
use Rattle.header.specs.AuxiliaryControl.{security_of}
use Rattle.header.specs.Auxiliary.{key_sequence_at, aux_by, blank_aux}
use Rattle.frame.specs.Opening.{open_refused}
use Rattle.records.specs.Optional.{ieee_record, multicast_record, route_record}
use Rattle.records.specs.HeaderRecord.{address_record, optional_record, header_record}
use Rattle.records.specs.AuxiliaryRecord.{counter_record, aux_record}
use Rattle.records.specs.OpenedRecord.{option_record, opened_front, opened_record}

pub refused_record : (n : ℕ) → opened_record (open_refused n) ≡ n ∷ tab (λ (i : ℕ). 0) 181
unfolding tab le le_at fields control_of relay_bytes source_at multicast_at route_at relays_announced relays_of header_by blank_header
    security_of key_sequence_at aux_by blank_aux open_refused ieee_record multicast_record route_record address_record optional_record
    header_record counter_record aux_record option_record opened_front opened_record
refused_record n = refl
