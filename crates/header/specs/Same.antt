-- Document 01's e, on headers: when a presence bit agrees with its field, as a statement and as the test that the writers make,
-- and when two headers are the same. Apart from these, what every value of the two types has: each number is within its type's range.
-- Assumes nothing.
use Rattle.std.specs.Prelude.{◌≡◌, ℕ, ◌<◌, ◌^◌, Bool, cond, ◌&&◌, List, get_or, ltb, Option, Some, None}
use Rattle.std.specs.Bool.{beq}
use Rattle.octets.specs.Strings.{tab}
use Rattle.types.specs.Addresses.{no_nwk}
use Rattle.types.specs.declared.Nwk.{Nwk}
use Rattle.header.specs.declared.{optional.NwkSourceRoute.NwkSourceRoute, nwk.NwkHeader.NwkHeader, auxiliary.NwkAuxHeader.NwkAuxHeader}
use Rattle.header.specs.Optional.{has_multicast, has_route, relay_count}
use Rattle.types.specs.Optional.{has_ieee}

-- bits 11, 12, 8 and 10 of frame control are set exactly when their fields are present
pub record Agrees (h : NwkHeader) : Type 0 where
  pub destination : h.frame_control.destination ≡ has_ieee h.destination_ieee
  pub source : h.frame_control.extended_source ≡ has_ieee h.source_ieee
  pub multicast : h.frame_control.multicast ≡ has_multicast h.multicast_control
  pub route : h.frame_control.source_route ≡ has_route h.source_route

-- bit 5 of the security control is set exactly when the auxiliary header has an IEEE
abbrev pub AuxAgrees : NwkAuxHeader → Type 0
AuxAgrees a = a.security_control.extended_nonce ≡ has_ieee a.extended_source

-- both as tests, for the lists of the writers
unfoldable pub agrees : NwkHeader → Bool
agrees h =
    (beq h.frame_control.destination (has_ieee h.destination_ieee)
    && beq h.frame_control.extended_source (has_ieee h.source_ieee))
    && (beq h.frame_control.multicast (has_multicast h.multicast_control)
    && beq h.frame_control.source_route (has_route h.source_route))

unfoldable pub aux_agrees : NwkAuxHeader → Bool
aux_agrees a = beq a.security_control.extended_nonce (has_ieee a.extended_source)

-- the same fields are present and each is equal, a source route by its count, index and the addresses below the count
pub record SameHeader (h k : NwkHeader) : Type 0 where
  pub control : h.frame_control ≡ k.frame_control
  pub destination : h.destination ≡ k.destination
  pub source : h.source ≡ k.source
  pub radius : h.radius ≡ k.radius
  pub sequence : h.sequence_number ≡ k.sequence_number
  pub destination_ieee : h.destination_ieee ≡ k.destination_ieee
  pub source_ieee : h.source_ieee ≡ k.source_ieee
  pub multicast : h.multicast_control ≡ k.multicast_control
  pub route : h.source_route ≡ k.source_route
  pub relays : (i : ℕ) → i < relay_count h.source_route → get_or h.relays i no_nwk ≡ get_or k.relays i no_nwk

-- the header with the places past the relay count at 0
unfoldable pub cleared : NwkHeader → NwkHeader
cleared h =
    record {
      frame_control = h.frame_control;
      destination = h.destination;
      source = h.source;
      radius = h.radius;
      sequence_number = h.sequence_number;
      destination_ieee = h.destination_ieee;
      source_ieee = h.source_ieee;
      multicast_control = h.multicast_control;
      source_route = h.source_route;
      relays = tab (λ (i : ℕ). cond (ltb i (relay_count h.source_route)) (get_or h.relays i no_nwk) no_nwk) 54;
    }

-- ---- what every value has

abbrev pub IeeeFits : Option ℕ → Type 0
IeeeFits None = Unit {0}
IeeeFits (Some x) = x < 2 ^ 64

abbrev pub MulticastFits : Option ℕ → Type 0
MulticastFits None = Unit {0}
MulticastFits (Some x) = x < 2 ^ 8

abbrev pub RouteFits : Option NwkSourceRoute → Type 0
RouteFits None = Unit {0}
RouteFits (Some r) = (r.relay_count < 2 ^ 8) × (r.relay_index < 2 ^ 8)

abbrev pub RelaysFit : List Nwk → Type 0
RelaysFit rs = (i : ℕ) → (get_or rs i no_nwk).0 < 2 ^ 16

pub record HeaderFits (h : NwkHeader) : Type 0 where
  pub destination : h.destination.0 < 2 ^ 16
  pub source : h.source.0 < 2 ^ 16
  pub radius : h.radius < 2 ^ 8
  pub sequence : h.sequence_number < 2 ^ 8
  pub destination_ieee : IeeeFits h.destination_ieee
  pub source_ieee : IeeeFits h.source_ieee
  pub multicast : MulticastFits h.multicast_control
  pub route : RouteFits h.source_route
  pub relays : RelaysFit h.relays

pub record AuxFits (a : NwkAuxHeader) : Type 0 where
  pub counter : a.frame_counter < 2 ^ 32
  pub ieee : IeeeFits a.extended_source
  pub key_sequence : a.key_sequence_number < 2 ^ 8
