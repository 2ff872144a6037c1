-- The record of a header is not a bad one where the header itself is not, and the record of an auxiliary header never is:
-- each byte keeps to the limit of its place. What was read is not bad, so what reading fills in, writing takes.
-- Assumes nothing.
use mathlib.Core.Path.{◌≡◌, refl}
use mathlib.Core.Bool.{Bool, false, not, and-false}
use mathlib.Core.List.{List}
use Prim.Native.Nat.{ℕ, ◌<◌}
use native.Mathlib.Omega.{arith}
use borrow.Author.Tests.{eq-eqb}
use lib.Dec.{eqb}
use lib.ListN.{length, get_or, take, drop}
use Rattle.octets.specs.Strings.{Below}
use Rattle.octets.specs.Numbers.{le}
use Rattle.header.specs.declared.{control.NwkRouteDiscovery.NwkRouteDiscovery, nwk.NwkHeader.NwkHeader, auxiliary.NwkAuxHeader.NwkAuxHeader}
use Rattle.header.specs.Optional.{has_multicast, has_route}
use Rattle.types.specs.Optional.{has_ieee}
use Rattle.header.specs.Control.{discovery_code}
use Rattle.header.proofs.Codes.{bit_lt, type_lt, type_declared, level_lt, key_id_lt}
use Rattle.header.specs.Reading.{read_header}
use Rattle.header.specs.Writing.{bad_header}
use Rattle.header.proofs.Writable.{Good, header_good}
use Rattle.header.proofs.ReadFacts.{header_facts}
use Rattle.records.specs.Optional.{ieee_record, multicast_record, route_record}
use Rattle.records.specs.HeaderRecord.{address_record, optional_record, header_record, header_limits, bad_header_record}
use Rattle.records.specs.AuxiliaryRecord.{counter_record, aux_record, aux_limits, bad_aux_record}
use Rattle.records.proofs.Sizes.{length_header, length_aux}
use Rattle.records.proofs.WithinLimits.{Within, within_append, within_limits}

discovery_lt : (d : NwkRouteDiscovery) → discovery_code d < 3
discovery_lt NwkRouteDiscovery.Suppress = omega arith
discovery_lt NwkRouteDiscovery.Enable = omega arith
discovery_lt NwkRouteDiscovery.WithMulticast = omega arith

header_within : (h : NwkHeader) → Good h → Within header_limits (header_record h)
unfolding header_record address_record optional_record ieee_record multicast_record route_record le
header_within h g =
    let c = h.frame_control in
    within_append (take 10 header_limits) (drop 10 header_limits) (header_record h)
    (omega (
      arith,
      type_lt c.frame_type,
      discovery_lt c.discover_route,
      bit_lt c.multicast,
      bit_lt c.security,
      bit_lt c.source_route,
      bit_lt c.destination,
      bit_lt c.extended_source,
      bit_lt c.end_device_initiator,
    ))
    (omega (
      arith,
      bit_lt (has_ieee h.destination_ieee),
      bit_lt (has_ieee h.source_ieee),
      bit_lt (has_multicast h.multicast_control),
      bit_lt (has_route h.source_route),
    ))

pub aux_within : (present : Bool) (a : NwkAuxHeader) → Within aux_limits (aux_record present a)
unfolding aux_record counter_record ieee_record le
aux_within present a =
    let c = a.security_control in
    omega (
      arith,
      bit_lt present,
      level_lt c.security_level,
      key_id_lt c.key_id,
      bit_lt c.extended_nonce,
      bit_lt c.require_verified_frame_counter,
      bit_lt (has_ieee a.extended_source),
    )

-- ---- the two records

pub header_taken : (h : NwkHeader) → bad_header h ≡ false → bad_header_record (header_record h) ≡ false
unfolding bad_header_record header_record
header_taken h e =
    rw (
      eq-eqb (length (header_record h)) 147 (length_header h),
      type_declared h.frame_control.frame_type,
      within_limits header_limits (header_record h) (header_within h (header_good h e)),
    )
    refl

pub aux_taken : (present : Bool) (a : NwkAuxHeader) → bad_aux_record (aux_record present a) ≡ false
unfolding bad_aux_record
aux_taken present a =
    rw (eq-eqb _ 19 (length_aux present a), within_limits aux_limits _ (aux_within present a)) (and-false (not (eqb (get_or (aux_record present a) 0 0) 0)))

-- what was read
pub read_header_taken : (f : List ℕ) → Below 256 f → (read_header f).refusal ≡ 0 → bad_header_record (header_record (read_header f).header) ≡ false
read_header_taken f b e = header_taken (read_header f).header (header_facts f b e).fields.good
