-- The header, and the auxiliary header, that its record says is the header itself: every field stands at its own place,
-- so each is read back by the law of its kind.
-- Assumes nothing.
use Rattle.std.specs.Prelude.{Option, Some, None}
use mathlib.Core.Path.{◌≡◌, refl, sym, ap, ◌∙◌}
use mathlib.Core.Bool.{Bool}
use mathlib.Core.List.{List, [], ◌++◌, append-nil}
use Prim.Native.Nat.{ℕ, ◌+◌, ◌*◌}
use native.Mathlib.Nat.{mod-eq_of_lt}
use native.Mathlib.Omega.{arith}
use lib.ListN.{length, get_or}
use lib.Seq.{take_all}
use Rattle.octets.specs.Numbers.{le, le_at}
use Rattle.octets.proofs.Strings.{tab_ext, tab_get_or}
use Rattle.octets.proofs.Numbers.{le_at_le, le_at_behind}
use Rattle.types.specs.declared.Nwk.{Nwk}
use Rattle.types.specs.Addresses.{nwk, no_nwk}
use Rattle.header.specs.declared.{optional.NwkSourceRoute.NwkSourceRoute, control.NwkFrameControl.NwkFrameControl, nwk.NwkHeader.NwkHeader, auxiliary.NwkAuxHeader.NwkAuxHeader}
use Rattle.header.specs.Control.{control_values, control_from}
use Rattle.header.specs.Optional.{relay_bytes}
use Rattle.header.specs.Same.{IeeeFits, MulticastFits, RouteFits, RelaysFit, HeaderFits, AuxFits}
use Rattle.header.proofs.Codes.{bit_back, type_back, discovery_back, level_back, key_id_back}
use Rattle.header.proofs.OptionalFields.{relay_at_lem}
use Rattle.records.specs.Optional.{ieee_record, ieee_in, multicast_record, multicast_in, route_record, route_in}
use Rattle.records.specs.HeaderRecord.{address_record, optional_record, header_record, relays_from, header_of}
use Rattle.records.specs.AuxiliaryRecord.{counter_record, aux_record, security_at, aux_of, aux_present}

-- ---- the optional fields

pub ieee_written : (o : Option ℕ) (rest : List ℕ) → IeeeFits o → ieee_in (ieee_record o ++ rest) 0 ≡ o
unfolding ieee_in ieee_record le le_at
ieee_written None rest h = refl
ieee_written (Some x) rest h = ap Some (le_at_le 8 x rest h)

multicast_written : (o : Option ℕ) (rest : List ℕ) → MulticastFits o → multicast_in (multicast_record o ++ rest) 0 ≡ o
unfolding multicast_in multicast_record le
multicast_written None rest h = refl
multicast_written (Some x) rest h = ap Some (mod-eq_of_lt h)

route_written : (o : Option NwkSourceRoute) (rest : List ℕ) → RouteFits o → route_in (route_record o ++ rest) 0 ≡ o
unfolding route_in route_record le
route_written None rest h = refl
route_written (Some r) rest h = λ i. Some (record { relay_count = mod-eq_of_lt h.0 i; relay_index = mod-eq_of_lt h.1 i })

-- ---- the frame control

control_back : (c : NwkFrameControl) (rest : List ℕ) → control_from (control_values c ++ rest) ≡ c
control_back c rest =
    λ i. record {
      frame_type = type_back c.frame_type i;
      protocol_version = c.protocol_version;
      discover_route = discovery_back c.discover_route i;
      multicast = bit_back c.multicast i;
      security = bit_back c.security i;
      source_route = bit_back c.source_route i;
      destination = bit_back c.destination i;
      extended_source = bit_back c.extended_source i;
      end_device_initiator = bit_back c.end_device_initiator i;
      reserved1 = c.reserved1;
    }

-- ---- the two headers

-- what stands before the optional fields, the multicast control, the source route and the relays
abbrev front : NwkHeader → List ℕ
front h = control_values h.frame_control ++ address_record h.destination.0 h.source.0 h.radius h.sequence_number

abbrev before_relays : NwkHeader → List ℕ
before_relays h = front h ++ (ieee_record h.destination_ieee ++ (ieee_record h.source_ieee ++ (multicast_record h.multicast_control ++ route_record h.source_route)))

relays_back : (p : List ℕ) (rs : List Nwk) (i : ℕ) → length p ≡ i → length rs ≡ 54 → RelaysFit rs → relays_from (p ++ relay_bytes 54 rs) i ≡ rs
unfolding relays_from
relays_back p rs i e l b =
    tab_ext _ (λ (k : ℕ). get_or rs k no_nwk) 54
    (λ k s. ap nwk (ap (λ (n : ℕ). le_at 2 (p ++ relay_bytes 54 rs) (n + 2 * k)) (sym e) ∙ le_at_behind 2 p (relay_bytes 54 rs) (2 * k)
    ∙ ap (λ (s : List ℕ). le_at 2 s (2 * k)) (sym (append-nil (relay_bytes 54 rs)))) ∙ relay_at_lem 54 rs [] k b s)
    ∙ tab_get_or rs no_nwk 54 (omega arith) ∙ take_all 54 rs (omega arith)

-- the header of a header's record, whose relays have their 54 places
pub header_back : (h : NwkHeader) → HeaderFits h → length h.relays ≡ 54 → header_of (header_record h) ≡ h
unfolding header_of header_record address_record optional_record ieee_record multicast_record route_record ieee_in multicast_in route_in le le_at
header_back h f l =
    let rl = relay_bytes 54 h.relays in
    let rt = route_record h.source_route ++ rl in
    let mc = multicast_record h.multicast_control ++ rt in
    let si = ieee_record h.source_ieee ++ mc in
    let di = ieee_record h.destination_ieee ++ si in
    λ i. record {
      frame_control = control_back h.frame_control (address_record h.destination.0 h.source.0 h.radius h.sequence_number ++ di) i;
      destination = record { 0 = le_at_le 2 h.destination.0 (le 2 h.source.0 ++ (le 1 h.radius ++ (le 1 h.sequence_number ++ di))) f.destination i };
      source = record { 0 = le_at_le 2 h.source.0 (le 1 h.radius ++ (le 1 h.sequence_number ++ di)) f.source i };
      radius = mod-eq_of_lt f.radius i;
      sequence_number = mod-eq_of_lt f.sequence i;
      destination_ieee = ieee_written h.destination_ieee si f.destination_ieee i;
      source_ieee = ieee_written h.source_ieee mc f.source_ieee i;
      multicast_control = multicast_written h.multicast_control rt f.multicast i;
      source_route = route_written h.source_route rl f.route i;
      relays = relays_back (before_relays h) h.relays 39 refl l f.relays i;
    }

-- the auxiliary header of an auxiliary header's record, and its presence
pub aux_back : (present : Bool) (a : NwkAuxHeader) → AuxFits a → aux_of (aux_record present a) ≡ a
unfolding aux_of security_at aux_record counter_record ieee_record ieee_in le le_at
aux_back present a f =
    let c = a.security_control in
    λ i. record {
      security_control = record {
        security_level = level_back c.security_level i;
        key_id = key_id_back c.key_id i;
        extended_nonce = bit_back c.extended_nonce i;
        require_verified_frame_counter = bit_back c.require_verified_frame_counter i;
      };
      frame_counter = le_at_le 4 a.frame_counter (ieee_record a.extended_source ++ le 1 a.key_sequence_number) f.counter i;
      extended_source = ieee_written a.extended_source (le 1 a.key_sequence_number) f.ieee i;
      key_sequence_number = mod-eq_of_lt f.key_sequence i;
    }

pub present_back : (present : Bool) (a : NwkAuxHeader) → aux_present (aux_record present a) ≡ present
unfolding aux_record
present_back present a = bit_back present
