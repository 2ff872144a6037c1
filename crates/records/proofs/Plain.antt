-- The records of which RecordBack speaks are those that are filled in: every record of a header that is not bad, and
-- every record of an auxiliary header, is bytes, is not bad, and has 0 in its absent fields.
-- Assumes nothing.
use Rattle.std.specs.Prelude.{Option, Some, None}
use mathlib.Core.Path.{◌≡◌, refl, sym, ap, ◌∙◌}
use mathlib.Core.Bool.{Bool, false}
use mathlib.Core.List.{List, [], ◌∷◌, ◌++◌}
use Prim.Native.Nat.{ℕ, zero, suc, ◌+◌, ◌<◌}
use native.Mathlib.Nat.{add_assoc}
use native.Mathlib.Numerals.{one-add}
use native.Mathlib.Omega.{arith}
use lib.ListN.{length, get_or}
use lib.Seq.{get_or-append-add}
use Rattle.octets.specs.Strings.{Below}
use Rattle.octets.specs.Numbers.{le}
use Rattle.octets.proofs.Numbers.{le_below}
use Rattle.types.specs.declared.Nwk.{Nwk}
use Rattle.header.specs.declared.{optional.NwkSourceRoute.NwkSourceRoute, control.NwkFrameControl.NwkFrameControl, nwk.NwkHeader.NwkHeader, auxiliary.NwkAuxHeader.NwkAuxHeader}
use Rattle.header.specs.Optional.{relay_bytes}
use Rattle.header.specs.Control.{control_values}
use Rattle.header.specs.Writing.{bad_header}
use Rattle.header.proofs.Codes.{bit_lt, type_lt, discovery_lt, level_lt, key_id_lt}
use Rattle.header.proofs.Writable.{Good, header_good}
use Rattle.header.proofs.ReadBack.{get_or_at₀}
use Rattle.records.specs.Optional.{ieee_record, multicast_record, route_record}
use Rattle.records.specs.HeaderRecord.{address_record, optional_record, header_record}
use Rattle.records.specs.AuxiliaryRecord.{security_record, counter_record, aux_record, aux_limits}
use Rattle.records.proofs.Sizes.{length_aux}
use Rattle.records.proofs.WithinLimits.{within_limits}
use Rattle.records.proofs.Accepted.{header_taken, aux_within}
use Rattle.records.proofs.FieldsBack.{Blank}
use Rattle.records.proofs.RecordBack.{HeaderPlain, AuxPlain}

-- ---- bytes

-- each entry is a byte
abbrev Each : List ℕ → Type 0
Each [] = Unit {0}
Each (x ∷ xs) = (x < 256) × Each xs

record Bytes (xs : List ℕ) : Type 0 where
  each : Below 256 xs

cons : (x : ℕ) (xs : List ℕ) → x < 256 → Bytes xs → Bytes (x ∷ xs)
cons x xs h p = record { each = at }
  where
    at : Below 256 (x ∷ xs)
    at zero = h
    at (suc i) = p.each i

written_out : (xs : List ℕ) → Each xs → Bytes xs
written_out [] p = record { each = λ i. omega arith }
written_out (x ∷ xs) p = cons x xs p.0 (written_out xs p.1)

joined : (xs ys : List ℕ) → Bytes xs → Bytes ys → Bytes (xs ++ ys)
joined [] ys p q = q
joined (x ∷ xs) ys p q = cons x (xs ++ ys) (p.each 0) (joined xs ys (record { each = λ i. p.each (suc i) }) q)

number : (n x : ℕ) → Bytes (le n x)
number n x = record { each = le_below n x }

relays_bytes : (n : ℕ) (rs : List Nwk) → Bytes (relay_bytes n rs)
unfolding relay_bytes
relays_bytes zero rs = written_out [] tt
relays_bytes (suc n) rs = joined (relay_bytes n rs) _ (relays_bytes n rs) (number 2 _)

control_bytes : (c : NwkFrameControl) → c.protocol_version < 16 → c.reserved1 < 4 → Bytes (control_values c)
control_bytes c v k =
    written_out (control_values c)
    (omega (
      arith,
      type_lt c.frame_type,
      discovery_lt c.discover_route,
      bit_lt c.multicast,
      bit_lt c.security,
      bit_lt c.source_route,
      bit_lt c.destination,
      bit_lt c.extended_source,
      bit_lt c.end_device_initiator,
    ))

header_bytes_lem : (h : NwkHeader) → Good h → Bytes (header_record h)
unfolding header_record address_record optional_record ieee_record multicast_record route_record
header_bytes_lem h g =
    joined (control_values h.frame_control) _ (control_bytes h.frame_control g.version g.kept) (search (joined, number, relays_bytes) depth 8)

aux_bytes_lem : (present : Bool) (a : NwkAuxHeader) → Bytes (aux_record present a)
unfolding aux_record counter_record ieee_record
aux_bytes_lem present a =
    let c = a.security_control in
    joined (security_record present c) _
    (written_out (security_record present c)
    (omega (
      arith,
      bit_lt present,
      level_lt c.security_level,
      key_id_lt c.key_id,
      bit_lt c.extended_nonce,
      bit_lt c.require_verified_frame_counter,
    )))
    (search (joined, number))

-- ---- absent fields

-- a field at the front of s, behind the bytes p
blank_behind : (p s : List ℕ) (i n : ℕ) → length p ≡ i → Blank s 0 n → Blank (p ++ s) i n
blank_behind p s i n e z h k l =
    ap (λ (j : ℕ). get_or (p ++ s) (j + 1 + k) 0) (sym e) ∙ rw (add_assoc (length p) 1 k) (get_or-append-add p s (1 + k) 0)
    ∙ z (sym (get_or_at₀ p s i e) ∙ h) k l

-- an absent field of n bytes
zeros_blank : (n : ℕ) (rest : List ℕ) → Blank (0 ∷ (le n 0 ++ rest)) 0 n
unfolding le
zeros_blank zero rest h k l = absurd (omega arith)
zeros_blank (suc n) rest h zero l = refl
zeros_blank (suc n) rest h (suc k) l = rw one-add (rw one-add at (zeros_blank n rest refl k (omega arith)))

ieee_blank : (o : Option ℕ) (rest : List ℕ) → Blank (ieee_record o ++ rest) 0 8
unfolding ieee_record le
ieee_blank None rest = zeros_blank 8 rest
ieee_blank (Some x) rest = λ h. absurd (omega arith)

multicast_blank : (o : Option ℕ) (rest : List ℕ) → Blank (multicast_record o ++ rest) 0 1
unfolding multicast_record le
multicast_blank None rest = zeros_blank 1 rest
multicast_blank (Some x) rest = λ h. absurd (omega arith)

route_blank : (o : Option NwkSourceRoute) (rest : List ℕ) → Blank (route_record o ++ rest) 0 2
unfolding route_record le
route_blank None rest = zeros_blank 2 rest
route_blank (Some r) rest = λ h. absurd (omega arith)

-- ---- the two records

pub header_plain : (h : NwkHeader) → bad_header h ≡ false → HeaderPlain (header_record h)
unfolding header_record address_record optional_record ieee_record multicast_record route_record le
header_plain h e =
    let front = control_values h.frame_control ++ address_record h.destination.0 h.source.0 h.radius h.sequence_number in
    let destination = ieee_record h.destination_ieee in
    let source = ieee_record h.source_ieee in
    let multicast = multicast_record h.multicast_control in
    let relays = relay_bytes 54 h.relays in
    let route = route_record h.source_route ++ relays in
    record {
      bytes = (header_bytes_lem h (header_good h e)).each;
      good = header_taken h e;
      destination_ieee = blank_behind front (destination ++ (source ++ (multicast ++ route))) 16 8 refl (ieee_blank h.destination_ieee (source ++ (multicast ++ route)));
      source_ieee = blank_behind (front ++ destination) (source ++ (multicast ++ route)) 25 8 refl (ieee_blank h.source_ieee (multicast ++ route));
      multicast = blank_behind (front ++ (destination ++ source)) (multicast ++ route) 34 1 refl (multicast_blank h.multicast_control route);
      route = blank_behind (front ++ (destination ++ (source ++ multicast))) route 36 2 refl (route_blank h.source_route relays);
    }

pub aux_plain : (present : Bool) (a : NwkAuxHeader) → AuxPlain (aux_record present a)
unfolding aux_record counter_record ieee_record le
aux_plain present a =
    let source = a.extended_source in
    let rest = le 1 a.key_sequence_number in
    record {
      bytes = (aux_bytes_lem present a).each;
      size = length_aux present a;
      limits = within_limits aux_limits (aux_record present a) (aux_within present a);
      ieee = blank_behind (security_record present a.security_control ++ le 4 a.frame_counter) (ieee_record source ++ rest) 9 8 refl (ieee_blank source rest);
    }
