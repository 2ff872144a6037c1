-- Reading a NWK header (Zigbee Specification 3.3.1): where each field stands, the refusals in document 01's order, the
-- record, and where the header ends. Every definition is total on every byte string: a byte past the end counts 0.
-- Assumes nothing.
use Rattle.std.specs.Prelude.{ℕ, ◌+◌, ◌*◌, ◌/◌, ◌%◌, cond, List, [], ◌∷◌, length, get_or, eqb, ltb, Result, Ok, Err}
use Rattle.octets.specs.Strings.{tab}
use Rattle.octets.specs.Numbers.{le_at}
use Rattle.octets.specs.declared.refusals.Refusal.{Refusal}
use Rattle.octets.specs.Refusals.{unless, Condition, on, first_of, number_of}
use Rattle.header.specs.declared.{control.NwkFrameControl.NwkFrameControl, nwk.NwkHeader.NwkHeader}
use Rattle.header.specs.Optional.{multicast_if, route_if}
use Rattle.types.specs.declared.Nwk.{Nwk}
use Rattle.types.specs.Addresses.{nwk, no_nwk}
use Rattle.types.specs.Optional.{ieee_if}
use Rattle.octets.specs.Fields.{bit}
use Rattle.header.specs.Control.{control_of}

-- ---- where each field stands: frame control at 0, destination 2, source 4, radius 6, sequence 7, destination IEEE 8

abbrev pub control : List ℕ → NwkFrameControl
control f = control_of (le_at 2 f 0)

-- the source IEEE's place
unfoldable pub source_at : NwkFrameControl → ℕ
source_at c = 8 + 8 * bit c.destination

-- the multicast control's place
unfoldable pub multicast_at : NwkFrameControl → ℕ
multicast_at c = source_at c + 8 * bit c.extended_source

-- the source route's place
unfoldable pub route_at : NwkFrameControl → ℕ
route_at c = multicast_at c + bit c.multicast

-- the relays that the frame announces, if it has a source route
unfoldable pub relays_announced : List ℕ → NwkFrameControl → ℕ
relays_announced f c = cond c.source_route (get_or f (route_at c) 0) 0

-- behind the header: a source route has 2 + 2n bytes
unfoldable pub header_end : List ℕ → NwkFrameControl → ℕ
header_end f c = route_at c + cond c.source_route (2 + 2 * relays_announced f c) 0

-- ---- the refusals, document 01's numbers 1 to 8

-- 5 to 8: a field that the frame control announces ends past the bytes
unfoldable pub optional_refusals : List ℕ → NwkFrameControl → List Condition
optional_refusals f c =
    on 5 (ltb (length f) (source_at c))
    ∷ on 6 (ltb (length f) (multicast_at c))
    ∷ on 7 (ltb (length f) (route_at c))
    ∷ on 8 (ltb (length f) (header_end f c))
    ∷ []

unfoldable pub header_refusal : List ℕ → ℕ
header_refusal f =
    first_of (on 1 (ltb 118 (length f))
    ∷ on 2 (ltb (length f) 8)
    ∷ on 3 (eqb (le_at 2 f 0 % 4) 2)
    ∷ on 4 (eqb (le_at 2 f 0 / 64 % 4) 3)
    ∷ optional_refusals f (control f))

-- ---- the record

-- the addresses of the relays, and 0 past their count
unfoldable pub relays_of : List ℕ → NwkFrameControl → List Nwk
relays_of f c = tab (λ (i : ℕ). cond (ltb i (relays_announced f c)) (nwk (le_at 2 f (route_at c + 2 + 2 * i))) no_nwk) 54

unfoldable pub header_by : List ℕ → NwkFrameControl → NwkHeader
header_by f c =
    record {
      frame_control = c;
      destination = nwk (le_at 2 f 2);
      source = nwk (le_at 2 f 4);
      radius = get_or f 6 0;
      sequence_number = get_or f 7 0;
      destination_ieee = ieee_if c.destination (le_at 8 f 8);
      source_ieee = ieee_if c.extended_source (le_at 8 f (source_at c));
      multicast_control = multicast_if c.multicast (get_or f (multicast_at c) 0);
      source_route = route_if c.source_route (get_or f (route_at c) 0) (get_or f (route_at c + 1) 0);
      relays = relays_of f c;
    }

-- the record of zeros that stands beside a refusal
unfoldable pub blank_header : NwkHeader
blank_header = header_by [] (control_of 0)

-- what reading answers: a refusal's number with length 0 and a blank header, or 0, where the header ends and the record
pub record HeaderRead : Type 0 where
  pub refusal : ℕ
  pub length : ℕ
  pub header : NwkHeader

-- the record and where the header ends, or a refusal's number alone
abbrev pub header_given : List ℕ → HeaderRead
header_given f = record { refusal = 0; length = header_end f (control f); header = header_by f (control f) }

abbrev pub header_refused : ℕ → HeaderRead
header_refused n = record { refusal = n; length = 0; header = blank_header }

-- the same, of the code's answer
abbrev pub told_header : Result (NwkHeader × ℕ) Refusal → HeaderRead
told_header (Ok (h, n)) = record { refusal = 0; length = n; header = h }
told_header (Err r) = header_refused (number_of r)

unfoldable pub read_header : List ℕ → HeaderRead
read_header f = unless (header_refusal f) (header_given f) (header_refused (header_refusal f))
