-- A header, and an auxiliary header, that is read from bytes is within its types' ranges: a number of n bytes is below 256 to
-- the power n.
-- Assumes nothing.
use mathlib.Core.Bool.{Bool, true, false, cond}
use mathlib.Core.List.{List}
use Prim.Native.Nat.{ℕ, ◌+◌, ◌*◌, ◌^◌, ◌<◌}
use native.Mathlib.Decide.{dec_lt}
use native.Mathlib.Omega.{arith}
use lib.Dec.{ltb}
use lib.ListN.{get_or, get_or-eq_default}
use Rattle.octets.specs.Strings.{tab, Below}
use Rattle.octets.specs.Numbers.{le_at}
use Rattle.octets.proofs.Strings.{length_tab, get_or_tab}
use Rattle.octets.proofs.Numbers.{le_at_lt}
use Rattle.types.specs.declared.Nwk.{Nwk}
use Rattle.types.specs.Addresses.{nwk, no_nwk}
use Rattle.types.specs.Optional.{ieee_if}
use Rattle.header.specs.declared.{control.NwkFrameControl.NwkFrameControl, auxiliary.NwkSecurityHeaderControlField.NwkSecurityHeaderControlField}
use Rattle.header.specs.Optional.{multicast_if, route_if}
use Rattle.header.specs.Reading.{source_at, multicast_at, route_at, relays_announced, relays_of, header_by}
use Rattle.header.specs.Auxiliary.{key_sequence_at, aux_by}
use Rattle.header.specs.Same.{IeeeFits, MulticastFits, RouteFits, RelaysFit, HeaderFits, AuxFits}

pub ieee_fits : (b : Bool) (x : ℕ) → x < 2 ^ 64 → IeeeFits (ieee_if b x)
ieee_fits true x h = h
ieee_fits false x h = tt

pub multicast_fits : (b : Bool) (x : ℕ) → x < 2 ^ 8 → MulticastFits (multicast_if b x)
multicast_fits true x h = h
multicast_fits false x h = tt

pub route_fits : (b : Bool) (n i : ℕ) → n < 2 ^ 8 → i < 2 ^ 8 → RouteFits (route_if b n i)
route_fits true n i h k = (h, k)
route_fits false n i h k = tt

relay_fits : (b : Bool) (x : ℕ) → x < 2 ^ 16 → (cond b (nwk x) no_nwk).0 < 2 ^ 16
relay_fits true x h = h
relay_fits false x h = omega arith

-- addresses within their range, and 0 past their end
pub relays_fit : (f : ℕ → Nwk) (n : ℕ) → ((i : ℕ) → (f i).0 < 2 ^ 16) → RelaysFit (tab f n)
relays_fit f n h i =
    elim (dec_lt i n) [
      | yes l ↦ rw (get_or_tab f n i no_nwk l) (h i)
      | no l ↦ rw (get_or-eq_default (tab f n) no_nwk {n = i} (rw (length_tab f n) (omega arith))) (omega arith)
    ]

pub read_fits : (f : List ℕ) (c : NwkFrameControl) → Below 256 f → HeaderFits (header_by f c)
unfolding header_by relays_of
read_fits f c u =
    record {
      destination = le_at_lt 2 f 2 u;
      source = le_at_lt 2 f 4 u;
      radius = u 6;
      sequence = u 7;
      destination_ieee = ieee_fits c.destination (le_at 8 f 8) (le_at_lt 8 f 8 u);
      source_ieee = ieee_fits c.extended_source (le_at 8 f (source_at c)) (le_at_lt 8 f (source_at c) u);
      multicast = multicast_fits c.multicast (get_or f (multicast_at c) 0) (u (multicast_at c));
      route = route_fits c.source_route (get_or f (route_at c) 0) (get_or f (route_at c + 1) 0) (u (route_at c)) (u (route_at c + 1));
      relays = relays_fit _ 54 (λ i. relay_fits (ltb i (relays_announced f c)) _ (le_at_lt 2 f (route_at c + 2 + 2 * i) u));
    }

pub aux_read_fits : (f : List ℕ) (c : NwkSecurityHeaderControlField) → Below 256 f → AuxFits (aux_by f c)
unfolding aux_by
aux_read_fits f c u =
    record {
      counter = le_at_lt 4 f 1 u;
      ieee = ieee_fits c.extended_nonce (le_at 8 f 5) (le_at_lt 8 f 5 u);
      key_sequence = u (key_sequence_at c);
    }
