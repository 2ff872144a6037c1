-- Fields that may be missing, in a record: a presence byte, 0 or 1, and the field behind it, which is 0 where it is
-- absent and then not read.
-- Assumes nothing.
use Rattle.std.specs.Prelude.{ℕ, ◌+◌, List, ◌++◌, get_or, eqb, Option, Some, None}
use Rattle.octets.specs.Numbers.{le, le_at}
use Rattle.header.specs.declared.optional.NwkSourceRoute.{NwkSourceRoute}
use Rattle.header.specs.Optional.{has_multicast, multicast_if, has_route, route_if, relay_count}
use Rattle.types.specs.Optional.{has_ieee, ieee_if}
use Rattle.octets.specs.Fields.{bit}

-- ---- a long address: 9 bytes

abbrev pub ieee_value : Option ℕ → ℕ
ieee_value None = 0
ieee_value (Some x) = x

unfoldable pub ieee_record : Option ℕ → List ℕ
ieee_record o = le 1 (bit (has_ieee o)) ++ le 8 (ieee_value o)

-- the address whose presence byte stands at place i
unfoldable pub ieee_in : List ℕ → ℕ → Option ℕ
ieee_in r i = ieee_if (eqb (get_or r i 0) 1) (le_at 8 r (i + 1))

-- ---- the multicast control byte: 2 bytes

abbrev pub multicast_value : Option ℕ → ℕ
multicast_value None = 0
multicast_value (Some x) = x

unfoldable pub multicast_record : Option ℕ → List ℕ
multicast_record o = le 1 (bit (has_multicast o)) ++ le 1 (multicast_value o)

unfoldable pub multicast_in : List ℕ → ℕ → Option ℕ
multicast_in r i = multicast_if (eqb (get_or r i 0) 1) (get_or r (i + 1) 0)

-- ---- the source route: its count and index, 3 bytes; the relays stand behind it

abbrev pub relay_index : Option NwkSourceRoute → ℕ
relay_index None = 0
relay_index (Some r) = r.relay_index

unfoldable pub route_record : Option NwkSourceRoute → List ℕ
route_record o = le 1 (bit (has_route o)) ++ (le 1 (relay_count o) ++ le 1 (relay_index o))

unfoldable pub route_in : List ℕ → ℕ → Option NwkSourceRoute
route_in r i = route_if (eqb (get_or r i 0) 1) (get_or r (i + 1) 0) (get_or r (i + 2) 0)
