-- Fields that may be missing, beside the long addresses: whether one is there, what reading makes of its presence bit, and the bytes that it has.
-- Assumes nothing.
use Rattle.std.specs.Prelude.{ℕ, zero, suc, Bool, true, false, List, [], ◌++◌, get_or, Option, Some, None}
use Rattle.octets.specs.Numbers.{le}
use Rattle.types.specs.declared.Nwk.{Nwk}
use Rattle.types.specs.Addresses.{no_nwk}
use Rattle.header.specs.declared.optional.NwkSourceRoute.{NwkSourceRoute}

-- ---- the multicast control byte

abbrev pub has_multicast : Option ℕ → Bool
has_multicast None = false
has_multicast (Some x) = true

abbrev pub multicast_if : Bool → ℕ → Option ℕ
multicast_if true x = Some x
multicast_if false x = None

abbrev pub multicast_bytes : Option ℕ → List ℕ
multicast_bytes None = []
multicast_bytes (Some x) = le 1 x

-- ---- the source route

abbrev pub has_route : Option NwkSourceRoute → Bool
has_route None = false
has_route (Some r) = true

abbrev pub route_if : Bool → ℕ → ℕ → Option NwkSourceRoute
route_if true n i = Some (record { relay_count = n; relay_index = i })
route_if false n i = None

-- how many relays there are
abbrev pub relay_count : Option NwkSourceRoute → ℕ
relay_count None = 0
relay_count (Some r) = r.relay_count

-- the first n relays
unfoldable pub relay_bytes : ℕ → List Nwk → List ℕ
relay_bytes zero rs = []
relay_bytes (suc n) rs = relay_bytes n rs ++ le 2 (get_or rs n no_nwk).0

abbrev pub route_bytes : Option NwkSourceRoute → List Nwk → List ℕ
route_bytes None rs = []
route_bytes (Some r) rs = le 1 r.relay_count ++ (le 1 r.relay_index ++ relay_bytes r.relay_count rs)
