-- A long address that may be missing: whether it is there, what reading makes of its presence bit, and its bytes. Here an
-- address is a number, its first wire byte lowest.
-- Assumes nothing.
use Rattle.std.specs.Prelude.{ℕ, Bool, true, false, List, [], Option, Some, None}
use Rattle.octets.specs.Numbers.{le}

abbrev pub has_ieee : Option ℕ → Bool
has_ieee None = false
has_ieee (Some x) = true

abbrev pub ieee_if : Bool → ℕ → Option ℕ
ieee_if true x = Some x
ieee_if false x = None

abbrev pub ieee_bytes : Option ℕ → List ℕ
ieee_bytes None = []
ieee_bytes (Some x) = le 8 x
