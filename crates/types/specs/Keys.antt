-- Keys: sixteen bytes, or two numbers of eight bytes each.
-- Assumes nothing.
use Rattle.std.specs.Prelude.{ℕ, cond, List, ◌++◌, eqb, length, Option, Some, None}
use Rattle.octets.specs.Numbers.{le}
use Rattle.types.specs.declared.Key.{Key}

-- the key of sixteen bytes
abbrev pub key : List ℕ → Key
key s = record { 0 = s }

-- reading a key: nothing unless the bytes are exactly sixteen
unfoldable pub read_key : List ℕ → Option Key
read_key s = cond (eqb (length s) 16) (Some (key s)) None

-- the bytes of a key given as two numbers
unfoldable pub key_bytes : ℕ → ℕ → List ℕ
key_bytes first second = le 8 first ++ le 8 second
