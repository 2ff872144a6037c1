-- Byte strings as they are printed.
-- Assumes nothing.
use Rattle.std.specs.Prelude.{List, [], ◌∷◌, ◌++◌, ℕ, zero, suc, ◌/◌, ◌%◌}

-- the n bytes whose hexadecimal digits, one byte behind the other, are those of the number x
unfoldable pub hex : ℕ → ℕ → List ℕ
hex zero x = []
hex (suc n) x = hex n (x / 256) ++ (x % 256 ∷ [])
