-- Bytes as hexadecimal digits, two for each byte, the higher first.
-- Assumes nothing.
use Rattle.std.specs.Prelude.{Bool, true, cond, ◌&&◌, List, [], ◌∷◌, ℕ, ◌+◌, ◌*◌, ◌-◌, ltb, eqb, length}

-- x where b is below n, and else y
abbrev pub below : ℕ → ℕ → ℕ → ℕ → ℕ
below n b x y = cond (ltb b n) x y

-- the value of a digit, 0 to 9 (0x30 to 0x39) or a to f (0x61 to 0x66), and 16 for any other byte
unfoldable pub digit_value : ℕ → ℕ
digit_value b =
    below 0x30 b 16 (below 0x3a b (b - 0x30)
    (below 0x61 b 16 (below 0x67 b (b - 0x61 + 10) 16)))

-- the bytes that the digits ds stand for
unfoldable pub hex_bytes : List ℕ → List ℕ
hex_bytes [] = []
hex_bytes (h ∷ []) = []
hex_bytes (h ∷ l ∷ ds) = (digit_value h * 16 + digit_value l) ∷ hex_bytes ds

-- whether each byte of ds is a digit
unfoldable pub all_digits : List ℕ → Bool
all_digits [] = true
all_digits (d ∷ ds) = ltb (digit_value d) 16 && all_digits ds

-- whether ds are the digits of n bytes, and n is not 0
unfoldable pub is_hex : List ℕ → ℕ → Bool
is_hex ds n = ltb 0 n && eqb (length ds) (2 * n) && all_digits ds
