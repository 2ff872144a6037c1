-- The table of the rounds (document 02, 2): for each byte, what it is substituted by (5.1.1) and the multiples of that which MixColumns
-- takes (5.1.3), so that a round looks up each doubling. FIPS 197 has no such table: Rounds of `aes` says what a round is without it.
-- Assumes nothing.
use Rattle.std.specs.Prelude.{List, [], ◌∷◌, ◌++◌, ℕ, zero, suc, take, drop}
use Rattle.octets.specs.Numbers.{le_at}
use Rattle.field.specs.Field.{xtime, product}
use Rattle.field.specs.SBox.{sbox}

-- the bytes of an entry: y doubled (4.2.1), y twice, and y multiplied by {03}
unfoldable pub multiples : ℕ → List ℕ
multiples y = xtime y ∷ y ∷ y ∷ product 3 y ∷ []

-- the four bytes from place n on of the multiples written twice, one behind the other: they are turned by n places
unfoldable pub turned : ℕ → ℕ → List ℕ
turned n y = take 4 (drop n (multiples y ++ multiples y))

-- the entry of x: the multiples of its substitute as one number, the first byte lowest
unfoldable pub round_entry : ℕ → ℕ
round_entry x = le_at 4 (multiples (sbox x)) 0

-- f k, f (k + 1) and so on, n of them, each twice
unfoldable pub twice_from : (ℕ → ℕ) → ℕ → ℕ → List ℕ
twice_from f k zero = []
twice_from f k (suc n) = f k ∷ f k ∷ twice_from f (suc k) n

-- the entries of all 256 bytes, each beside itself
unfoldable pub round_table : List ℕ
round_table = twice_from round_entry 0 256
