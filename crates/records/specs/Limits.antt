-- The bytes that a record's fields can take: a limit for each place.
-- Assumes nothing.
use Rattle.std.specs.Prelude.{ℕ, zero, suc, Bool, false, ◌||◌, List, length, get_or, ltb}

-- some place below n meets p
unfoldable pub any_below : (ℕ → Bool) → ℕ → Bool
any_below p zero = false
any_below p (suc n) = any_below p n || p n

-- some byte of the record r exceeds its limit; a place past the limits has none
unfoldable pub exceeds : List ℕ → List ℕ → Bool
exceeds limits r = any_below (λ (i : ℕ). ltb (get_or limits i 0) (get_or r i 0)) (length limits)
