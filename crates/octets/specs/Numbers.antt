-- Numbers of n bytes, least significant byte first.
-- Assumes nothing.
use Rattle.std.specs.Prelude.{ℕ, zero, suc, ◌+◌, ◌*◌, ◌/◌, ◌%◌, List, [], ◌∷◌, ◌++◌, get_or}

-- the n bytes of x
unfoldable pub le : ℕ → ℕ → List ℕ
le zero x = []
le (suc n) x = x % 256 ∷ le n (x / 256)

-- the number that the n bytes from place i of s make, a byte past the end counting 0
unfoldable pub le_at : ℕ → List ℕ → ℕ → ℕ
le_at zero s i = 0
le_at (suc n) s i = get_or s i 0 + le_at n s (i + 1) * 256

-- the bytes of a block of four words, four each
unfoldable pub bytes_of : List ℕ → List ℕ
bytes_of w = le 4 (get_or w 0 0) ++ (le 4 (get_or w 1 0) ++ (le 4 (get_or w 2 0) ++ le 4 (get_or w 3 0)))
