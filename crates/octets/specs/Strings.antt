-- Byte strings: lists of numbers, read by index with 0 past the end. In order: a list given by its entries; a part
-- overwritten; exclusive or; what it is to be a list of bytes.
-- Not here: `length`, `get_or`, `take`, `drop`, which are the kit's. The laws are in proofs/.
-- Assumes nothing.
use Rattle.std.specs.Prelude.{ℕ, zero, suc, ◌+◌, ◌<◌, List, [], ◌∷◌, ◌++◌, length, get_or, take, drop}
use Rattle.std.specs.Int.Bits.{bit_xor}

-- the list f 0, f 1, .., f (n - 1)
unfoldable pub tab : {A : Type 0} → (ℕ → A) → ℕ → List A
tab f zero = []
tab f (suc n) = tab f n ++ (f n ∷ [])

-- o with the entries from place i on replaced by bs
unfoldable pub over : {A : Type 0} → List A → ℕ → List A → List A
over o i bs = take i o ++ (bs ++ drop (i + length bs) o)

-- the first n bytes of a, each xor the byte of s at its place
unfoldable pub xored : ℕ → List ℕ → List ℕ → List ℕ
xored n a s = tab (λ (i : ℕ). bit_xor (get_or a i 0) (get_or s i 0)) n

-- each entry is below m (m above 0); with m 256 this says that the list is a byte string
abbrev pub Below : ℕ → List ℕ → Type 0
Below m l = (i : ℕ) → get_or l i 0 < m
