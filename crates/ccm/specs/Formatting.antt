-- SP 800-38C, A.2: the formatting of the input data into the blocks B_0, B_1, .., B_r. A block is sixteen bytes, given by
-- index, with 0 past the end of the data: that is the zero fill.
-- Assumes nothing.
use Rattle.std.specs.Prelude.{◌≡◌, cond, List, [], ◌∷◌, ◌++◌, ℕ, zero, suc, ◌+◌, ◌-◌, ◌*◌, ◌/◌, ◌%◌, ◌≤◌, ltb, length, get_or}
use Rattle.octets.specs.Strings.{tab}

-- a number in two bytes, most significant first
unfoldable pub two_bytes : ℕ → List ℕ
two_bytes x = x / 256 % 256 ∷ x % 256 ∷ []

-- a block of a first byte, the nonce and a number in two bytes
unfoldable pub headed : ℕ → List ℕ → ℕ → List ℕ
headed first nonce x = first ∷ (nonce ++ two_bytes x)

-- A.2.1, table 1: the flags of B_0, for a bytes of associated data and a tag of t: 64 if there is associated data,
-- 8 · ((t - 2) / 2), and q - 1 = 1
unfoldable pub flags : ℕ → ℕ → ℕ
flags t a = cond (ltb 0 a) 64 0 + 8 * ((t - 2) / 2) + 1

-- A.2.1, table 2: B_0, with the nonce and the payload's length p
unfoldable pub first_block : ℕ → List ℕ → ℕ → ℕ → List ℕ
first_block t nonce a p = headed (flags t a) nonce p

-- A.2.2: the associated data behind its length, or nothing. (The standard's two-byte length: below 65280 bytes.)
unfoldable pub encoded_data : List ℕ → List ℕ
encoded_data [] = []
encoded_data (x ∷ a) = two_bytes (length (x ∷ a)) ++ (x ∷ a)

-- how many blocks n bytes fill, the last one perhaps in part
unfoldable pub blocks_of : ℕ → ℕ
blocks_of n = (n + 15) / 16

-- the block i of the bytes d: sixteen bytes from place 16 · i on, 0 past the end
unfoldable pub block_at : List ℕ → ℕ → List ℕ
block_at d i = tab (λ (j : ℕ). get_or d (i * 16 + j) 0) 16

-- r, the number of the last block: those of the associated data and those of the payload stand behind B_0
unfoldable pub last_block : List ℕ → List ℕ → ℕ
last_block a p = blocks_of (length (encoded_data a)) + blocks_of (length p)

-- A.2.2, A.2.3: B_i of the formatted input
unfoldable pub formatted : ℕ → List ℕ → List ℕ → List ℕ → ℕ → List ℕ
formatted t nonce a p zero = first_block t nonce (length a) (length p)
formatted t nonce a p (suc i) =
    cond (ltb i (blocks_of (length (encoded_data a)))) (block_at (encoded_data a) i) (block_at p (i - blocks_of (length (encoded_data a))))

-- the bytes s are the formatted input, its blocks one behind the other: block i of them is B_i, up to B_r
abbrev pub Formats : ℕ → List ℕ → List ℕ → List ℕ → List ℕ → Type 0
Formats t nonce a p s = (i : ℕ) → i ≤ last_block a p → block_at s i ≡ formatted t nonce a p i
