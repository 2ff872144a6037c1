-- FIPS 197 (2001), sections 3.4 and 3.5: the state, four columns of four bytes, and its columns as words.
-- Assumes nothing.
use Rattle.std.specs.Prelude.{List, [], ◌∷◌, ◌++◌, ℕ, ◌+◌, ◌*◌, get_or}

-- the byte r of a word, or of a block
abbrev pub byte : List ℕ → ℕ → ℕ
byte w r = get_or w r 0

-- the column c of a state
abbrev pub column : List (List ℕ) → ℕ → List ℕ
column s c = get_or s c []

-- s[r,c], the byte in row r and column c
abbrev pub at : List (List ℕ) → ℕ → ℕ → ℕ
at s r c = byte (column s c) r

-- the four values of f: a word by its bytes, a state by its columns
unfoldable pub four : {A : Type 0} → (ℕ → A) → List A
four f = f 0 ∷ f 1 ∷ f 2 ∷ f 3 ∷ []

-- the state whose byte in row r and column c is f r c
unfoldable pub state : (ℕ → ℕ → ℕ) → List (List ℕ)
state f = four (λ c. four (λ r. f r c))

-- (3.3): the state of a block, s[r,c] = in[r + 4c]
unfoldable pub state_of : List ℕ → List (List ℕ)
state_of b = state (λ r c. byte b (r + 4 * c))

-- (3.4): the block of a state, out[r + 4c] = s[r,c]
unfoldable pub block_of : List (List ℕ) → List ℕ
block_of s = four (λ r. at s r 0) ++ four (λ r. at s r 1) ++ four (λ r. at s r 2) ++ four (λ r. at s r 3)
