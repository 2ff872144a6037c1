-- FIPS 197 (2001), section 5.1: the four transformations of the state.
-- Assumes nothing.
use Rattle.std.specs.Prelude.{List, ℕ, ◌+◌, ◌%◌}
use Rattle.field.specs.Field.{◌⊕◌, product}
use Rattle.field.specs.SBox.{sbox}
use Rattle.aes.specs.State.{byte, column, at, four, state}

-- 5.1.1: the S-box at each byte
unfoldable pub sub_bytes : List (List ℕ) → List (List ℕ)
sub_bytes s = state (λ r c. sbox (at s r c))

-- (5.3): row r goes r columns to the left
unfoldable pub shift_rows : List (List ℕ) → List (List ℕ)
shift_rows s = state (λ r c. at s r ((c + r) % 4))

-- (5.6): a column multiplied by the matrix whose first row is {02} {03} {01} {01}, and each row the one above turned by one place
unfoldable pub mix_column : List ℕ → List ℕ
mix_column a = four (λ r. product 2 (byte a r) ⊕ product 3 (byte a ((r + 1) % 4)) ⊕ byte a ((r + 2) % 4) ⊕ byte a ((r + 3) % 4))

-- 5.1.3: each column mixed
unfoldable pub mix_columns : List (List ℕ) → List (List ℕ)
mix_columns s = four (λ c. mix_column (column s c))

-- (5.7): the round key added to the state
unfoldable pub add_round_key : List (List ℕ) → List (List ℕ) → List (List ℕ)
add_round_key s k = state (λ r c. at s r c ⊕ at k r c)
