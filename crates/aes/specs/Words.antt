-- FIPS 197 (2001), section 5.2: what KeyExpansion does with a word.
-- Assumes nothing.
use Rattle.std.specs.Prelude.{List, [], ◌∷◌, ℕ, zero, suc, ◌-◌}
use Rattle.field.specs.Field.{◌⊕◌, product}
use Rattle.field.specs.SBox.{sbox}
use Rattle.aes.specs.State.{byte, four}

-- the exclusive or of two words
unfoldable pub xor_word : List ℕ → List ℕ → List ℕ
xor_word a b = four (λ r. byte a r ⊕ byte b r)

-- SubWord: the S-box at each of the four bytes
unfoldable pub sub_word : List ℕ → List ℕ
sub_word a = four (λ r. sbox (byte a r))

-- RotWord: [a0, a1, a2, a3] to [a1, a2, a3, a0]
unfoldable pub rot_word : List ℕ → List ℕ
rot_word a = byte a 1 ∷ byte a 2 ∷ byte a 3 ∷ byte a 0 ∷ []

-- x^n, where x is {02}
unfoldable pub power_of_x : ℕ → ℕ
power_of_x zero = 1
power_of_x (suc n) = product 2 (power_of_x n)

-- Rcon[i] = [x^(i - 1), {00}, {00}, {00}]
unfoldable pub rcon : ℕ → List ℕ
rcon i = power_of_x (i - 1) ∷ 0 ∷ 0 ∷ 0 ∷ []
