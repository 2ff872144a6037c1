-- FIPS 197 (2001), section 5.1.1: the substitution of a byte, by its inverse and an affine map.
-- Not here: the laws (proofs/Computed, proofs/Bytes).
-- Assumes nothing.
use Rattle.std.specs.Prelude.{List, [], ◌∷◌, ℕ, zero, suc, ◌+◌, ◌*◌, ◌/◌, ◌%◌, ◌^◌}
use Rattle.field.specs.Field.{◌⊕◌, inverse}

-- the bit i of b
unfoldable pub bit : ℕ → ℕ → ℕ
bit b i = b / 2 ^ i % 2

-- (5.1): the bit i of the affine map of b, with the bits of c = {63}
unfoldable pub affine_bit : ℕ → ℕ → ℕ
affine_bit b i = bit b i ⊕ bit b ((i + 4) % 8) ⊕ bit b ((i + 5) % 8) ⊕ bit b ((i + 6) % 8) ⊕ bit b ((i + 7) % 8) ⊕ bit 0x63 i

-- the number whose n bits f gives
unfoldable pub of_bits : ℕ → (ℕ → ℕ) → ℕ
of_bits zero f = 0
of_bits (suc n) f = f n * 2 ^ n + of_bits n f

-- (5.1): the affine map, at all eight bits
unfoldable pub affine : ℕ → ℕ
affine b = of_bits 8 (affine_bit b)

-- 5.1.1: the inverse, then the affine map
unfoldable pub sbox : ℕ → ℕ
sbox x = affine (inverse x)

-- f k, f (k + 1) and so on, n of them
unfoldable pub values_from : (ℕ → ℕ) → ℕ → ℕ → List ℕ
values_from f k zero = []
values_from f k (suc n) = f k ∷ values_from f (suc k) n

-- Figure 7: what each of the 256 bytes is substituted by
unfoldable pub s_box_table : List ℕ
s_box_table = values_from sbox 0 256
