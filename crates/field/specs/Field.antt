-- FIPS 197 (2001), section 4: a byte as an element of GF(2^8), the polynomial whose coefficients are its bits.
-- Not here: the S-box (SBox), and the laws (proofs/Bytes).
-- Assumes nothing.
use Rattle.std.specs.Prelude.{ℕ, zero, suc, ◌*◌, ◌/◌, ◌%◌}
use Rattle.std.specs.Int.Bits.{bit_xor}

infixr 60 ◌⊕◌
-- 4.1: the sum of two elements is the exclusive or of their bits
abbrev pub ◌⊕◌ : ℕ → ℕ → ℕ
a ⊕ b = bit_xor a b

-- 4.2: the modulus m(x) = x^8 + x^4 + x^3 + x + 1
abbrev pub modulus : ℕ
modulus = 0x11B

-- 4.2.1: the product with x, where m(x) is taken off if the degree has become 8
unfoldable pub xtime : ℕ → ℕ
xtime a = (a / 128 * modulus) ⊕ (a * 2)

-- the product of b and the polynomial of the n lowest bits of a: a sum of b multiplied by powers of x
unfoldable pub product_of_bits : ℕ → ℕ → ℕ → ℕ
product_of_bits zero a b = 0
product_of_bits (suc n) a b = (a % 2 * b) ⊕ product_of_bits n (a / 2) (xtime b)

-- 4.2: the product of two elements, modulo m(x)
unfoldable pub product : ℕ → ℕ → ℕ
product a b = product_of_bits 8 a b

-- a to the power r, for r of 0 and 1
unfoldable pub bit_power : ℕ → ℕ → ℕ
bit_power a zero = 1
bit_power a (suc r) = a

-- a to the power n, for n of k bits: a^(2 m + r) = a^r · (a^2)^m
unfoldable pub power : ℕ → ℕ → ℕ → ℕ
power zero a n = 1
power (suc k) a n = product (bit_power a (n % 2)) (power k (product a a) (n / 2))

-- 4.2: the multiplicative inverse, and 0 for 0: the power 254, since the power 255 of each other element is 1
unfoldable pub inverse : ℕ → ℕ
inverse a = power 8 a 254
