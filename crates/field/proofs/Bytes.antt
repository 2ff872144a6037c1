-- The laws of the field that turn on its 256 elements: the inverse is one, with 0 sent to 0; and what the table of the rounds rests on, that the
-- multiples of a substitute are bytes and its double is its product with {02}. Each is computed at every byte, but for the substitute's bits.
-- Assumes nothing.
use mathlib.Core.Path.{◌≡◌, refl}
use Prim.Native.Nat.{ℕ, zero, suc, ◌/◌, ◌^◌, ◌<◌}
use native.Mathlib.Nat.{le_of_suc-le-suc, not-suc-le-zero, mod-lt, pow-suc, mul_comm}
use native.Mathlib.Omega.{arith}
use lib.Arith.{digits_lt}
use lib.Bits.{xor_lt}
use Rattle.field.specs.Field.{xtime, product_of_bits, product, bit_power, power, inverse}
use Rattle.field.specs.SBox.{bit, affine_bit, of_bits, affine, sbox}
use Rattle.field.proofs.Computed.{same_below, bounded_below}

-- 4.2: what the inverse of a byte is, but for 0
pub product_inverse : (x : ℕ) → 0 < x → x < 256 → product x (inverse x) ≡ 1
unfolding xtime product_of_bits product bit_power power inverse
product_inverse zero z h = absurd (not-suc-le-zero z)
product_inverse (suc y) z h = same_below (λ y. product (suc y) (inverse (suc y))) (λ y. 1) 255 tt y (le_of_suc-le-suc h)

-- 5.1.1: 0 is sent to 0
pub inverse_zero : inverse 0 ≡ 0
unfolding xtime product_of_bits product bit_power power inverse
inverse_zero = refl

-- 5.1.1: whatever is substituted, the affine map gives a byte: it is made of eight bits
bit_below : (b i : ℕ) → bit b i < 2
unfolding bit
bit_below b i = mod-lt (b / 2 ^ i) (omega arith)

affine_bit_below : (b i : ℕ) → affine_bit b i < 2
unfolding affine_bit
affine_bit_below b i =
    xor_lt 1 _ _ (bit_below b _)
    (xor_lt 1 _ _ (bit_below b _) (xor_lt 1 _ _ (bit_below b _) (xor_lt 1 _ _ (bit_below b _) (xor_lt 1 _ _ (bit_below b _) (bit_below 0x63 _)))))

of_bits_below : (n : ℕ) (f : ℕ → ℕ) → ((i : ℕ) → f i < 2) → of_bits n f < 2 ^ n
unfolding of_bits
of_bits_below zero f h = omega arith
of_bits_below (suc n) f h = rw (pow-suc 2 n, mul_comm (2 ^ n) 2) (digits_lt (h n) (of_bits_below n f h))

pub sbox_byte : (x : ℕ) → sbox x < 256
unfolding affine sbox
sbox_byte x = of_bits_below 8 (affine_bit (inverse x)) (affine_bit_below (inverse x))

-- 4.2.1: xtime is the product with {02}, and gives a byte
pub double_product : (y : ℕ) → y < 256 → xtime y ≡ product 2 y
unfolding xtime product_of_bits product
double_product = same_below xtime (product 2) 256 tt

pub double_byte : (y : ℕ) → y < 256 → xtime y < 256
unfolding xtime
double_byte = bounded_below xtime 256 256 tt

pub triple_byte : (y : ℕ) → y < 256 → product 3 y < 256
unfolding xtime product_of_bits product
triple_byte = bounded_below (product 3) 256 256 tt
