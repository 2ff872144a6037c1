-- A number's bytes as the library gives them, least significant first, are the definition's, and so is the number of bytes.
-- Assumes nothing.
use Rattle.std.specs.Int.{from_le_bytes, bytes_low_first, byte_at, w16, w32}
use mathlib.Core.Path.{◌≡◌, refl, sym, ap, ◌∙◌}
use mathlib.Core.List.{List, [], ◌∷◌}
use Prim.Native.Nat.{ℕ, zero, suc, ◌+◌, ◌*◌, ◌/◌, ◌%◌, ◌^◌, ◌≤◌}
use native.Mathlib.Nat.{div-div-eq-div-mul, div-one, pow-suc}
use native.Mathlib.Omega.{arith}
use lib.ListN.{length, take}
use Rattle.octets.specs.Numbers.{le, le_at}

-- byte i is the lowest of what is left above i bytes
nth_byte : (i x : ℕ) → byte_at i x ≡ x / 256 ^ i % 256
nth_byte zero x = ap (λ (n : ℕ). n % 256) (sym (div-one x))
nth_byte (suc i) x = refl

bytes_from : (k i x : ℕ) → bytes_low_first i k x ≡ le k (x / 256 ^ i)
unfolding le
bytes_from zero i x = refl
bytes_from (suc k) i x =
    let above : x / 256 ^ suc i ≡ x / 256 ^ i / 256 = ap (λ (n : ℕ). x / n) (pow-suc 256 i) ∙ sym (div-div-eq-div-mul x (256 ^ i) 256) in
    rw (nth_byte i x, bytes_from k (suc i) x, above) refl

pub library_bytes : (k x : ℕ) → bytes_low_first 0 k x ≡ le k x
library_bytes k x = bytes_from k 0 x ∙ ap (le k) (div-one x)

pub from_four : (a b c d : ℕ) → from_le_bytes w32 (a ∷ b ∷ c ∷ d ∷ []) ≡ le_at 4 (a ∷ b ∷ c ∷ d ∷ []) 0
unfolding le_at
from_four a b c d = omega arith

pub from_two : (a b : ℕ) → from_le_bytes w16 (a ∷ b ∷ []) ≡ a + b * 256
from_two a b = omega arith

-- the number of the first two bytes of a list
pub from_front : (s : List ℕ) → 2 ≤ length s → from_le_bytes w16 (take 2 s) ≡ le_at 2 s 0
unfolding le_at
from_front (a ∷ b ∷ s) h = omega arith
from_front (a ∷ []) h = absurd (omega arith)
from_front [] h = absurd (omega arith)
