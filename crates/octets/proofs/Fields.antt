-- Bit fields of a word: putting together undoes taking apart, and the other way round, for every list of field sizes.
-- Both go by induction on the list, a step being division with remainder by a power of two.
-- Assumes nothing.
use mathlib.Core.Path.{◌≡◌, refl, ap, ◌∙◌}
use mathlib.Core.List.{List, [], ◌∷◌}
use Prim.Native.Nat.{ℕ, ◌+◌, ◌*◌, ◌/◌, ◌%◌, ◌^◌, ◌<◌}
use native.Mathlib.Nat.{mod-lt, mod-add-div', add_comm}
use native.Mathlib.Omega.{arith}
use lib.Pow.{high, low, shr_lt, pow_pos, pow-add}
use lib.Arith.{digits_lt}
use Rattle.octets.specs.Fields.{fields, packed, bits_of, Held}

pub fields_held : (ks : List ℕ) (w : ℕ) → Held ks (fields ks w)
unfolding fields
fields_held [] w = tt
fields_held (k ∷ ks) w = (mod-lt w (pow_pos k), fields_held ks (w / 2 ^ k))

pub fields_packed : (ks vs : List ℕ) → Held ks vs → fields ks (packed ks vs) ≡ vs
unfolding fields packed
fields_packed [] [] h = refl
fields_packed [] (v ∷ vs) h = absurd h
fields_packed (k ∷ ks) [] h = absurd h
fields_packed (k ∷ ks) (v ∷ vs) h =
    rw (add_comm v (packed ks vs * 2 ^ k))
    (λ i. low (packed ks vs) k h.0 i ∷ (ap (fields ks) (high (packed ks vs) k h.0) ∙ fields_packed ks vs h.1) i)

pub packed_fields : (ks : List ℕ) (w : ℕ) → w < 2 ^ bits_of ks → packed ks (fields ks w) ≡ w
unfolding fields packed bits_of
packed_fields [] w h = omega arith
packed_fields (k ∷ ks) w h =
    ap (λ (x : ℕ). w % 2 ^ k + x * 2 ^ k)
    (packed_fields ks (w / 2 ^ k) (shr_lt (bits_of ks) k (rw (add_comm (bits_of ks) k) h)))
    ∙ mod-add-div' w (2 ^ k)

pub packed_lt : (ks vs : List ℕ) → Held ks vs → packed ks vs < 2 ^ bits_of ks
unfolding packed bits_of
packed_lt [] [] h = omega arith
packed_lt [] (v ∷ vs) h = absurd h
packed_lt (k ∷ ks) [] h = absurd h
packed_lt (k ∷ ks) (v ∷ vs) h =
    rw (add_comm k (bits_of ks), pow-add 2 (bits_of ks) k, add_comm v (packed ks vs * 2 ^ k))
    (digits_lt (packed_lt ks vs h.1) h.0)
