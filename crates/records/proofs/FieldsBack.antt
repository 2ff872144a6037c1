-- Pieces of a record that a field read from it is written to again: the field's bytes are the record's own at its place.
-- For an optional field that asks a presence byte of 0 or 1, and 0 in what is absent.
-- Assumes nothing.
use Rattle.std.specs.Prelude.{Option}
use mathlib.Core.Path.{◌≡◌, refl, sym, ap, ◌∙◌}
use mathlib.Core.Bool.{Bool, true, false, true≢false}
use mathlib.Core.List.{List, [], ◌++◌}
use Prim.Native.Nat.{ℕ, ◌+◌, ◌≤◌, ◌<◌}
use native.Mathlib.Omega.{arith}
use borrow.Author.Tests.{ltb-false, eqb-false}
use lib.Dec.{eqb, ltb}
use lib.ListN.{length, get_or, take, drop}
use lib.Seq.{take-add, drop-drop}
use Rattle.octets.specs.Strings.{Below}
use Rattle.octets.specs.Numbers.{le, le_at}
use Rattle.octets.proofs.Numbers.{le_le_at, le_at_same, le_at_past}
use Rattle.header.specs.declared.optional.NwkSourceRoute.{NwkSourceRoute}
use Rattle.header.specs.Optional.{has_multicast, multicast_if, has_route, route_if, relay_count}
use Rattle.types.specs.Optional.{has_ieee, ieee_if}
use Rattle.octets.specs.Fields.{bit}
use Rattle.header.proofs.Codes.{bit_of}
use Rattle.header.proofs.OptionalFields.{byte_read, ieee_has, multicast_has, route_has}
use Rattle.records.specs.Limits.{exceeds}
use Rattle.records.specs.Optional.{ieee_value, ieee_record, ieee_in, multicast_value, multicast_record, multicast_in, relay_index, route_record, route_in}
use Rattle.records.proofs.AnyPlace.{any_found}

-- ---- pieces of a record

-- the bytes bs are the n bytes of r from place i on
abbrev pub Piece : List ℕ → ℕ → ℕ → List ℕ → Type 0
Piece r i n bs = bs ≡ take n (drop i r)

pub join : (r : List ℕ) (i m n : ℕ) (xs ys : List ℕ) → Piece r i m xs → Piece r (i + m) n ys → Piece r i (m + n) (xs ++ ys)
join r i m n xs ys p q = (λ k. p k ++ q k) ∙ rw (take-add m n (drop i r), drop-drop m i r) refl

-- ---- limits

-- where no byte exceeds its limit, each keeps to it
pub keeps : (ls r : List ℕ) (i : ℕ) → exceeds ls r ≡ false → i < length ls → get_or r i 0 ≤ get_or ls i 0
unfolding exceeds
keeps ls r i e h = by (ltb (get_or ls i 0) (get_or r i 0)) refl
  where
    by : (t : Bool) → ltb (get_or ls i 0) (get_or r i 0) ≡ t → get_or r i 0 ≤ get_or ls i 0
    by true q = absurd (true≢false (sym (any_found (λ (k : ℕ). ltb (get_or ls k 0) (get_or r k 0)) (length ls) i h q) ∙ e))
    by false q = ltb-false _ _ q

-- ---- the optional fields

-- where the presence byte at place i is 0, so are the n bytes behind it
abbrev pub Blank : List ℕ → ℕ → ℕ → Type 0
Blank r i n = get_or r i 0 ≡ 0 → (k : ℕ) → k < n → get_or r (i + 1 + k) 0 ≡ 0

-- a value that is x where it is present, and 0 where it is absent as x is
present_or_zero : (value : Bool → ℕ) (t : Bool) (x : ℕ) → value true ≡ x → value false ≡ 0 → (t ≡ false → x ≡ 0) → value t ≡ x
present_or_zero value true x p q z = p
present_or_zero value false x p q z = q ∙ sym (z refl)

zeros : (n : ℕ) (r : List ℕ) (i : ℕ) → ((k : ℕ) → k < n → get_or r (i + k) 0 ≡ 0) → le_at n r i ≡ 0
zeros n r i z = le_at_same n r [] i 0 z ∙ le_at_past n [] 0 (omega arith)

module _ (r : List ℕ) (b : Below 256 r) (i : ℕ) (small : get_or r i 0 ≤ 1) where
  absent : eqb (get_or r i 0) 1 ≡ false → get_or r i 0 ≡ 0
  absent e = let d = eqb-false (get_or r i 0) 1 e in omega arith

  presence_piece : (t : Bool) → t ≡ eqb (get_or r i 0) 1 → i < length r → Piece r i 1 (le 1 (bit t))
  presence_piece t e l = ap (λ (s : Bool). le 1 (bit s)) e ∙ ap (le 1) (bit_of (get_or r i 0) (omega arith)) ∙ byte_read r i b l

  pub ieee_piece : Blank r i 8 → i + 9 ≤ length r → Piece r i 9 (ieee_record (ieee_in r i))
  unfolding ieee_record ieee_in
  ieee_piece z l =
      let x : ℕ = le_at 8 r (i + 1) in
      let t : Bool = eqb (get_or r i 0) 1 in
      join r i 1 8 (le 1 (bit (has_ieee (ieee_if t x)))) (le 8 (ieee_value (ieee_if t x))) (presence_piece _ (ieee_has t x) (omega arith))
      (ap (le 8) (present_or_zero (λ (s : Bool). ieee_value (ieee_if s x)) t x refl refl (λ e. zeros 8 r (i + 1) (z (absent e))))
      ∙ le_le_at 8 r (i + 1) b (omega arith))

module _ (r : List ℕ) (b : Below 256 r) where
  pub multicast_piece : get_or r 34 0 ≤ 1 → Blank r 34 1 → 36 ≤ length r → Piece r 34 2 (multicast_record (multicast_in r 34))
  unfolding multicast_record multicast_in
  multicast_piece small z l =
      let x : ℕ = get_or r 35 0 in
      let t : Bool = eqb (get_or r 34 0) 1 in
      join r 34 1 1 (le 1 (bit (has_multicast (multicast_if t x)))) (le 1 (multicast_value (multicast_if t x)))
      (presence_piece r b 34 small _ (multicast_has t x) (omega arith))
      (ap (le 1) (present_or_zero (λ (s : Bool). multicast_value (multicast_if s x)) t x refl refl (λ e. z (absent r b 34 small e) 0 (omega arith)))
      ∙ byte_read r 35 b (omega arith))

  pub route_piece : get_or r 36 0 ≤ 1 → Blank r 36 2 → 39 ≤ length r → Piece r 36 3 (route_record (route_in r 36))
  unfolding route_record route_in
  route_piece small z l =
      let n : ℕ = get_or r 37 0 in
      let k : ℕ = get_or r 38 0 in
      let t : Bool = eqb (get_or r 36 0) 1 in
      let o : Option NwkSourceRoute = route_if t n k in
      join r 36 1 2 (le 1 (bit (has_route o))) (le 1 (relay_count o) ++ le 1 (relay_index o)) (presence_piece r b 36 small _ (route_has t n k) (omega arith))
      (join r 37 1 1 (le 1 (relay_count o)) (le 1 (relay_index o))
      (ap (le 1) (present_or_zero (λ (s : Bool). relay_count (route_if s n k)) t n refl refl (λ e. z (absent r b 36 small e) 0 (omega arith))) ∙ byte_read r 37 b (omega arith))
      (ap (le 1) (present_or_zero (λ (s : Bool). relay_index (route_if s n k)) t k refl refl (λ e. z (absent r b 36 small e) 1 (omega arith))) ∙ byte_read r 38 b (omega arith)))
