-- The record of the header that a record says is that record again, and so for auxiliary headers: of two such records
-- that differ the headers differ. Such a record is bytes of the right number, is not bad, and has 0 in its absent fields.
-- Each field is the record's own bytes at its place, and the places follow each other.
-- Assumes nothing.
use mathlib.Core.Path.{◌≡◌, sym, ap, ◌∙◌}
use mathlib.Core.Bool.{false, not, ◌||◌}
use mathlib.Core.List.{List, [], ◌∷◌}
use Prim.Native.Nat.{ℕ, ◌+◌, ◌*◌, ◌≤◌, ◌<◌}
use native.Mathlib.Omega.{arith}
use borrow.Author.Tests.{eqb-true, ne_eqb, not-false}
use lib.Dec.{eqb}
use lib.ListN.{length, get_or}
use lib.Seq.{take_all}
use Rattle.octets.specs.Strings.{tab, Below}
use Rattle.octets.specs.Numbers.{le_at}
use Rattle.octets.proofs.Strings.{get_or_tab, tab_get_or}
use Rattle.octets.proofs.Numbers.{le_le_at}
use Rattle.types.specs.Addresses.{nwk, no_nwk}
use Rattle.header.specs.Optional.{relay_bytes}
use Rattle.header.specs.Control.{control_values, control_from}
use Rattle.header.proofs.Codes.{bit_of, type_of_lem, discovery_of_lem, level_of_lem, key_id_of_lem}
use Rattle.octets.proofs.Conditions.{or_false}
use Rattle.header.proofs.OptionalFields.{byte_read, relay_read}
use Rattle.records.specs.Limits.{exceeds}
use Rattle.records.specs.HeaderRecord.{address_record, optional_record, header_record, relays_from, header_of, header_limits, bad_header_record}
use Rattle.records.specs.AuxiliaryRecord.{security_record, counter_record, aux_record, security_at, aux_of, aux_present, aux_limits}
use Rattle.records.proofs.FieldsBack.{Piece, join, keeps, Blank, ieee_piece, multicast_piece, route_piece}

-- ---- the header record

pub record HeaderPlain (r : List ℕ) : Type 0 where
  pub bytes : Below 256 r
  pub good : bad_header_record r ≡ false
  pub destination_ieee : Blank r 16 8
  pub source_ieee : Blank r 25 8
  pub multicast : Blank r 34 1
  pub route : Blank r 36 2

-- what a record that is not bad has
pub record HeaderTests (r : List ℕ) : Type 0 where
  pub size : length r ≡ 147
  pub type : eqb (get_or r 0 0) 2 ≡ false
  pub keeps_to : (i : ℕ) → i < 37 → get_or r i 0 ≤ get_or header_limits i 0

pub header_tests : (r : List ℕ) → bad_header_record r ≡ false → HeaderTests r
unfolding bad_header_record
header_tests r e =
    let a = or_false (not (eqb (length r) 147)) (eqb (get_or r 0 0) 2 || exceeds header_limits r) e in
    let t = or_false (eqb (get_or r 0 0) 2) (exceeds header_limits r) a.1 in
    record { size = eqb-true (length r) 147 (not-false _ a.0); type = t.0; keeps_to = λ i h. keeps header_limits r i t.1 h }

control_piece : (r : List ℕ) → HeaderTests r → Piece r 0 10 (control_values (control_from r))
unfolding tab
control_piece r t =
    let l : 10 ≤ length r = omega (arith, t.size) in
    let discovery : get_or r 2 0 ≤ 2 = t.keeps_to 2 (omega arith) in
    (λ i.
    type_of_lem (get_or r 0 0) (omega (arith, t.keeps_to 0 (omega arith))) t.type i
    ∷ get_or r 1 0
    ∷ discovery_of_lem (get_or r 2 0) (omega arith) (ne_eqb (get_or r 2 0) 3 (λ e. omega arith)) i
    ∷ bit_of (get_or r 3 0) (omega (arith, t.keeps_to 3 (omega arith))) i
    ∷ bit_of (get_or r 4 0) (omega (arith, t.keeps_to 4 (omega arith))) i
    ∷ bit_of (get_or r 5 0) (omega (arith, t.keeps_to 5 (omega arith))) i
    ∷ bit_of (get_or r 6 0) (omega (arith, t.keeps_to 6 (omega arith))) i
    ∷ bit_of (get_or r 7 0) (omega (arith, t.keeps_to 7 (omega arith))) i
    ∷ bit_of (get_or r 8 0) (omega (arith, t.keeps_to 8 (omega arith))) i
    ∷ get_or r 9 0 ∷ [])
    ∙ tab_get_or r 0 10 l

address_piece : (r : List ℕ) → Below 256 r → length r ≡ 147 → Piece r 10 6 (address_record (le_at 2 r 10) (le_at 2 r 12) (get_or r 14 0) (get_or r 15 0))
unfolding address_record
address_piece r b l =
    join r 10 2 4 _ _ (le_le_at 2 r 10 b (omega arith))
    (join r 12 2 2 _ _ (le_le_at 2 r 12 b (omega arith)) (join r 14 1 1 _ _ (byte_read r 14 b (omega arith)) (byte_read r 15 b (omega arith))))

relays_piece : (r : List ℕ) → Below 256 r → length r ≡ 147 → Piece r 39 108 (relay_bytes 54 (relays_from r 39))
unfolding relays_from
relays_piece r b l = relay_read r 54 39 _ b (omega arith) (λ i h. get_or_tab (λ (k : ℕ). nwk (le_at 2 r (39 + 2 * k))) 54 i no_nwk h)

pub header_record_back : (r : List ℕ) → HeaderPlain r → header_record (header_of r) ≡ r
unfolding header_record optional_record header_of
header_record_back r p =
    let b : Below 256 r = p.bytes in
    let t : HeaderTests r = header_tests r p.good in
    let l : length r ≡ 147 = t.size in
    join r 0 10 137 _ _ (control_piece r t)
    (join r 10 6 131 _ _ (address_piece r b l)
    (join r 16 20 111 _ _
    (join r 16 9 11 _ _ (ieee_piece r b 16 (t.keeps_to 16 (omega arith)) p.destination_ieee (omega arith))
    (join r 25 9 2 _ _ (ieee_piece r b 25 (t.keeps_to 25 (omega arith)) p.source_ieee (omega arith)) (multicast_piece r b (t.keeps_to 34 (omega arith)) p.multicast (omega arith))))
    (join r 36 3 108 _ _ (route_piece r b (t.keeps_to 36 (omega arith)) p.route (omega arith)) (relays_piece r b l))))
    ∙ take_all 147 r (omega arith)

pub header_of_injective : (r s : List ℕ) → HeaderPlain r → HeaderPlain s → header_of r ≡ header_of s → r ≡ s
header_of_injective r s p q e = sym (header_record_back r p) ∙ ap header_record e ∙ header_record_back s q

-- ---- the auxiliary record

pub record AuxPlain (r : List ℕ) : Type 0 where
  pub bytes : Below 256 r
  pub size : length r ≡ 19
  pub limits : exceeds aux_limits r ≡ false
  pub ieee : Blank r 9 8

security_piece : (r : List ℕ) → AuxPlain r → Piece r 0 5 (security_record (aux_present r) (security_at r))
unfolding tab security_at
security_piece r p =
    let l : 5 ≤ length r = omega (arith, p.size) in
    let keeps_to : (i : ℕ) → i < 10 → get_or r i 0 ≤ get_or aux_limits i 0 = λ i h. keeps aux_limits r i p.limits h in
    (λ i.
    bit_of (get_or r 0 0) (omega (arith, keeps_to 0 (omega arith))) i
    ∷ level_of_lem (get_or r 1 0) (omega (arith, keeps_to 1 (omega arith))) i
    ∷ key_id_of_lem (get_or r 2 0) (omega (arith, keeps_to 2 (omega arith))) i
    ∷ bit_of (get_or r 3 0) (omega (arith, keeps_to 3 (omega arith))) i
    ∷ bit_of (get_or r 4 0) (omega (arith, keeps_to 4 (omega arith))) i
    ∷ [])
    ∙ tab_get_or r 0 5 l

pub aux_record_back : (r : List ℕ) → AuxPlain r → aux_record (aux_present r) (aux_of r) ≡ r
unfolding aux_record counter_record aux_of
aux_record_back r p =
    let b : Below 256 r = p.bytes in
    let l : length r ≡ 19 = p.size in
    join r 0 5 14 _ _ (security_piece r p)
    (join r 5 4 10 _ _ (le_le_at 4 r 5 b (omega arith))
    (join r 9 9 1 _ _ (ieee_piece r b 9 (keeps aux_limits r 9 p.limits (omega arith)) p.ieee (omega arith)) (byte_read r 18 b (omega arith))))
    ∙ take_all 19 r (omega arith)

pub aux_of_injective : (r s : List ℕ) → AuxPlain r → AuxPlain s → aux_present r ≡ aux_present s → aux_of r ≡ aux_of s → r ≡ s
aux_of_injective r s p q e a = sym (aux_record_back r p) ∙ (λ i. aux_record (e i) (a i)) ∙ aux_record_back s q
