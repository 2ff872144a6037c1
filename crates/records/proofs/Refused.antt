-- The tests of a record in their order: each way of being refused, and what is left past them.
-- Assumes nothing.
use mathlib.Core.Path.{◌≡◌, refl}
use mathlib.Core.Bool.{true, false}
use mathlib.Core.List.{List}
use Prim.Native.Nat.{ℕ}
use borrow.Author.Tests.{eq-eqb, ne_eqb}
use lib.ListN.{length, get_or}
use Rattle.records.specs.Limits.{exceeds}
use Rattle.records.specs.HeaderRecord.{header_limits, bad_header_record}
use Rattle.records.specs.AuxiliaryRecord.{aux_limits, bad_aux_record}

pub header_length : (r : List ℕ) → (length r ≡ 147 → ⊥) → true ≡ bad_header_record r
unfolding bad_header_record
header_length r h = rw (ne_eqb (length r) 147 h) refl

pub header_type : (r : List ℕ) → length r ≡ 147 → get_or r 0 0 ≡ 2 → true ≡ bad_header_record r
unfolding bad_header_record
header_type r h e = rw (eq-eqb (length r) 147 h, eq-eqb (get_or r 0 0) 2 e) refl

pub header_rest : (r : List ℕ) → length r ≡ 147 → (get_or r 0 0 ≡ 2 → ⊥) → exceeds header_limits r ≡ bad_header_record r
unfolding bad_header_record
header_rest r h e = rw (eq-eqb (length r) 147 h, ne_eqb (get_or r 0 0) 2 e) refl

pub aux_length : (r : List ℕ) → (length r ≡ 19 → ⊥) → true ≡ bad_aux_record r
unfolding bad_aux_record
aux_length r h = rw (ne_eqb (length r) 19 h) refl

pub aux_absent : (r : List ℕ) → length r ≡ 19 → get_or r 0 0 ≡ 0 → false ≡ bad_aux_record r
unfolding bad_aux_record
aux_absent r h e = rw (eq-eqb (length r) 19 h, eq-eqb (get_or r 0 0) 0 e) refl

pub aux_rest : (r : List ℕ) → length r ≡ 19 → (get_or r 0 0 ≡ 0 → ⊥) → exceeds aux_limits r ≡ bad_aux_record r
unfolding bad_aux_record
aux_rest r h e = rw (eq-eqb (length r) 19 h, ne_eqb (get_or r 0 0) 0 e) refl
