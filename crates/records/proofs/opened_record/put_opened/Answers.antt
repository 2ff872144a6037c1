-- `records::opened_record::put_opened` meets its contract: the front, and the two headers behind it. Assumes nothing.
use Rattle.std.specs.Prelude.{Option}
use mathlib.Core.Path.{◌≡◌, refl}
use mathlib.Core.List.{List, ◌++◌}
use Prim.Native.Nat.{ℕ, ◌≤◌}
use native.Mathlib.Omega.{arith}
use lib.ListN.{length}
use Rattle.octets.specs.Strings.{over}
use Rattle.octets.proofs.Strings.{over_then}
use Rattle.header.specs.declared.{nwk.NwkHeader.NwkHeader, auxiliary.NwkAuxHeader.NwkAuxHeader}
use Rattle.frame.specs.Opening.{open_refused}
use Rattle.records.specs.HeaderRecord.{header_record}
use Rattle.records.specs.OpenedRecord.{option_record, opened_front, opened_record}
use Rattle.records.proofs.Sizes.{length_front}
use Rattle.records.proofs.opened_record.put_opened.Goals as goal

both_parts : (o o₁ o₂ : List ℕ) (refusal mark n : ℕ) (ieee : Option ℕ) (h : NwkHeader) (a : Option NwkAuxHeader) → 182 ≤ length o
    → o₁ ≡ over o 0 (opened_front refusal mark n ieee) → o₂ ≡ over o₁ 16 (header_record h ++ option_record a)
    → o₂ ≡ over o 0 (opened_front refusal mark n ieee ++ (header_record h ++ option_record a))
both_parts o o₁ o₂ refusal mark n ieee h a room p q =
    over_then o o₁ o₂ 0 16 (opened_front refusal mark n ieee) _ (omega arith) (rw (length_front refusal mark n ieee) refl) p q

pub returns-in-Ok : goal.returns-in-Ok
unfolding opened_record
returns-in-Ok c =
    rw c.in-Ok.is
    (both_parts _ _ _ 0 _ _ _ _ _ (omega arith) (rw c.mark_code-mark.ensures at c.put_front.ensures) c.put_headers.ensures)

pub returns-in-Err : goal.returns-in-Err
unfolding opened_record open_refused
returns-in-Err c =
    rw c.in-Err.is
    (both_parts _ _ _ _ _ 0 _ _ _ (omega arith) (rw (c.number.ensures.0, c.mark_code.ensures) at c.put_front-in-Err.ensures)
    (rw c.blank.ensures at c.put_headers-in-Err.ensures))
