-- Document 02, 8, of the headers alone: presence bits must agree. What the writers of frames and sealing make of it is in
-- crates/frame/specs/PresenceBits.antt.
-- Assumes nothing.
use Rattle.std.specs.Prelude.{◌≡◌, true, List, ◌++◌, ◌↔◌, ℕ, ◌≤◌, length}
use Rattle.octets.specs.Writing.{written_bytes}
use Rattle.types.specs.Optional.{has_ieee}
use Rattle.header.specs.declared.{nwk.NwkHeader.NwkHeader, auxiliary.NwkAuxHeader.NwkAuxHeader}
use Rattle.header.specs.Optional.{has_multicast, has_route}
use Rattle.header.specs.Reading.{HeaderRead, read_header}
use Rattle.header.specs.Writing.{write_header}
use Rattle.header.specs.Auxiliary.{read_aux}
use Rattle.header.specs.Same.{Agrees, AuxAgrees, agrees, aux_agrees, SameHeader, HeaderFits}

-- ---- "one of bits 8, 10, 11, 12 disagrees with its field"

pub data Disagrees (h : NwkHeader) : Type 0 where
  bit8 : (h.frame_control.multicast ≡ has_multicast h.multicast_control → ⊥) → Disagrees h
  bit10 : (h.frame_control.source_route ≡ has_route h.source_route → ⊥) → Disagrees h
  bit11 : (h.frame_control.destination ≡ has_ieee h.destination_ieee → ⊥) → Disagrees h
  bit12 : (h.frame_control.extended_source ≡ has_ieee h.source_ieee → ⊥) → Disagrees h

-- the tests that the writers make say just what the statements say; where a header does not agree, one of the four bits disagrees
pub record Tested (h : NwkHeader) (a : NwkAuxHeader) : Type 0 where
  pub header : (agrees h ≡ true) ↔ Agrees h
  pub auxiliary : (aux_agrees a ≡ true) ↔ AuxAgrees a
  pub disagrees : (Agrees h → ⊥) ↔ Disagrees h

abbrev pub TestsSay : Type 0
TestsSay = (h : NwkHeader) (a : NwkAuxHeader) → Tested h a

-- ---- what is read, and what is written

-- reading gives only headers that agree, beside a refusal too
abbrev pub ReadingAgrees : Type 0
ReadingAgrees = (f : List ℕ) → Agrees (read_header f).header × AuxAgrees (read_aux f).aux

-- what reading r gives of a header h written in so many bytes
pub record ReadAgain (h : NwkHeader) (n : ℕ) (r : HeaderRead) : Type 0 where
  pub accepted : r.refusal ≡ 0
  pub length : r.length ≡ n
  pub header : SameHeader h r.header

-- whatever the writer accepts reads back the same, with any bytes behind it, 118 at the most in all; the premise on ranges is what
-- every header has
abbrev pub WrittenReadsBack : Type 0
WrittenReadsBack =
    (h : NwkHeader) (o rest : List ℕ)
    → HeaderFits h → (write_header h o).answer.refusal ≡ 0
    → length (written_bytes (write_header h o) ++ rest) ≤ 118
    → ReadAgain h (write_header h o).answer.length (read_header (written_bytes (write_header h o) ++ rest))
