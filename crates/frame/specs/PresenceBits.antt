-- Document 02, 8, sentence by sentence: presence bits must agree. Each is one claim over all levels, keys, headers, payloads, frames and
-- earlier output contents. What it says of headers alone is in crates/header/specs/PresenceBits.antt.
-- Assumes nothing.
use Rattle.std.specs.Prelude.{◌≡◌, true, false, List, [], ◌∷◌, ◌↔◌, ℕ, ◌+◌, length, eqb, ltb, Option, Some, None}
use Rattle.octets.specs.Refusals.{on, first_of}
use Rattle.octets.specs.Writing.{Run, written}
use Rattle.types.specs.declared.level.Level.{Level}
use Rattle.types.specs.Levels.{is_other}
use Rattle.types.specs.Counters.{last_counter}
use Rattle.header.specs.declared.{auxiliary.NwkAuxHeader.NwkAuxHeader, nwk.NwkHeader.NwkHeader}
use Rattle.header.specs.Reading.{read_header}
use Rattle.header.specs.Writing.{header_bytes, bad_header, write_header}
use Rattle.header.specs.Same.{Agrees, AuxAgrees}
use Rattle.header.specs.PresenceBits.{Disagrees}
use Rattle.frame.specs.Reading.{read_frame}
use Rattle.frame.specs.Writing.{frame_bytes, length_refusals, write_frame}
use Rattle.frame.specs.Security.{is_absent, or_blank, no_ieee}
use Rattle.frame.specs.Sealing as sealing
use Rattle.frame.specs.Sealing.{sealed_bytes, sealed_length, counter_of, seal_by, seal_frame}
use Rattle.frame.specs.Opening.{is_sealed}

-- ---- "refuses any header where one of bits 8, 10, 11, 12 disagrees with its field"; "sealing also refuses if bit 9 is off or if the
-- extended nonce bit disagrees with the auxiliary address"

-- what sealing refuses: one of the four bits, bit 9, or the extended nonce bit of an auxiliary header that is there
pub data SealingDisagrees (h : NwkHeader) (a : Option NwkAuxHeader) : Type 0 where
  header : Disagrees h → SealingDisagrees h a
  bit9 : h.frame_control.security ≡ false → SealingDisagrees h a
  nonce : (x : NwkAuxHeader) → a ≡ Some x → (AuxAgrees x → ⊥) → SealingDisagrees h a

-- 28 is the answer exactly there, unless 13 is, or in sealing 29; and for the extended nonce bit unless there is no auxiliary header, which is 14
pub record Exactly28 (l : Level) (key : List ℕ) (h : NwkHeader) (a : Option NwkAuxHeader) (p o : List ℕ) : Type 0 where
  pub header : ((write_header h o).answer.refusal ≡ 28) ↔ ((bad_header h ≡ false) × Disagrees h)
  pub frame : ((write_frame h p o).answer.refusal ≡ 28) ↔ ((bad_header h ≡ false) × Disagrees h)
  pub sealed : ((seal_frame l key h a p o).answer.refusal ≡ 28) ↔ ((is_other l ≡ false) × (bad_header h ≡ false) × SealingDisagrees h a)

abbrev pub TwentyEightExactly : Type 0
TwentyEightExactly = (l : Level) (key : List ℕ) (h : NwkHeader) (a : Option NwkAuxHeader) (p o : List ℕ) → Exactly28 l key h a p o

-- ---- every other answer is what it was

-- the writers by their lists without 28
unfoldable pub write_header_before : NwkHeader → List ℕ → Run
write_header_before h o =
    written (first_of (on 13 (bad_header h) ∷ on 17 (ltb 118 (length (header_bytes h))) ∷ on 18 (ltb (length o) (length (header_bytes h))) ∷ []))
    (header_bytes h) o

unfoldable pub write_frame_before : NwkHeader → List ℕ → List ℕ → Run
write_frame_before h p o =
    written (first_of (on 13 (bad_header h) ∷ length_refusals (length p) (length (header_bytes h) + length p) (length o))) (frame_bytes h p) o

unfoldable pub seal_before : Level → List ℕ → NwkHeader → Option NwkAuxHeader → List ℕ → List ℕ → sealing.Run
seal_before l key h a p o =
    seal_by (first_of (on 29 (is_other l)
    ∷ on 13 (bad_header h)
    ∷ on 14 (is_absent a)
    ∷ on 15 (no_ieee h (or_blank a))
    ∷ on 21 (eqb (counter_of a) last_counter)
    ∷ length_refusals (length p) (sealed_length l h (or_blank a) (length p)) (length o)))
    (sealed_bytes l key h (or_blank a) p) o

-- what is not refused by 28, all that is accepted among it, has the answer and leaves the output that it had
pub record AsBefore (l : Level) (key : List ℕ) (h : NwkHeader) (a : Option NwkAuxHeader) (p o : List ℕ) : Type 0 where
  pub header : ((write_header h o).answer.refusal ≡ 28 → ⊥) → write_header h o ≡ write_header_before h o
  pub frame : ((write_frame h p o).answer.refusal ≡ 28 → ⊥) → write_frame h p o ≡ write_frame_before h p o
  pub sealed : ((seal_frame l key h a p o).answer.refusal ≡ 28 → ⊥) → seal_frame l key h a p o ≡ seal_before l key h a p o

abbrev pub OthersAsBefore : Type 0
OthersAsBefore = (l : Level) (key : List ℕ) (h : NwkHeader) (a : Option NwkAuxHeader) (p o : List ℕ) → AsBefore l key h a p o

-- ---- "the sealing law loses its premises .., since sealing ensures them"

-- an auxiliary header or none: its presence bit agrees with its field
abbrev pub AuxOptionAgrees : Option NwkAuxHeader → Type 0
AuxOptionAgrees None = Unit {0}
AuxOptionAgrees (Some a) = AuxAgrees a

-- the security bit is set, and each presence bit agrees with its field
pub record BitsAgree (h : NwkHeader) (a : Option NwkAuxHeader) : Type 0 where
  pub security : h.frame_control.security ≡ true
  pub header : Agrees h
  pub auxiliary : AuxOptionAgrees a

abbrev pub SealingEnsures : Type 0
SealingEnsures =
    (l : Level) (key : List ℕ) (h : NwkHeader) (a : Option NwkAuxHeader) (p o : List ℕ) → (seal_frame l key h a p o).answer.refusal ≡ 0 → BitsAgree h a

-- ---- what was read is never refused by 28 on writing

-- a header, a frame without a key, and a secured frame, opened or not
pub record NeverBy28 (l : Level) (key f p o : List ℕ) : Type 0 where
  pub header : (write_header (read_header f).header o).answer.refusal ≡ 28 → ⊥
  pub frame : (write_frame (read_frame f).header p o).answer.refusal ≡ 28 → ⊥
  pub sealed : is_sealed (read_frame f).header ≡ true → (seal_frame l key (read_frame f).header (read_frame f).aux p o).answer.refusal ≡ 28 → ⊥

abbrev pub ReadIsNeverBy28 : Type 0
ReadIsNeverBy28 = (l : Level) (key f p o : List ℕ) → NeverBy28 l key f p o
