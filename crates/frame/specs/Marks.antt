-- Document 02, 3, sentence by sentence: what opening answers for clear and for sealed frames. Each is one claim over all levels,
-- keys, frames and earlier output contents. Of bursts the claims are in crates/burst/specs/Claims.antt, and the sealing law in
-- SealingLaw.antt speaks of sealed frames only.
-- Assumes nothing.
use Rattle.std.specs.Prelude.{◌≡◌, true, false, not, List, [], ◌∷◌, ℕ, ◌-◌, ◌≤◌, length, drop, ltb, None}
use Rattle.octets.specs.Refusals.{on, by, first_of}
use Rattle.octets.specs.Writing.{written_bytes}
use Rattle.types.specs.declared.level.Level.{Level}
use Rattle.types.specs.Levels.{is_other, tag_length}
use Rattle.header.specs.declared.nwk.NwkHeader.{NwkHeader}
use Rattle.header.specs.Reading.{control}
use Rattle.header.specs.Same.{SameHeader, HeaderFits}
use Rattle.ccm.specs.Verification.{Verified}
use Rattle.ccm.specs.Operations.{ciph_of}
use Rattle.frame.specs.Reading.{FrameRead, read_frame}
use Rattle.frame.specs.Security.{or_blank, no_ieee}
use Rattle.frame.specs.Writing.{write_frame}
use Rattle.frame.specs.Opening.{Mark, is_sealed, behind, verified, sealed_given, clear_given, open_frame, payload_in}

-- the payload handed back of the frame f, opened under key into o
abbrev pub handed_back : Level → List ℕ → List ℕ → List ℕ → List ℕ
handed_back l key f o = payload_in (open_frame l key f o).answer f (open_frame l key f o).out

-- ---- "opening now accepts a frame whose security bit is off, marks the answer as clear and does not touch the output"

-- a frame that reads, its security bit off
pub record IsClear (f : List ℕ) : Type 0 where
  pub reads : (read_frame f).refusal ≡ 0
  pub off : is_sealed (read_frame f).header ≡ false

-- at each of the three levels, under every key and into every output, shorter than the payload or empty too, what opening leaves is this: marked clear, the
-- headers as read, no auxiliary header, "the length given is then the payload's", and the output as it was
pub record Clear (l : Level) (key f o : List ℕ) : Type 0 where
  pub run : open_frame l key f o ≡ clear_given f (read_frame f) o
  pub auxiliary : (open_frame l key f o).answer.aux ≡ None
  pub length : (open_frame l key f o).answer.length ≡ length (drop (read_frame f).length f)
  pub untouched : (open_frame l key f o).out ≡ o

abbrev pub ClearAccepted : Type 0
ClearAccepted = (l : Level) (key f o : List ℕ) → is_other l ≡ false → IsClear f → Clear l key f o

-- and no other frame is marked so
abbrev pub ClearOnly : Type 0
ClearOnly = (l : Level) (key f o : List ℕ) → (open_frame l key f o).answer.mark ≡ Mark.Clear → IsClear f

-- ---- "every frame that was opened before has the answer it had, now marked sealed"

-- what CCM makes of the frame
abbrev pub ccm_of : Level → List ℕ → List ℕ → Verified
ccm_of l key f = verified l (ciph_of key) f (read_frame f)

-- the conditions on which a frame is opened: at level l under the cipher ciph, r being what reading it answers
pub record Openable (l : Level) (ciph : List ℕ → List ℕ) (f : List ℕ) (r : FrameRead) (room : ℕ) : Type 0 where
  pub level : is_other l ≡ false
  pub reads : r.refusal ≡ 0
  pub on : is_sealed r.header ≡ true
  pub ieee : no_ieee r.header (or_blank r.aux) ≡ false
  pub tagged : tag_length l ≤ length (behind f r)
  pub fits : length (behind f r) - tag_length l ≤ room
  pub valid : (verified l ciph f r).valid ≡ true

abbrev pub IsOpened : Level → List ℕ → List ℕ → List ℕ → Type 0
IsOpened l key f o = Openable l (ciph_of key) f (read_frame f) (length o)

-- on these the headers are as read, and what CCM opened stands at the front of the output
abbrev pub SealedAccepted : Type 0
SealedAccepted = (l : Level) (key f o : List ℕ) → IsOpened l key f o → open_frame l key f o ≡ sealed_given (read_frame f) (ccm_of l key f) o

-- and no other frame is marked sealed
abbrev pub SealedOnly : Type 0
SealedOnly = (l : Level) (key f o : List ℕ) → (open_frame l key f o).answer.mark ≡ Mark.Sealed → IsOpened l key f o

-- a frame whose security bit is on, read or not, is refused by the numbers that refused it, in their order
abbrev pub SecuredNumbers : Type 0
SecuredNumbers =
    (l : Level) (key f o : List ℕ) → (control f).security ≡ true
    → (open_frame l key f o).answer.refusal
    ≡ first_of (on 29 (is_other l)
    ∷ by (read_frame f).refusal
    ∷ on 15 (no_ieee (read_frame f).header (or_blank (read_frame f).aux))
    ∷ on 16 (ltb (length (behind f (read_frame f))) (tag_length l))
    ∷ on 18 (ltb (length o) (length (behind f (read_frame f)) - tag_length l))
    ∷ on 19 (not (ccm_of l key f).valid)
    ∷ [])

-- ---- no mark beside a refusal

-- and one beside every answer that is none, so that an answer is exactly one of refused, clear and sealed
pub record Marked (l : Level) (key f o : List ℕ) : Type 0 where
  pub refused : ((open_frame l key f o).answer.refusal ≡ 0 → ⊥) → (open_frame l key f o).answer.mark ≡ Mark.Unmarked
  pub accepted : (open_frame l key f o).answer.refusal ≡ 0 → (open_frame l key f o).answer.mark ≡ Mark.Unmarked → ⊥

abbrev pub MarkedIfAccepted : Type 0
MarkedIfAccepted = (l : Level) (key f o : List ℕ) → Marked l key f o

-- ---- "the payload handed back is a part of the frame if clear, and of the opened bytes if sealed"

-- of a clear frame what follows the headers: the frame's last bytes, as many as the length says
abbrev pub PayloadOfClear : Type 0
PayloadOfClear = (l : Level) (key f o : List ℕ) → (open_frame l key f o).answer.mark ≡ Mark.Clear → handed_back l key f o ≡ drop (read_frame f).length f

-- of a sealed one what CCM opened
abbrev pub PayloadOfSealed : Type 0
PayloadOfSealed = (l : Level) (key f o : List ℕ) → (open_frame l key f o).answer.mark ≡ Mark.Sealed → handed_back l key f o ≡ (ccm_of l key f).payload

-- beside a refusal none
abbrev pub PayloadOfRefused : Type 0
PayloadOfRefused = (l : Level) (key f o : List ℕ) → ((open_frame l key f o).answer.refusal ≡ 0 → ⊥) → handed_back l key f o ≡ []

-- it has the length that the answer says
abbrev pub PayloadLength : Type 0
PayloadLength = (l : Level) (key f o : List ℕ) → length (handed_back l key f o) ≡ (open_frame l key f o).answer.length

-- ---- "opening no longer gives 14"

abbrev pub NoFourteen : Type 0
NoFourteen = (l : Level) (key f o : List ℕ) → (open_frame l key f o).answer.refusal ≡ 14 → ⊥

-- ---- what was written without a key

-- opened from the frame f, under key into o, it is clear, and header and payload are those that were written
pub record WrittenBack (l : Level) (h : NwkHeader) (p key f o : List ℕ) : Type 0 where
  pub marked : (open_frame l key f o).answer.mark ≡ Mark.Clear
  pub header : SameHeader h (open_frame l key f o).answer.header
  pub payload : handed_back l key f o ≡ p

-- where writing accepts the header, which is within its types' ranges, and its security bit is off
abbrev pub WrittenOpensClear : Type 0
WrittenOpensClear =
    (l : Level) (key : List ℕ) (h : NwkHeader) (p out o : List ℕ) → is_other l ≡ false → HeaderFits h → (write_frame h p out).answer.refusal ≡ 0
    → h.frame_control.security ≡ false
    → WrittenBack l h p key (written_bytes (write_frame h p out)) o
