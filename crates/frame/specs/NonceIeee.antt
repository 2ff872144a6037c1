-- Document 02, 5, of opening: "the opened frame's record now carries the long address the nonce used (none for a clear frame)".
-- Each is one claim over all levels, keys, frames and earlier output contents. Which frames are opened is in Marks.antt, and that a
-- record of a burst has the same address is `EachSaid` in crates/burst/specs/Claims.antt.
-- Assumes nothing.
use Rattle.std.specs.Prelude.{◌≡◌, List, ◌++◌, ℕ, ◌≤◌, length, Some, None, Option}
use Rattle.octets.specs.Numbers.{le}
use Rattle.types.specs.declared.level.Level.{Level}
use Rattle.types.specs.Levels.{tag_length}
use Rattle.header.specs.declared.{auxiliary.NwkAuxHeader.NwkAuxHeader, nwk.NwkHeader.NwkHeader}
use Rattle.header.specs.AuxiliaryControl.{security_byte, with_level}
use Rattle.ccm.specs.Operations.{opened_by}
use Rattle.frame.specs.Reading.{read_frame}
use Rattle.frame.specs.Security.{field_level, or_blank, ieee_of, authenticated}
use Rattle.frame.specs.Sealing.{seal_frame}
use Rattle.frame.specs.Opening.{Mark, behind, ciphertext_of, mic_of, open_frame}
use Rattle.frame.specs.SealingLaw.{InRange, seal_then_open}
use Rattle.frame.specs.Marks.{ccm_of}

-- the address that the nonce of two headers uses
abbrev pub address_of : NwkHeader → Option NwkAuxHeader → ℕ
address_of h a = ieee_of (or_blank a).extended_source h.source_ieee

-- a nonce that begins with the address x: behind it the counter and the security control with the network's level
abbrev pub nonce_from : Level → ℕ → NwkAuxHeader → List ℕ
nonce_from l x a = le 8 x ++ (le 4 a.frame_counter ++ le 1 (security_byte (with_level a.security_control (field_level l))))

-- ---- "the long address the nonce used"

-- the address given, which is that of the headers given, is the one with which the nonce begins that CCM opened the frame with
pub record NonceUsed (l : Level) (key f o : List ℕ) : Type 0 where
  pub address : ℕ
  pub given : (open_frame l key f o).answer.nonce_ieee ≡ Some address
  pub rule : address ≡ address_of (open_frame l key f o).answer.header (open_frame l key f o).answer.aux
  pub used : ccm_of l key f
      ≡ opened_by (tag_length l) key (nonce_from l address (or_blank (read_frame f).aux)) (authenticated l (read_frame f).header (or_blank (read_frame f).aux))
      (ciphertext_of (tag_length l) (behind f (read_frame f))) (mic_of (tag_length l) (behind f (read_frame f)))

abbrev pub SealedGivesAddress : Type 0
SealedGivesAddress = (l : Level) (key f o : List ℕ) → (open_frame l key f o).answer.mark ≡ Mark.Sealed → NonceUsed l key f o

-- ---- "none for a clear frame"

abbrev pub ClearGivesNone : Type 0
ClearGivesNone = (l : Level) (key f o : List ℕ) → (open_frame l key f o).answer.mark ≡ Mark.Clear → (open_frame l key f o).answer.nonce_ieee ≡ None

-- and none beside a refusal
abbrev pub RefusedGivesNone : Type 0
RefusedGivesNone = (l : Level) (key f o : List ℕ) → ((open_frame l key f o).answer.refusal ≡ 0 → ⊥) → (open_frame l key f o).answer.nonce_ieee ≡ None

-- ---- sealing, then opening

-- it is the address of the nonce that the frame was sealed with, under the premises of the sealing law's first half
abbrev pub AddressComesBack : Type 0
AddressComesBack =
    (l : Level) (key : List ℕ) (h : NwkHeader) (a : Option NwkAuxHeader) (p out out₂ : List ℕ)
    → InRange h a
    → (seal_frame l key h a p out).answer.refusal ≡ 0
    → length p ≤ length out₂
    → (seal_then_open l key h a p out out₂).answer.nonce_ieee ≡ Some (address_of h a)
