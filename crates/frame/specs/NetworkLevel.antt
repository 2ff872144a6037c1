-- Document 02, 9, of frames, sentence by sentence. Each is one claim over all levels, keys, headers, payloads, frames and earlier output
-- contents. The sealing law with one level for both calls is in SealingLaw.antt, what 9 says of CCM alone in
-- crates/ccm/specs/Levels.antt, and of bursts in crates/burst/specs/Claims.antt; the figures are a table in
-- crates/worked_frames/specs/Levels.antt.
-- Assumes nothing.
use Rattle.std.specs.Prelude.{◌≡◌, true, not, ◌&&◌, List, [], ◌∷◌, ◌++◌, ℕ, ◌+◌, ◌-◌, ◌%◌, length, get_or, drop, eqb, ltb, Option, Some}
use Rattle.octets.specs.Numbers.{le}
use Rattle.octets.specs.Refusals.{unless, on, by, first_of}
use Rattle.types.specs.declared.level.Level.{Level}
use Rattle.types.specs.Counters.{last_counter}
use Rattle.types.specs.Levels.{is_other}
use Rattle.header.specs.declared.{auxiliary.NwkSecurityLevel.NwkSecurityLevel, auxiliary.NwkAuxHeader.NwkAuxHeader, nwk.NwkHeader.NwkHeader}
use Rattle.header.specs.AuxiliaryControl.{security_byte, with_level}
use Rattle.header.specs.Auxiliary.{aux_bytes}
use Rattle.header.specs.Writing.{header_bytes}
use Rattle.ccm.specs.Generation.{Generated}
use Rattle.ccm.specs.Verification.{Verified, decryption_verification}
use Rattle.ccm.specs.Operations.{ciph_of, sealed_by}
use Rattle.frame.specs.Reading.{FrameRead, read_frame}
use Rattle.frame.specs.Writing.{length_refusals}
use Rattle.frame.specs.Security.{sent_level, at_level, or_blank, ieee_of, no_ieee, nonce, authenticated}
use Rattle.frame.specs.Sealing as sealing
use Rattle.frame.specs.Sealing.{headers_refusal, counter_of, seal_nothing, seal_by, seal_frame}
use Rattle.frame.specs.Opening as opening
use Rattle.frame.specs.Opening.{is_sealed, behind, ciphertext_of, mic_of, open_given, open_nothing, open_frame}
use Rattle.frame.specs.SealingLaw.{bytes_written}

-- ---- "that level takes the place of 5 in nonce and authentication"

-- the level's number: the three lowest bits of the security control, in the nonce's last byte and in the first one behind the header
pub record LevelUsed (l : Level) (n : ℕ) (h : NwkHeader) (a : NwkAuxHeader) : Type 0 where
  pub nonce : get_or (nonce l h a) 12 0 % 8 ≡ n
  pub authenticated : get_or (drop (length (header_bytes h)) (authenticated l h a)) 0 0 % 8 ≡ n

-- at the three levels, whatever level the auxiliary header has
abbrev pub LevelInNonce : Type 0
LevelInNonce =
    (h : NwkHeader) (a : NwkAuxHeader) → LevelUsed Level.EncMic32 5 h a × LevelUsed Level.EncMic64 6 h a × LevelUsed Level.EncMic128 7 h a

-- ---- "the level sent is still 0"

-- in the first byte behind the header of whatever is sealed
abbrev pub SentIsZero : Type 0
SentIsZero =
    (l : Level) (key : List ℕ) (h : NwkHeader) (a : Option NwkAuxHeader) (p o : List ℕ) → (seal_frame l key h a p o).answer.refusal ≡ 0
    → get_or (drop (length (header_bytes h)) (bytes_written (seal_frame l key h a p o))) 0 0 % 8 ≡ 0

-- the level in the auxiliary header that is handed to sealing does not matter
abbrev pub HandedLevel : Type 0
HandedLevel =
    (l : Level) (m : NwkSecurityLevel) (key : List ℕ) (h : NwkHeader) (a : NwkAuxHeader) (p o : List ℕ)
    → seal_frame l key h (Some (at_level m a)) p o ≡ seal_frame l key h (Some a) p o

-- ---- "29, before all .. if the level is another"

-- nothing changes, whatever else is wrong
pub record AllBy29 (l : Level) (key : List ℕ) (h : NwkHeader) (a : Option NwkAuxHeader) (p f o : List ℕ) : Type 0 where
  pub sealing : seal_frame l key h a p o ≡ seal_nothing 29 o
  pub opening : open_frame l key f o ≡ open_nothing 29 o

abbrev pub OtherLevel : Type 0
OtherLevel = (l : Level) (key : List ℕ) (h : NwkHeader) (a : Option NwkAuxHeader) (p f o : List ℕ) → is_other l ≡ true → AllBy29 l key h a p f o

-- ---- "level 5 .. answers as before"

-- sealing and opening as they were without a level: 5 in nonce and authentication, a tag of 4 bytes, and the lists without 29
abbrev pub former_nonce : NwkHeader → NwkAuxHeader → List ℕ
former_nonce h a =
    le 8 (ieee_of a.extended_source h.source_ieee)
    ++ (le 4 a.frame_counter ++ le 1 (security_byte (with_level a.security_control NwkSecurityLevel.EncMic32)))

abbrev pub former_data : NwkHeader → NwkAuxHeader → List ℕ
former_data h a = header_bytes h ++ aux_bytes (at_level NwkSecurityLevel.EncMic32 a)

abbrev pub former_sealed : List ℕ → NwkHeader → NwkAuxHeader → List ℕ → Generated
former_sealed key h a p = sealed_by 4 key (former_nonce h a) (former_data h a) p

abbrev pub former_opened : List ℕ → List ℕ → FrameRead → Verified
former_opened key f r =
    decryption_verification 4 (ciph_of key) (former_nonce r.header (or_blank r.aux)) (former_data r.header (or_blank r.aux))
    (ciphertext_of 4 (behind f r)) (mic_of 4 (behind f r))

unfoldable pub seal_formerly : List ℕ → NwkHeader → Option NwkAuxHeader → List ℕ → List ℕ → sealing.Run
seal_formerly key h a p o =
    seal_by (first_of (by (headers_refusal h a)
    ∷ on 21 (eqb (counter_of a) last_counter)
    ∷ length_refusals (length p) (length (header_bytes h) + length (aux_bytes (or_blank a)) + 4 + length p) (length o)))
    ((header_bytes h ++ aux_bytes (at_level sent_level (or_blank a))) ++ ((former_sealed key h (or_blank a) p).ciphertext ++ (former_sealed key h (or_blank a) p).tag)) o

abbrev pub former_number : List ℕ → List ℕ → FrameRead → ℕ → ℕ
former_number key f r room =
    first_of (by (first_of (by r.refusal
    ∷ on 15 (is_sealed r.header && no_ieee r.header (or_blank r.aux))
    ∷ on 16 (is_sealed r.header && ltb (length (behind f r)) 4)
    ∷ on 18 (is_sealed r.header && ltb room (length (behind f r) - 4))
    ∷ []))
    ∷ on 19 (is_sealed r.header && not (former_opened key f r).valid)
    ∷ [])

unfoldable pub open_formerly : List ℕ → List ℕ → List ℕ → opening.Run
open_formerly key f o =
    unless (former_number key f (read_frame f) (length o)) (open_given f (read_frame f) (former_opened key f (read_frame f)) o)
    (open_nothing (former_number key f (read_frame f) (length o)) o)

-- at level 5 they are these
pub record Former (key : List ℕ) (h : NwkHeader) (a : Option NwkAuxHeader) (p f o : List ℕ) : Type 0 where
  pub sealing : seal_frame Level.EncMic32 key h a p o ≡ seal_formerly key h a p o
  pub opening : open_frame Level.EncMic32 key f o ≡ open_formerly key f o

abbrev pub LevelFive : Type 0
LevelFive = (key : List ℕ) (h : NwkHeader) (a : Option NwkAuxHeader) (p f o : List ℕ) → Former key h a p f o
