-- Opening a frame at the network's level l (Zigbee Specification 4.3.1.2; `EncryptedNwkFrame::from_bytes` and `decrypt`). It uses the answer of reading
-- the frame. A frame whose security bit is off is clear: its payload is a part of the frame, and the output stays
-- (document 02, 3).
-- Assumes nothing.
use Rattle.std.specs.Prelude.{ℕ, ◌-◌, Bool, cond, not, ◌&&◌, List, [], ◌∷◌, length, take, drop, ltb, Option, Some, None, Result, Ok, Err}
use Rattle.octets.specs.Strings.{over}
use Rattle.octets.specs.declared.refusals.Refusal.{Refusal}
use Rattle.octets.specs.Refusals.{unless, Condition, on, by, first_of, number_of}
use Rattle.header.specs.declared.{nwk.NwkHeader.NwkHeader, auxiliary.NwkAuxHeader.NwkAuxHeader}
use Rattle.header.specs.Reading.{blank_header}
use Rattle.types.specs.declared.level.Level.{Level}
use Rattle.types.specs.Levels.{is_other, tag_length}
use Rattle.ccm.specs.Verification.{Verified, decryption_verification}
use Rattle.ccm.specs.Operations.{ciph_of, ciph_under}
use Rattle.frame.specs.declared.OpenedFrame.{OpenedFrame}
use Rattle.frame.specs.declared.Mark as code
use Rattle.frame.specs.Reading.{FrameRead, read_frame}
use Rattle.frame.specs.Security.{or_blank, nonce_ieee, no_ieee, nonce, authenticated}

-- the security bit: set in the header of a sealed frame, off in that of a clear one
abbrev pub is_sealed : NwkHeader → Bool
is_sealed h = h.frame_control.security

-- the last n bytes, or all if there are fewer
abbrev pub last_of : ℕ → List ℕ → List ℕ
last_of n s = drop (length s - n) s

-- what is behind the two headers: a clear frame's payload, or the ciphertext and its last t bytes, the MIC
unfoldable pub behind : List ℕ → FrameRead → List ℕ
behind f r = drop r.length f

unfoldable pub ciphertext_of : ℕ → List ℕ → List ℕ
ciphertext_of t s = take (length s - t) s

unfoldable pub mic_of : ℕ → List ℕ → List ℕ
mic_of t s = last_of t s

-- what CCM makes of them, ciph being the cipher under the key
unfoldable pub verified : Level → (List ℕ → List ℕ) → List ℕ → FrameRead → Verified
verified l ciph f r =
    decryption_verification (tag_length l) ciph (nonce l r.header (or_blank r.aux)) (authenticated l r.header (or_blank r.aux))
    (ciphertext_of (tag_length l) (behind f r)) (mic_of (tag_length l) (behind f r))

-- document 02's 29 for another level; document 01's numbers 1 to 12 as reading gives them; then, if the frame is sealed, 15, 16 and 18,
-- for the bytes behind the headers
unfoldable pub open_refusals : Level → ℕ → NwkHeader → Option NwkAuxHeader → ℕ → ℕ → List Condition
open_refusals l number h a part room =
    on 29 (is_other l)
    ∷ by number
    ∷ on 15 (is_sealed h && no_ieee h (or_blank a))
    ∷ on 16 (is_sealed h && ltb part (tag_length l))
    ∷ on 18 (is_sealed h && ltb room (part - tag_length l))
    ∷ []

-- those, then 19, if the frame is sealed
unfoldable pub open_refusal : Level → (List ℕ → List ℕ) → List ℕ → FrameRead → ℕ → ℕ
open_refusal l ciph f r room =
    first_of (by (first_of (open_refusals l r.refusal r.header r.aux (length (behind f r)) room))
    ∷ on 19 (is_sealed r.header && not (verified l ciph f r).valid)
    ∷ [])

-- the mark of an answer: none beside a refusal; clear, where nothing authenticates the payload; or sealed, where CCM does
pub data Mark : Type 0 where
  Unmarked Clear Sealed : Mark

-- the same, of the code's mark or none
abbrev pub marked : Option code.Mark → Mark
marked None = Mark.Unmarked
marked (Some code.Mark.Clear) = Mark.Clear
marked (Some code.Mark.Sealed) = Mark.Sealed

-- what opening a frame answers: a refusal's number with no mark, length 0, no address and blank headers, or 0, the mark, the payload's
-- length, the long address that the nonce used (none of a clear frame) and the two headers as read
pub record FrameOpened : Type 0 where
  pub refusal : ℕ
  pub mark : Mark
  pub length : ℕ
  pub nonce_ieee : Option ℕ
  pub header : NwkHeader
  pub aux : Option NwkAuxHeader

-- the number alone: no mark and no address stand beside a refusal
unfoldable pub open_refused : ℕ → FrameOpened
open_refused n =
    record { refusal = n; mark = Mark.Unmarked; length = 0; nonce_ieee = None; header = blank_header; aux = None }

-- the answer that the code gives
abbrev pub told_opened : Result OpenedFrame Refusal → FrameOpened
told_opened (Ok o) =
    record { refusal = 0; mark = marked (Some o.mark); length = o.length; nonce_ieee = o.nonce_ieee; header = o.header; aux = o.aux }
told_opened (Err r) = open_refused (number_of r)

-- what opening leaves: its answer, and the whole of the lent output
pub record Run : Type 0 where
  pub answer : FrameOpened
  pub out : List ℕ

-- the answer of a frame that was read: its headers, with the mark, the payload's length and the long address that the nonce used
abbrev pub opened_given : FrameRead → Mark → ℕ → Option ℕ → FrameOpened
opened_given r mark n ieee = record { refusal = 0; mark = mark; length = n; nonce_ieee = ieee; header = r.header; aux = r.aux }

-- sealed: the payload at the front of the output
abbrev pub sealed_given : FrameRead → Verified → List ℕ → Run
sealed_given r v o =
    record {
      answer = opened_given r Mark.Sealed (length v.payload) (nonce_ieee (or_blank r.aux).extended_source r.header.source_ieee);
      out = over o 0 v.payload;
    }

-- clear: the payload stays in the frame, there is no address, and the output is as it was
abbrev pub clear_given : List ℕ → FrameRead → List ℕ → Run
clear_given f r o = record { answer = opened_given r Mark.Clear (length (behind f r)) None; out = o }

abbrev pub open_given : List ℕ → FrameRead → Verified → List ℕ → Run
open_given f r v o = cond (is_sealed r.header) (sealed_given r v o) (clear_given f r o)

-- refused by a number, nothing changed
abbrev pub open_nothing : ℕ → List ℕ → Run
open_nothing n o = record { answer = open_refused n; out = o }

unfoldable pub open_by : Level → (List ℕ → List ℕ) → List ℕ → FrameRead → List ℕ → Run
open_by l ciph f r o =
    unless (open_refusal l ciph f r (length o)) (open_given f r (verified l ciph f r) o) (open_nothing (open_refusal l ciph f r (length o)) o)

unfoldable pub open_with : Level → (List ℕ → List ℕ) → List ℕ → List ℕ → Run
open_with l ciph f o = open_by l ciph f (read_frame f) o

-- opening under a key
abbrev pub open_frame : Level → List ℕ → List ℕ → List ℕ → Run
open_frame l key f o = open_with l (ciph_of key) f o

-- the same under any eleven round keys; under those of a key it is `open_frame` (`cipher_is` in crates/ccm/proofs/RoundKeys.antt)
abbrev pub open_under : Level → List (List (List ℕ)) → List ℕ → List ℕ → Run
open_under l w f o = open_with l (ciph_under w) f o

-- ---- the payload

-- the payload that an answer speaks of: the last bytes of the frame f if clear, the first of the opened bytes o if sealed, as
-- many as the length says; none beside a refusal
abbrev pub payload_by : Mark → ℕ → List ℕ → List ℕ → List ℕ
payload_by Mark.Unmarked n f o = []
payload_by Mark.Clear n f o = last_of n f
payload_by Mark.Sealed n f o = take n o

abbrev pub payload_in : FrameOpened → List ℕ → List ℕ → List ℕ
payload_in a f o = payload_by a.mark a.length f o
