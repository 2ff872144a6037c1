-- Reading a frame (Zigbee Specification 3.3.1; `EncryptedNwkFrame::from_bytes`): the header, the auxiliary header exactly if
-- the security bit is set, and what is behind them. It uses the answers of reading the two headers.
-- Assumes nothing.
use Rattle.std.specs.Prelude.{ℕ, ◌+◌, ◌-◌, Bool, true, false, cond, not, ◌&&◌, List, [], ◌∷◌, length, drop, ltb, Option, Some, None, Result, Ok, Err}
use Rattle.octets.specs.declared.refusals.Refusal.{Refusal}
use Rattle.octets.specs.Refusals.{unless, on, by, first_of, number_of}
use Rattle.header.specs.declared.{auxiliary.NwkAuxHeader.NwkAuxHeader, control.NwkFrameType.NwkFrameType, nwk.NwkHeader.NwkHeader}
use Rattle.header.specs.Reading.{HeaderRead, read_header, blank_header}
use Rattle.header.specs.Auxiliary.{AuxRead, read_aux}
use Rattle.frame.specs.declared.{Frame.Frame, NwkPayload.NwkPayload}

-- the security bit, bit 9 of frame control
abbrev pub secured : HeaderRead → Bool
secured h = h.header.frame_control.security

-- the auxiliary header if the security bit is set
abbrev pub aux_if : Bool → NwkAuxHeader → Option NwkAuxHeader
aux_if true a = Some a
aux_if false a = None

-- the bytes behind the header, read as an auxiliary header
abbrev pub aux_behind : List ℕ → HeaderRead → AuxRead
aux_behind f h = read_aux (drop h.length f)

-- the refusals of reading a frame: 1 to 8 as the header's reading gives them; 9 to 11 as the auxiliary header's does, if
-- there is one; 12 for more than 108 bytes of an unsecured payload
unfoldable pub frame_refusal : ℕ → Bool → ℕ → ℕ → ℕ
frame_refusal header is_secured aux payload =
    first_of (by header ∷ by (cond is_secured aux 0) ∷ on 12 (not is_secured && ltb 108 payload) ∷ [])

-- what reading a frame answers: a refusal's number with length 0 and blank headers, or 0, how many bytes the two headers take and
-- the headers
pub record FrameRead : Type 0 where
  pub refusal : ℕ
  pub length : ℕ
  pub header : NwkHeader
  pub aux : Option NwkAuxHeader

-- the number alone
unfoldable pub frame_refused : ℕ → FrameRead
frame_refused n = record { refusal = n; length = 0; header = blank_header; aux = None }

-- the same, of the code's answer
abbrev pub told_frame : Result Frame Refusal → FrameRead
told_frame (Ok r) = record { refusal = 0; length = r.length; header = r.header; aux = r.aux }
told_frame (Err r) = frame_refused (number_of r)

-- the two headers and how many bytes they take
abbrev pub frame_given : HeaderRead → AuxRead → FrameRead
frame_given h a =
    record { refusal = 0; length = h.length + cond (secured h) a.length 0; header = h.header; aux = aux_if (secured h) a.aux }

unfoldable pub frame_number : List ℕ → HeaderRead → AuxRead → ℕ
frame_number f h a = frame_refusal h.refusal (secured h) a.refusal (length f - h.length)

unfoldable pub frame_by : List ℕ → HeaderRead → AuxRead → FrameRead
frame_by f h a = unless (frame_number f h a) (frame_given h a) (frame_refused (frame_number f h a))

unfoldable pub read_frame : List ℕ → FrameRead
read_frame f = frame_by f (read_header f) (aux_behind f (read_header f))

-- a payload is a command if the frame type is 1, else opaque
abbrev pub payload_of : NwkFrameType → NwkPayload
payload_of NwkFrameType.Data = NwkPayload.Opaque
payload_of NwkFrameType.Command = NwkPayload.Command
payload_of NwkFrameType.Interpan = NwkPayload.Opaque
