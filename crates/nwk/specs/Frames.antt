-- Reading, writing, sealing and opening frames by their records: the refusals in the order of documents 01 and 02. 18 is also
-- for a record lent with too little room, before 19. Each function's answer, and what it leaves in each lent buffer, is a
-- definition over the inputs and what the buffers held before.
-- Assumes nothing.
use Rattle.std.specs.Prelude.{ℕ, ◌+◌, ◌-◌, ◌*◌, ◌^◌, Bool, not, ◌&&◌, ◌||◌, List, [], ◌∷◌, length, eqb, ltb}
use Rattle.octets.specs.Refusals.{unless, on, by, first_of}
use Rattle.types.specs.declared.level.Level.{Level}
use Rattle.types.specs.Levels.{is_other}
use Rattle.ccm.specs.Operations.{ciph_of}
use Rattle.header.specs.Control.{type_code, type_of}
use Rattle.frame.specs.declared.NwkPayload.{NwkPayload}
use Rattle.frame.specs.Opening.{Mark}
use Rattle.frame.specs.Reading.{read_frame, payload_of}
use Rattle.frame.specs.Writing.{frame_write_refusal, frame_bytes}
use Rattle.frame.specs.Security as security
use Rattle.frame.specs.Sealing.{seal_refusal, sealed_bytes}
use Rattle.frame.specs.Opening.{is_sealed, behind, verified, open_refusals, open_frame}
use Rattle.records.specs.HeaderRecord.{header_record_size, header_record, header_of, bad_header_record}
use Rattle.records.specs.AuxiliaryRecord.{aux_record_size, bad_aux_record}
use Rattle.records.specs.OpenedRecord.{option_record, option_of, opened_record_size, opened_record, mark_of}
use Rattle.nwk.specs.Answer.{answer, opened_answer, answer_by, given}

-- ---- reading: 1 to 12, then 18 for the header record or the auxiliary record

unfoldable pub read_frame_refusal : List ℕ → ℕ → ℕ → ℕ
read_frame_refusal f header_room aux_room =
    first_of (by (read_frame f).refusal ∷ on 18 (ltb header_room header_record_size) ∷ on 18 (ltb aux_room aux_record_size) ∷ [])

-- of the frame f, with h and x in the two records before
abbrev pub read_frame_answer : List ℕ → List ℕ → List ℕ → ℕ
read_frame_answer f h x = answer_by (read_frame_refusal f (length h) (length x)) (read_frame f).length

abbrev pub read_frame_header : List ℕ → List ℕ → List ℕ → List ℕ
read_frame_header f h x = given (read_frame_refusal f (length h) (length x)) (header_record (read_frame f).header) h

abbrev pub read_frame_auxiliary : List ℕ → List ℕ → List ℕ → List ℕ
read_frame_auxiliary f h x = given (read_frame_refusal f (length h) (length x)) (option_record (read_frame f).aux) x

-- ---- writing without a key: 13 for the record, then the frame's own 13, 28, 17 and 18, for n bytes of payload

unfoldable pub write_frame_refusal : List ℕ → ℕ → ℕ → ℕ
write_frame_refusal r n room = first_of (on 13 (bad_header_record r) ∷ by (frame_write_refusal (header_of r) n room) ∷ [])

-- of the header record r and the payload p, with o in the output before
abbrev pub write_frame_answer : List ℕ → List ℕ → List ℕ → ℕ
write_frame_answer r p o = answer_by (write_frame_refusal r (length p) (length o)) (length (frame_bytes (header_of r) p))

abbrev pub write_frame_output : List ℕ → List ℕ → List ℕ → List ℕ
write_frame_output r p o = given (write_frame_refusal r (length p) (length o)) (frame_bytes (header_of r) p) o

-- ---- sealing at the level l: 29, 13 for a record, then the frame's own 13, 28, 14, 28, 15, 21, 17 and 18, for n bytes of payload

unfoldable pub seal_records_refusal : Level → List ℕ → List ℕ → ℕ → ℕ → ℕ
seal_records_refusal l r x n room =
    first_of (on 29 (is_other l)
    ∷ on 13 (bad_header_record r)
    ∷ on 13 (bad_aux_record x)
    ∷ by (seal_refusal l (header_of r) (option_of x) n room)
    ∷ [])

-- the sealed frame
unfoldable pub sealed_records : Level → List ℕ → List ℕ → List ℕ → List ℕ → List ℕ
sealed_records l key r x p = sealed_bytes l key (header_of r) (security.or_blank (option_of x)) p

-- of the two records r and x and the payload p, with o in the output before
abbrev pub seal_answer : Level → List ℕ → List ℕ → List ℕ → List ℕ → List ℕ → ℕ
seal_answer l key r x p o = answer_by (seal_records_refusal l r x (length p) (length o)) (length (sealed_records l key r x p))

abbrev pub seal_output : Level → List ℕ → List ℕ → List ℕ → List ℕ → List ℕ → List ℕ
seal_output l key r x p o = given (seal_records_refusal l r x (length p) (length o)) (sealed_records l key r x p) o

-- ---- opening at the level l

-- those that need no key: 29; reading's number; then, of a sealed frame, 15, 16 and 18
unfoldable pub open_number : Level → List ℕ → ℕ → ℕ
open_number l f room =
    first_of (open_refusals l (read_frame f).refusal (read_frame f).header (read_frame f).aux (length (behind f (read_frame f))) room)

-- a sealed frame whose MIC is not the one computed
unfoldable pub wrong_mic : Level → List ℕ → List ℕ → Bool
wrong_mic l key f = is_sealed (read_frame f).header && not (verified l (ciph_of key) f (read_frame f)).valid

unfoldable pub open_record_refusal : Level → List ℕ → List ℕ → ℕ → ℕ → ℕ
open_record_refusal l key f record_room room =
    first_of (by (open_number l f room) ∷ on 18 (ltb record_room opened_record_size) ∷ on 19 (wrong_mic l key f) ∷ [])

-- of the frame f, with x in the record and o in the output before: what opening alone gives
abbrev pub open_answer : Level → List ℕ → List ℕ → List ℕ → List ℕ → ℕ
open_answer l key f x o =
    unless (open_record_refusal l key f (length x) (length o)) (opened_answer (open_frame l key f o).answer.mark (open_frame l key f o).answer.length)
    (answer (open_record_refusal l key f (length x) (length o)) 0)

abbrev pub open_record : Level → List ℕ → List ℕ → List ℕ → List ℕ → List ℕ
open_record l key f x o = given (open_record_refusal l key f (length x) (length o)) (opened_record (open_frame l key f o).answer) x

abbrev pub open_output : Level → List ℕ → List ℕ → List ℕ → List ℕ → List ℕ
open_output l key f x o = unless (open_record_refusal l key f (length x) (length o)) (open_frame l key f o).out o

-- ---- what a payload is, by the frame type's code: 13 for a code that no type has, 2 or above 3

-- the number of each kind
abbrev pub payload_code : NwkPayload → ℕ
payload_code NwkPayload.Opaque = 0
payload_code NwkPayload.Command = 1

unfoldable pub payload_kind_refusal : ℕ → ℕ
payload_kind_refusal code = first_of (on 13 (not (eqb (type_code (type_of code)) code)) ∷ [])

-- the kind in place of the length
abbrev pub payload_kind_answer : ℕ → ℕ
payload_kind_answer code = answer_by (payload_kind_refusal code) (payload_code (payload_of (type_of code)))

-- ---- where a payload is, by the mark's code and the length that opening gave, and the frame's length

-- 1 for a frame or a payload of more than 118 bytes, 13 for a code that no mark has
unfoldable pub payload_place_refusal : ℕ → ℕ → ℕ → ℕ
payload_place_refusal mark n frame = first_of (on 1 (ltb 118 n || ltb 118 frame) ∷ on 13 (ltb 2 mark) ∷ [])

-- the last bytes of the frame if clear, the first of the output if sealed, else none: the length; bit 40, set if it is in the
-- frame; and its first byte's place in bits 48 to 55
abbrev pub place_of : Mark → ℕ → ℕ → ℕ
place_of Mark.Unmarked n frame = 0
place_of Mark.Clear n frame = n + 2 ^ 40 + (frame - n) * 2 ^ 48
place_of Mark.Sealed n frame = n

unfoldable pub payload_place : ℕ → ℕ → ℕ → ℕ
payload_place mark n frame =
    unless (payload_place_refusal mark n frame) (place_of (mark_of mark) n frame) (answer (payload_place_refusal mark n frame) 0)
