-- The sealing law over the C functions (document 01, demand 3 and e), as two statements over level and key numbers, records and
-- bytes.
--
-- First half. Whatever nwk_seal accepts, nwk_open of exactly the bytes written, with the same level and key, into any opened record of 182
-- bytes or more and any output at least as long as the payload, is accepted as sealed; the opened record has the same two headers,
-- only the level now 0, and the output begins with the same payload bytes, no more and no fewer.
--
-- Second half. Whatever frame nwk_open accepts as sealed, if its security control byte arrived with level and bit 7 zero and its
-- counter is not the last one, nwk_seal of the header record and the auxiliary record in the opened record and of the payload at
-- the front of the output, with that level and key into 118 bytes, is accepted and writes exactly that frame's bytes, no more and no fewer.
--
-- `FirstHalf` and `SecondHalf` say this below, of what the two functions promise (`seal_answer` and the others of Frames.antt);
-- proofs/SealingLaw.antt has a value of each. The premises `Below 256` only say what every byte has.
-- Assumes nothing.
use Rattle.std.specs.Prelude.{◌≡◌, cond, List, ℕ, ◌≤◌, length, take, drop, eqb}
use Rattle.octets.specs.Strings.{Below}
use Rattle.octets.specs.Numbers.{le_at}
use Rattle.types.specs.Counters.{last_counter}
use Rattle.types.specs.declared.level.Level.{Level}
use Rattle.types.specs.Keys.{key_bytes}
use Rattle.types.specs.Levels.{network_level}
use Rattle.header.specs.Same.{SameHeader}
use Rattle.frame.specs.Opening.{open_frame}
use Rattle.frame.specs.Marks.{handed_back}
use Rattle.frame.specs.SealingLaw.{level_zero, PlainControl}
use Rattle.records.specs.HeaderRecord.{header_of}
use Rattle.records.specs.OpenedRecord.{option_of, opened_record_size, mark_code}
use Rattle.nwk.specs.Answer.{refusal_in, length_in, clear_in, first_in}
use Rattle.nwk.specs.Frames.{seal_answer, seal_output, open_answer, open_record, open_output, payload_place}

-- the header record and the auxiliary record in an opened record
abbrev pub header_in : List ℕ → List ℕ
header_in w = take 147 (drop 16 w)

abbrev pub auxiliary_in : List ℕ → List ℕ
auxiliary_in w = take 19 (drop 163 w)

-- ---- the first half

-- the bytes that nwk_seal wrote of the records r and x and the payload p
abbrev pub bytes_sealed : Level → List ℕ → List ℕ → List ℕ → List ℕ → List ℕ → List ℕ
bytes_sealed l key r x p o = take (length_in (seal_answer l key r x p o)) (seal_output l key r x p o)

-- what nwk_open answers (a) and leaves in the opened record (w) and the output (o) of a frame so sealed
pub record Reopened (r x p : List ℕ) (a : ℕ) (w o : List ℕ) : Type 0 where
  pub accepted : refusal_in a ≡ 0
  pub marked : clear_in a ≡ 0
  pub header : SameHeader (header_of r) (header_of (header_in w))
  pub auxiliary : option_of (auxiliary_in w) ≡ level_zero (option_of x)
  pub length : length_in a ≡ length p
  pub payload : take (length_in a) o ≡ p

abbrev pub reopened : Level → List ℕ → List ℕ → List ℕ → List ℕ → List ℕ → List ℕ → List ℕ → Type 0
reopened l key r x p f w o = Reopened r x p (open_answer l key f w o) (open_record l key f w o) (open_output l key f w o)

abbrev pub FirstHalf : Type 0
FirstHalf =
    (level first second : ℕ) (r x p o w out : List ℕ)
    → Below 256 r → Below 256 x
    → refusal_in (seal_answer (network_level level) (key_bytes first second) r x p o) ≡ 0
    → opened_record_size ≤ length w → length p ≤ length out
    → reopened (network_level level) (key_bytes first second) r x p (bytes_sealed (network_level level) (key_bytes first second) r x p o) w out

-- ---- the second half

-- what nwk_seal answers (a) and leaves in the output (o), of an opened frame f
pub record Resealed (f : List ℕ) (a : ℕ) (o : List ℕ) : Type 0 where
  pub accepted : refusal_in a ≡ 0
  pub length : length_in a ≡ length f
  pub bytes : take (length_in a) o ≡ f

-- nwk_seal of what nwk_open left in the opened record w and the output o, n bytes of payload, into out
abbrev pub resealed : Level → List ℕ → List ℕ → List ℕ → List ℕ → ℕ → List ℕ → Type 0
resealed l key f w o n out =
    Resealed f (seal_answer l key (header_in w) (auxiliary_in w) (take n o) out) (seal_output l key (header_in w) (auxiliary_in w) (take n o) out)

abbrev pub SecondHalf : Type 0
SecondHalf =
    (level first second : ℕ) (f w o out : List ℕ)
    → Below 256 f
    → refusal_in (open_answer (network_level level) (key_bytes first second) f w o) ≡ 0
    → clear_in (open_answer (network_level level) (key_bytes first second) f w o) ≡ 0
    → PlainControl f
    → (le_at 4 (auxiliary_in (open_record (network_level level) (key_bytes first second) f w o)) 5 ≡ last_counter → ⊥)
    → length out ≡ 118
    → resealed (network_level level) (key_bytes first second) f (open_record (network_level level) (key_bytes first second) f w o) (open_output (network_level level) (key_bytes first second) f w o)
    (length_in (open_answer (network_level level) (key_bytes first second) f w o)) out

-- ---- the payload's place

-- the bytes at a place that nwk_payload_place gave, in the frame f or in the output o
abbrev pub bytes_at : ℕ → List ℕ → List ℕ → List ℕ
bytes_at a f o = take (length_in a) (drop (first_in a) (cond (eqb (clear_in a) 1) f o))

-- of every frame that is opened it is the place of the payload handed back, given by the code of the mark and the length
abbrev pub PayloadPlaced : Type 0
PayloadPlaced =
    (l : Level) (key f o : List ℕ) → Below 256 f → (open_frame l key f o).answer.refusal ≡ 0
    → bytes_at (payload_place (mark_code (open_frame l key f o).answer.mark) (open_frame l key f o).answer.length (length f)) f (open_frame l key f o).out
    ≡ handed_back l key f o
