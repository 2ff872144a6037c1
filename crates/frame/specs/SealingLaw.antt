-- The sealing law (document 01, demand 3 and e), as two statements.
--
-- First half. Whatever sealing accepts, at any level, opening exactly the bytes written, at that level and under the same key, into any
-- output at least as long as the payload, is accepted and marked sealed, and gives the same two headers, only the level in them now 0,
-- and the same payload bytes, no more and no fewer.
--
-- Second half. Whatever frame opening accepts and marks sealed, if its security control byte arrived with level and bit 7 zero
-- and its counter is not the last one, sealing afresh the two headers and payload bytes it returned, at the level and under the key of
-- opening into 118 bytes, is accepted and writes exactly that frame's bytes, no more and no fewer.
--
-- `FirstHalf` and `SecondHalf` say this below; proofs/SealingLaw.antt has a value of each. The premises `InRange` and
-- `Below 256` only say what every value of a type has, that each number is within its type's range; the functions of
-- `header::ranges` and of src/ranges.rt promise them of every value.
-- Assumes nothing.
use Rattle.std.specs.Prelude.{◌≡◌, ℕ, ◌≤◌, ◌/◌, ◌%◌, List, length, get_or, take, Option, Some, None}
use Rattle.octets.specs.Strings.{Below}
use Rattle.types.specs.declared.level.Level.{Level}
use Rattle.types.specs.Counters.{last_counter}
use Rattle.header.specs.declared.{auxiliary.NwkAuxHeader.NwkAuxHeader, nwk.NwkHeader.NwkHeader}
use Rattle.header.specs.Reading.{read_header}
use Rattle.header.specs.Same.{SameHeader, HeaderFits, AuxFits}
use Rattle.frame.specs.Security.{sent_level, at_level}
use Rattle.frame.specs.Sealing as sealing
use Rattle.frame.specs.Sealing.{counter_of, seal_frame}
use Rattle.frame.specs.Opening as opening
use Rattle.frame.specs.Opening.{Mark, open_frame}

-- the bytes written, and the payload that opening a sealed frame gave: the output's first n bytes, n being the length given
abbrev pub bytes_written : sealing.Run → List ℕ
bytes_written r = take r.answer.length r.out

abbrev pub payload_given : opening.Run → List ℕ
payload_given r = take r.answer.length r.out

-- an auxiliary header or none is within its types' ranges
abbrev pub AuxOptionFits : Option NwkAuxHeader → Type 0
AuxOptionFits None = Unit {0}
AuxOptionFits (Some a) = AuxFits a

-- what every pair of headers has
pub record InRange (h : NwkHeader) (a : Option NwkAuxHeader) : Type 0 where
  pub header : HeaderFits h
  pub auxiliary : AuxOptionFits a

-- the same auxiliary header or none, only the level now 0
abbrev pub level_zero : Option NwkAuxHeader → Option NwkAuxHeader
level_zero None = None
level_zero (Some a) = Some (at_level sent_level a)

-- ---- the first half

-- sealing into a frame's buffer, then opening the bytes written
abbrev pub seal_then_open : Level → List ℕ → NwkHeader → Option NwkAuxHeader → List ℕ → List ℕ → List ℕ → opening.Run
seal_then_open l key h a p out out₂ = open_frame l key (bytes_written (seal_frame l key h a p out)) out₂

-- what opening r gives, of a frame sealed from the headers h and a and the payload p
pub record Reopened (h : NwkHeader) (a : Option NwkAuxHeader) (p : List ℕ) (r : opening.Run) : Type 0 where
  pub accepted : r.answer.refusal ≡ 0
  pub marked : r.answer.mark ≡ Mark.Sealed
  pub header : SameHeader h r.answer.header
  pub auxiliary : r.answer.aux ≡ level_zero a
  pub length : r.answer.length ≡ length p
  pub payload : payload_given r ≡ p

abbrev pub FirstHalf : Type 0
FirstHalf =
    (l : Level) (key : List ℕ) (h : NwkHeader) (a : Option NwkAuxHeader) (p out out₂ : List ℕ)
    → InRange h a
    → (seal_frame l key h a p out).answer.refusal ≡ 0
    → length p ≤ length out₂
    → Reopened h a p (seal_then_open l key h a p out out₂)

-- ---- the second half

-- opening a frame, then sealing afresh the headers and the payload given
abbrev pub open_then_seal : Level → List ℕ → List ℕ → List ℕ → List ℕ → sealing.Run
open_then_seal l key f out out₂ =
    seal_frame l key (open_frame l key f out).answer.header (open_frame l key f out).answer.aux (payload_given (open_frame l key f out)) out₂

-- the security control byte, the first behind the header, arrived with level and bit 7 zero
pub record PlainControl (f : List ℕ) : Type 0 where
  pub level : get_or f (read_header f).length 0 % 8 ≡ 0
  pub bit7 : get_or f (read_header f).length 0 / 128 ≡ 0

-- what sealing afresh writes of an opened frame f
pub record Resealed (f : List ℕ) (s : sealing.Run) : Type 0 where
  pub accepted : s.answer.refusal ≡ 0
  pub length : s.answer.length ≡ length f
  pub bytes : bytes_written s ≡ f

abbrev pub SecondHalf : Type 0
SecondHalf =
    (l : Level) (key f out out₂ : List ℕ)
    → Below 256 f
    → (open_frame l key f out).answer.refusal ≡ 0
    → (open_frame l key f out).answer.mark ≡ Mark.Sealed
    → PlainControl f
    → (counter_of (open_frame l key f out).answer.aux ≡ last_counter → ⊥)
    → length out₂ ≡ 118
    → Resealed f (open_then_seal l key f out out₂)
