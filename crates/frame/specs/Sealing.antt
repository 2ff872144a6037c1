-- Sealing a frame at the network's level l (Zigbee Specification 4.3.1.1; `NwkFrame::serialize` with a key).
-- Assumes nothing.
use Rattle.std.specs.Prelude.{ℕ, ◌+◌, Bool, not, List, [], ◌∷◌, ◌++◌, length, eqb, Option, Result, Ok, Err}
use Rattle.octets.specs.Strings.{over}
use Rattle.octets.specs.declared.refusals.Refusal.{Refusal}
use Rattle.octets.specs.Refusals.{unless, Condition, on, by, first_of, number_of}
use Rattle.types.specs.declared.level.Level.{Level}
use Rattle.types.specs.Counters.{last_counter}
use Rattle.types.specs.Levels.{is_other, tag_length}
use Rattle.header.specs.declared.{auxiliary.NwkAuxHeader.NwkAuxHeader, nwk.NwkHeader.NwkHeader}
use Rattle.header.specs.Auxiliary.{aux_bytes}
use Rattle.header.specs.Writing.{header_bytes, field_refusal}
use Rattle.header.specs.Same.{aux_agrees}
use Rattle.ccm.specs.Generation.{Generated}
use Rattle.ccm.specs.Operations.{sealed_by}
use Rattle.frame.specs.Writing.{length_refusals}
use Rattle.frame.specs.Security.{sent_level, at_level, is_absent, or_blank, no_ieee, nonce, authenticated}

-- what CCM makes of the payload p
unfoldable pub generated : Level → List ℕ → NwkHeader → NwkAuxHeader → List ℕ → Generated
generated l key h a p = sealed_by (tag_length l) key (nonce l h a) (authenticated l h a) p

-- the frame: both headers, the level sent being 0, then ciphertext and MIC
unfoldable pub sealed_bytes : Level → List ℕ → NwkHeader → NwkAuxHeader → List ℕ → List ℕ
sealed_bytes l key h a p =
    (header_bytes h ++ aux_bytes (at_level sent_level a)) ++ ((generated l key h a p).ciphertext ++ (generated l key h a p).tag)

-- ---- the refusals, by the payload's length and not its bytes

-- the frame's length, for n bytes of payload
unfoldable pub sealed_length : Level → NwkHeader → NwkAuxHeader → ℕ → ℕ
sealed_length l h a n = length (header_bytes h) + length (aux_bytes a) + tag_length l + n

-- those of the two headers: the fields' 13 and 28, to which bit 9 belongs here; 14; 28 where the extended nonce bit disagrees; 15
unfoldable pub headers_refusal : NwkHeader → Option NwkAuxHeader → ℕ
headers_refusal h a =
    first_of (by (field_refusal h)
    ∷ on 28 (not h.frame_control.security)
    ∷ on 14 (is_absent a)
    ∷ on 28 (not (aux_agrees (or_blank a)))
    ∷ on 15 (no_ieee h (or_blank a))
    ∷ [])

-- the counter to be sealed
abbrev pub counter_of : Option NwkAuxHeader → ℕ
counter_of a = (or_blank a).frame_counter

-- document 02's 29 for another level; the headers' numbers; document 02's 21 if the counter is the last one; then 17 and 18
unfoldable pub seal_refusals : Bool → Level → NwkHeader → Option NwkAuxHeader → ℕ → ℕ → List Condition
seal_refusals is_last l h a n room =
    on 29 (is_other l)
    ∷ by (headers_refusal h a)
    ∷ on 21 is_last
    ∷ length_refusals n (sealed_length l h (or_blank a) n) room

unfoldable pub seal_refusal : Level → NwkHeader → Option NwkAuxHeader → ℕ → ℕ → ℕ
seal_refusal l h a n room = first_of (seal_refusals (eqb (counter_of a) last_counter) l h a n room)

-- ---- the run

-- what sealing a frame answers: a refusal's number with length 0, or 0 and the frame's length
pub record FrameSealed : Type 0 where
  pub refusal : ℕ
  pub length : ℕ

-- what sealing leaves: its answer, and the whole of the lent output
pub record Run : Type 0 where
  pub answer : FrameSealed
  pub out : List ℕ

-- the frame at the front of the output, and the rest as it was
abbrev pub seal_given : List ℕ → List ℕ → Run
seal_given bs o = record { answer = record { refusal = 0; length = length bs }; out = over o 0 bs }

-- the number alone
unfoldable pub seal_refused : ℕ → FrameSealed
seal_refused n = record { refusal = n; length = 0 }

-- the answer that the code gives
abbrev pub told_sealed : Result ℕ Refusal → FrameSealed
told_sealed (Ok n) = record { refusal = 0; length = n }
told_sealed (Err r) = seal_refused (number_of r)

-- refused by a number, nothing changed
abbrev pub seal_nothing : ℕ → List ℕ → Run
seal_nothing n o = record { answer = seal_refused n; out = o }

-- by the refusal's number, bs being the frame
unfoldable pub seal_by : ℕ → List ℕ → List ℕ → Run
seal_by n bs o = unless n (seal_given bs o) (seal_nothing n o)

unfoldable pub seal_frame : Level → List ℕ → NwkHeader → Option NwkAuxHeader → List ℕ → List ℕ → Run
seal_frame l key h a p o =
    seal_by (seal_refusal l h a (length p) (length o)) (sealed_bytes l key h (or_blank a) p) o
