-- Writing a frame without a key: header and payload only, whatever auxiliary header there may be.
-- Assumes nothing.
use Rattle.std.specs.Prelude.{ℕ, ◌+◌, ◌||◌, List, [], ◌∷◌, ◌++◌, length, ltb}
use Rattle.octets.specs.Refusals.{Condition, on, by, first_of}
use Rattle.octets.specs.Writing.{Run, written}
use Rattle.header.specs.declared.nwk.NwkHeader.{NwkHeader}
use Rattle.header.specs.Writing.{header_bytes, field_refusal}

unfoldable pub frame_bytes : NwkHeader → List ℕ → List ℕ
frame_bytes h p = header_bytes h ++ p

-- document 01's numbers 17, for more than 108 bytes of payload or more than 118 in all, and 18: n bytes of payload in a frame of
-- whole
unfoldable pub length_refusals : ℕ → ℕ → ℕ → List Condition
length_refusals n whole room = on 17 (ltb 108 n || ltb 118 whole) ∷ on 18 (ltb room whole) ∷ []

-- the fields' 13 and 28, then those, for n bytes of payload
unfoldable pub frame_write_refusal : NwkHeader → ℕ → ℕ → ℕ
frame_write_refusal h n room = first_of (by (field_refusal h) ∷ length_refusals n (length (header_bytes h) + n) room)

unfoldable pub write_frame : NwkHeader → List ℕ → List ℕ → Run
write_frame h p o = written (frame_write_refusal h (length p) (length o)) (frame_bytes h p) o
