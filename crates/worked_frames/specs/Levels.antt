-- The figures of document 02, 9, as one table: the first flags of CCM with and without authenticated data, and the largest payloads of a
-- frame with one long address, at each level. What a row says of the definitions is `Holds`; that every row holds is one claim, in
-- proofs/Levels.antt.
-- Assumes nothing.
use Rattle.std.specs.Prelude.{◌≡◌, List, [], ◌∷◌, ℕ, ◌+◌}
use Rattle.types.specs.Levels.{network_level, tag_length}
use Rattle.ccm.specs.Formatting.{flags}
use Rattle.frame.specs.Sealing.{seal_refusal}
use Rattle.worked_frames.specs.LastCounter.{probe, counted, probe_ieee}

-- a level's number, and
pub data Case : Type 0 where
  -- the bytes of its tag
  tagged : ℕ → ℕ → Case
  -- its first flags, with authenticated data and without
  flagged : ℕ → ℕ → ℕ → Case
  -- the largest payload that a frame of 118 bytes has room for: one byte more is refused by 17
  largest : ℕ → ℕ → Case
  -- no level: sealing is refused by 29
  other : ℕ → Case

abbrev pub Holds : Case → Type 0
Holds (tagged n t) = tag_length (network_level n) ≡ t
Holds (flagged n some none) = (flags (tag_length (network_level n)) 22 ≡ some) × (flags (tag_length (network_level n)) 0 ≡ none)
Holds (largest n p) =
    (seal_refusal (network_level n) probe (counted probe_ieee 0) p 118 ≡ 0) × (seal_refusal (network_level n) probe (counted probe_ieee 0) (p + 1) 118 ≡ 17)
Holds (other n) = seal_refusal (network_level n) probe (counted probe_ieee 0) 0 118 ≡ 29

unfoldable pub cases : List Case
cases =
    tagged 5 4
    ∷ tagged 6 8
    ∷ tagged 7 16
    ∷ flagged 5 0x49 0x09
    ∷ flagged 6 0x59 0x19
    ∷ flagged 7 0x79 0x39
    ∷ largest 5 92
    ∷ largest 6 88
    ∷ largest 7 80
    ∷ other 0
    ∷ other 1
    ∷ other 2
    ∷ other 3
    ∷ other 4
    ∷ other 8
    ∷ other 261
    ∷ []
