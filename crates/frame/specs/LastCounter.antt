-- Document 02, 4, sentence by sentence: no sealing with the last counter. Each is one claim over all levels, keys, headers, payloads,
-- frames and earlier output contents.
-- Assumes nothing.
use Rattle.std.specs.Prelude.{◌≡◌, false, List, [], ◌∷◌, ℕ, ◌≤◌, length, Option}
use Rattle.octets.specs.Strings.{Below}
use Rattle.octets.specs.Refusals.{on, by, first_of}
use Rattle.types.specs.declared.level.Level.{Level}
use Rattle.types.specs.Levels.{is_other}
use Rattle.types.specs.Counters.{last_counter}
use Rattle.header.specs.declared.{auxiliary.NwkAuxHeader.NwkAuxHeader, nwk.NwkHeader.NwkHeader}
use Rattle.frame.specs.Security.{or_blank}
use Rattle.frame.specs.Sealing as sealing
use Rattle.frame.specs.Sealing.{sealed_bytes, headers_refusal, seal_refusals, counter_of, seal_nothing, seal_by, seal_frame}
use Rattle.frame.specs.Opening.{Mark, open_frame}
use Rattle.frame.specs.SealingLaw.{bytes_written, AuxOptionFits, InRange, Reopened, open_then_seal}

-- sealing by its list without 21
unfoldable pub seal_without21 : Level → List ℕ → NwkHeader → Option NwkAuxHeader → List ℕ → List ℕ → sealing.Run
seal_without21 l key h a p o =
    seal_by (first_of (seal_refusals false l h a (length p) (length o))) (sealed_bytes l key h (or_blank a) p) o

-- ---- "sealable counters are now 0 to 0xFFFFFFFE"

-- whatever is sealed has such a counter, the auxiliary header being within its types' ranges
abbrev pub SealableCounters : Type 0
SealableCounters =
    (l : Level) (key : List ℕ) (h : NwkHeader) (a : Option NwkAuxHeader) (p o : List ℕ)
    → AuxOptionFits a → (seal_frame l key h a p o).answer.refusal ≡ 0 → counter_of a ≤ 0xFFFFFFFE

-- and nothing else changed: under every other counter, and without one, sealing leaves what the list without 21 gives
abbrev pub NothingElseChanged : Type 0
NothingElseChanged =
    (l : Level) (key : List ℕ) (h : NwkHeader) (a : Option NwkAuxHeader) (p o : List ℕ)
    → (counter_of a ≡ last_counter → ⊥) → seal_frame l key h a p o ≡ seal_without21 l key h a p o

-- ---- "21, after 15 and before 17, if the counter to be sealed is FFFFFFFF"

-- under that counter 29 and the headers' own numbers come first, and then it is 21, whatever the payload and the output's length; nothing
-- is written
abbrev pub LastRefused : Type 0
LastRefused =
    (l : Level) (key : List ℕ) (h : NwkHeader) (a : Option NwkAuxHeader) (p o : List ℕ)
    → counter_of a ≡ last_counter
    → seal_frame l key h a p o ≡ seal_nothing (first_of (on 29 (is_other l) ∷ by (headers_refusal h a) ∷ by 21 ∷ [])) o

-- and 21 is answered for no other counter
abbrev pub OnlyTheLast : Type 0
OnlyTheLast =
    (l : Level) (key : List ℕ) (h : NwkHeader) (a : Option NwkAuxHeader) (p o : List ℕ)
    → (seal_frame l key h a p o).answer.refusal ≡ 21 → counter_of a ≡ last_counter

-- ---- "opening still accepts the old one"

-- whatever the list without 21 accepts, under the last counter too, opens again to its headers and its payload, as the
-- sealing law's first half says it
abbrev pub StillOpened : Type 0
StillOpened =
    (l : Level) (key : List ℕ) (h : NwkHeader) (a : Option NwkAuxHeader) (p out out₂ : List ℕ)
    → InRange h a
    → (seal_without21 l key h a p out).answer.refusal ≡ 0
    → length p ≤ length out₂
    → Reopened h a p (open_frame l key (bytes_written (seal_without21 l key h a p out)) out₂)

-- ---- "the sealing law's second half leaves out frames with that counter"

-- sealing afresh what opening gave of such a frame, marked sealed, is refused by 21, and nothing is written
abbrev pub LeftOut : Type 0
LeftOut =
    (l : Level) (key f out out₂ : List ℕ)
    → Below 256 f
    → (open_frame l key f out).answer.mark ≡ Mark.Sealed
    → counter_of (open_frame l key f out).answer.aux ≡ last_counter
    → open_then_seal l key f out out₂ ≡ seal_nothing 21 out₂
