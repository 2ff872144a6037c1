-- Document 02, 9: "level 5 .. answers as before", in everything, as one claim: at level 5 CCM, the tag splitter, sealing, opening and the
-- burst are the operations as they were without a level. Those of CCM are in crates/ccm/specs/Levels.antt, sealing and opening in
-- crates/frame/specs/NetworkLevel.antt.
-- Assumes nothing.
use Rattle.std.specs.Prelude.{◌≡◌, List, ◌++◌, ℕ, ◌*◌, length, drop, Option}
use Rattle.octets.specs.Strings.{tab}
use Rattle.octets.specs.Refusals.{unless}
use Rattle.types.specs.declared.level.Level.{Level}
use Rattle.header.specs.declared.auxiliary.NwkAuxHeader.{NwkAuxHeader}
use Rattle.header.specs.declared.nwk.NwkHeader.{NwkHeader}
use Rattle.ccm.specs.Levels as alone
use Rattle.frame.specs.NetworkLevel as frames
use Rattle.frame.specs.NetworkLevel.{open_formerly}
use Rattle.records.specs.OpenedRecord.{opened_record}
use Rattle.burst.specs.Burst.{part_size, frame_at, part_at, burst_refusal, joined, Run, burst_nothing, open_burst}

-- the burst as it was: each frame opened formerly, alone into its part
unfoldable pub open_burst_formerly : List ℕ → List ℕ → List ℕ → List ℕ → List (List ℕ) → Run
open_burst_formerly key fs ns o list =
    unless (burst_refusal ns (length fs) (length o) (length list))
    (record {
      answer = record { refusal = 0; frames = length ns };
      out = joined (λ (k : ℕ). (open_formerly key (frame_at fs ns k) (part_at o k)).out) (length ns) ++ drop (part_size * length ns) o;
      answers = tab (λ (k : ℕ). opened_record (open_formerly key (frame_at fs ns k) (part_at o k)).answer) (length ns) ++ drop (length ns) list;
    })
    (burst_nothing (burst_refusal ns (length fs) (length o) (length list)) o list)

-- the operations of level 5 on all their inputs
pub record AsBefore (key nonce a x mic : List ℕ) (h : NwkHeader) (aux : Option NwkAuxHeader) (f ns o : List ℕ) (list : List (List ℕ)) : Type 0 where
  pub ccm : alone.Former key nonce a x mic o
  pub frame : frames.Former key h aux x f o
  pub burst : open_burst Level.EncMic32 key f ns o list ≡ open_burst_formerly key f ns o list

abbrev pub LevelFive : Type 0
LevelFive =
    (key nonce a x mic : List ℕ) (h : NwkHeader) (aux : Option NwkAuxHeader) (f ns o : List ℕ) (list : List (List ℕ)) → AsBefore key nonce a x mic h aux f ns o list
