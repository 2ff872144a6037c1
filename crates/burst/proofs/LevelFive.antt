-- A value of the claim in specs/LevelFive.antt: the burst opens each frame, and so at level 5 as it was.
-- Assumes nothing.
use Rattle.std.specs.Prelude.{None}
use mathlib.Core.Path.{◌≡◌, ap, fun_ext}
use mathlib.Core.List.{List, [], ◌++◌}
use Prim.Native.Nat.{ℕ, ◌*◌}
use lib.ListN.{length, drop}
use Rattle.octets.specs.Strings.{tab}
use Rattle.octets.specs.Refusals.{unless}
use Rattle.types.specs.declared.level.Level.{Level}
use Rattle.header.specs.Reading.{blank_header}
use Rattle.ccm.specs.Operations.{ciph_of}
use Rattle.ccm.proofs.Levels as ccm-levels
use Rattle.frame.specs.Opening as opening
use Rattle.frame.specs.NetworkLevel.{open_formerly}
use Rattle.frame.proofs.NetworkLevel as frame-levels
use Rattle.records.specs.OpenedRecord.{opened_record}
use Rattle.burst.specs.Burst.{part_size, frame_at, part_at, alone, burst_refusal, joined, out_after, answers_after, Run, burst_nothing, open_burst}
use Rattle.burst.specs.LevelFive.{open_burst_formerly, LevelFive}

-- opening at level 5, as a function of the frame and the part
opens_as_before : (key : List ℕ) → opening.open_with Level.EncMic32 (ciph_of key) ≡ open_formerly key
opens_as_before key = fun_ext (λ f. fun_ext (λ o. (frame-levels.level_five key blank_header None [] f o).opening))

burst_as_before : (key fs ns o : List ℕ) (list : List (List ℕ)) → open_burst Level.EncMic32 key fs ns o list ≡ open_burst_formerly key fs ns o list
unfolding open_burst out_after answers_after alone open_burst_formerly
burst_as_before key fs ns o list =
    let n : ℕ = burst_refusal ns (length fs) (length o) (length list) in
    ap (λ (r : List ℕ → List ℕ → opening.Run). unless {A = Run} n
    (record {
      answer = record { refusal = 0; frames = length ns };
      out = joined (λ (k : ℕ). (r (frame_at fs ns k) (part_at o k)).out) (length ns) ++ drop (part_size * length ns) o;
      answers = tab (λ (k : ℕ). opened_record (r (frame_at fs ns k) (part_at o k)).answer) (length ns) ++ drop (length ns) list;
    }) (burst_nothing n o list)) (opens_as_before key)

pub level_five : LevelFive
level_five key nonce a x mic h aux f ns o list =
    record {
      ccm = ccm-levels.level_five key nonce a x mic o;
      frame = frame-levels.level_five key h aux x f o;
      burst = burst_as_before key f ns o list;
    }
