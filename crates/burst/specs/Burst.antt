-- Opening a burst (document 02, 1): up to 16 frames, end to end with a list of their lengths, at one level and under one key in
-- one call. Each
-- frame has its own part of the output and its own place in the list for the answers, which are opened records.
-- Assumes nothing.
use Rattle.std.specs.Prelude.{ℕ, zero, suc, ◌+◌, ◌*◌, not, List, [], ◌∷◌, ◌++◌, length, get_or, take, drop, eqb, ltb, Result, Ok, Err}
use Rattle.octets.specs.Strings.{tab}
use Rattle.octets.specs.Refusals.{unless, on, first_of, number_of}
use Rattle.types.specs.declared.level.Level.{Level}
use Rattle.ccm.specs.Operations.{ciph_of}
use Rattle.frame.specs.Opening as opening
use Rattle.records.specs.OpenedRecord.{opened_record}
use Rattle.octets.specs.declared.refusals.Refusal.{Refusal}

-- the most frames of a burst
abbrev pub most_frames : ℕ
most_frames = 16

-- the bytes of a frame's part of the output
abbrev pub part_size : ℕ
part_size = 108

-- the sum of the lengths
unfoldable pub total : List ℕ → ℕ
total [] = 0
total (n ∷ ns) = n + total ns

-- frame k of the bytes fs with the lengths ns: the bytes behind the first k lengths
unfoldable pub frame_at : List ℕ → List ℕ → ℕ → List ℕ
frame_at fs ns k = take (get_or ns k 0) (drop (total (take k ns)) fs)

-- part k of the output o: the 108 bytes from 108 × k
unfoldable pub part_at : List ℕ → ℕ → List ℕ
part_at o k = take part_size (drop (part_size * k) o)

-- frame k opened alone into its part, ciph being the cipher under the key
unfoldable pub alone : Level → (List ℕ → List ℕ) → List ℕ → List ℕ → List ℕ → ℕ → opening.Run
alone level ciph fs ns o k = opening.open_with level ciph (frame_at fs ns k) (part_at o k)

-- document 02's number 20, for the bytes lent, the output's room and the places of the list
unfoldable pub burst_refusal : List ℕ → ℕ → ℕ → ℕ → ℕ
burst_refusal ns bytes room places =
    first_of (on 20 (ltb most_frames (length ns))
    ∷ on 20 (not (eqb (total ns) bytes))
    ∷ on 20 (ltb room (part_size * length ns))
    ∷ on 20 (ltb places (length ns))
    ∷ [])

-- f 0, f 1, .., f (n - 1), one behind the other
unfoldable pub joined : (ℕ → List ℕ) → ℕ → List ℕ
joined f zero = []
joined f (suc n) = joined f n ++ f n

-- the output o and the list for the answers after the first n frames: each part as opening its frame alone leaves it, each place
-- the record of its answer, and the rest as it was
unfoldable pub out_after : Level → (List ℕ → List ℕ) → List ℕ → List ℕ → List ℕ → ℕ → List ℕ
out_after level ciph fs ns o n = joined (λ (k : ℕ). (alone level ciph fs ns o k).out) n ++ drop (part_size * n) o

unfoldable pub answers_after : Level → (List ℕ → List ℕ) → List ℕ → List ℕ → List ℕ → List (List ℕ) → ℕ → List (List ℕ)
answers_after level ciph fs ns o list n = tab (λ (k : ℕ). opened_record (alone level ciph fs ns o k).answer) n ++ drop n list

-- what opening a burst answers: a refusal's number with no frames, or 0 and the number of frames
pub record BurstOpened : Type 0 where
  pub refusal : ℕ
  pub frames : ℕ

-- the same, of the code's answer
abbrev pub told_burst : Result ℕ Refusal → BurstOpened
told_burst (Ok n) = record { refusal = 0; frames = n }
told_burst (Err r) = record { refusal = number_of r; frames = 0 }

-- what opening a burst leaves: its answer, and the whole of the output and of the list
pub record Run : Type 0 where
  pub answer : BurstOpened
  pub out : List ℕ
  pub answers : List (List ℕ)

-- the number of frames, and all of them opened
abbrev pub burst_given : Level → (List ℕ → List ℕ) → List ℕ → List ℕ → List ℕ → List (List ℕ) → Run
burst_given level ciph fs ns o list =
    record {
      answer = record { refusal = 0; frames = length ns };
      out = out_after level ciph fs ns o (length ns);
      answers = answers_after level ciph fs ns o list (length ns);
    }

-- refused by a number, nothing changed
abbrev pub burst_nothing : ℕ → List ℕ → List (List ℕ) → Run
burst_nothing n o list = record { answer = record { refusal = n; frames = 0 }; out = o; answers = list }

unfoldable pub open_burst : Level → List ℕ → List ℕ → List ℕ → List ℕ → List (List ℕ) → Run
open_burst level key fs ns o list =
    unless (burst_refusal ns (length fs) (length o) (length list)) (burst_given level (ciph_of key) fs ns o list)
    (burst_nothing (burst_refusal ns (length fs) (length o) (length list)) o list)
