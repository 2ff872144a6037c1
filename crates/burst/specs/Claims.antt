-- Document 02, 1, and what 3 and 9 say of bursts, sentence by sentence: each is one claim over all levels, keys, bytes, lengths, outputs and
-- lists for the answers. But for the claims on 20, a claim is about a burst that is accepted (`Accepted`), and k is the number of
-- any of its frames.
-- Assumes nothing.
use Rattle.std.specs.Prelude.{ℕ, ◌*◌, ◌≤◌, ◌<◌, ◌≡◌, true, false, ◌⊎◌, List, [], ◌∷◌, length, get_or, drop}
use Rattle.octets.specs.Strings.{tab, Below}
use Rattle.types.specs.declared.level.Level.{Level}
use Rattle.types.specs.Levels.{is_other}
use Rattle.frame.specs.Reading.{read_frame}
use Rattle.frame.specs.Opening.{Mark, open_frame, payload_in}
use Rattle.frame.specs.Marks.{handed_back, IsClear}
use Rattle.records.specs.OpenedRecord.{opened_record, opened_of}
use Rattle.burst.specs.Burst.{BurstOpened, most_frames, part_size, total, frame_at, part_at, burst_refusal, joined, burst_nothing, open_burst}

-- a burst that is accepted: the bytes fs with the lengths ns, the output o and the list for the answers
abbrev pub Accepted : List ℕ → List ℕ → List ℕ → List (List ℕ) → Type 0
Accepted fs ns o list = burst_refusal ns (length fs) (length o) (length list) ≡ 0

-- ---- "up to 16 frames at once, end to end, with a list of lengths"

-- the frames are the bytes lent, one behind the other, and each has its length
pub record EndToEnd (fs ns : List ℕ) : Type 0 where
  pub whole : joined (frame_at fs ns) (length ns) ≡ fs
  pub each : (k : ℕ) → k < length ns → length (frame_at fs ns k) ≡ get_or ns k 0

abbrev pub FramesEndToEnd : Type 0
FramesEndToEnd = (fs ns o : List ℕ) (list : List (List ℕ)) → Accepted fs ns o list → EndToEnd fs ns

-- ---- "each answer equals opening that frame alone into that part", so that "a refused frame does not stop the next one"

-- answer k and part k are those of opening frame k alone into part k
pub record AsAlone (level : Level) (key fs ns o : List ℕ) (list : List (List ℕ)) (k : ℕ) : Type 0 where
  pub answer : get_or (open_burst level key fs ns o list).answers k [] ≡ opened_record (open_frame level key (frame_at fs ns k) (part_at o k)).answer
  pub part : part_at (open_burst level key fs ns o list).out k ≡ (open_frame level key (frame_at fs ns k) (part_at o k)).out

abbrev pub EachAsAlone : Type 0
EachAsAlone = (level : Level) (key fs ns o : List ℕ) (list : List (List ℕ)) → Accepted fs ns o list → (k : ℕ) → k < length ns → AsAlone level key fs ns o list k

-- each record decodes to the whole of that answer, where the bytes lent are below 256
abbrev pub EachSaid : Type 0
EachSaid =
    (level : Level) (key fs ns o : List ℕ) (list : List (List ℕ)) → Below 256 fs → Accepted fs ns o list → (k : ℕ) → k < length ns
    → opened_of (get_or (open_burst level key fs ns o list).answers k []) ≡ (open_frame level key (frame_at fs ns k) (part_at o k)).answer

-- a part has room for every payload: with a longer output the answer is the same, where the bytes lent are below 256
abbrev pub PartsSuffice : Type 0
PartsSuffice =
    (level : Level) (key fs ns o o' : List ℕ) (list : List (List ℕ)) → Below 256 fs → Accepted fs ns o list → part_size ≤ length o' → (k : ℕ) → k < length ns
    → (open_frame level key (frame_at fs ns k) (part_at o k)).answer ≡ (open_frame level key (frame_at fs ns k) o').answer

-- the payload by each record, from its frame and its part, is that of opening the frame alone, where the bytes lent are below 256
abbrev pub PayloadsAsAlone : Type 0
PayloadsAsAlone =
    (level : Level) (key fs ns o : List ℕ) (list : List (List ℕ)) → Below 256 fs → Accepted fs ns o list → (k : ℕ) → k < length ns
    → payload_in (opened_of (get_or (open_burst level key fs ns o list).answers k [])) (frame_at fs ns k) (part_at (open_burst level key fs ns o list).out k)
    ≡ handed_back level key (frame_at fs ns k) (part_at o k)

-- at another level the answer of each frame is 29 (document 02, 9); else that of a frame of no bytes is 2, and that of one over 118 is 1;
-- beside a refused frame's number its record is zeros
pub record OwnNumber (level : Level) (key fs ns o : List ℕ) (list : List (List ℕ)) (k : ℕ) : Type 0 where
  pub other : is_other level ≡ true → (open_frame level key (frame_at fs ns k) (part_at o k)).answer.refusal ≡ 29
  pub empty : is_other level ≡ false → get_or ns k 0 ≡ 0 → (open_frame level key (frame_at fs ns k) (part_at o k)).answer.refusal ≡ 2
  pub long : is_other level ≡ false → 118 < get_or ns k 0 → (open_frame level key (frame_at fs ns k) (part_at o k)).answer.refusal ≡ 1
  pub zeros : (n : ℕ) → (open_frame level key (frame_at fs ns k) (part_at o k)).answer.refusal ≡ n → (n ≡ 0 → ⊥)
      → get_or (open_burst level key fs ns o list).answers k [] ≡ n ∷ tab (λ (i : ℕ). 0) 181

abbrev pub EachItsOwnNumber : Type 0
EachItsOwnNumber = (level : Level) (key fs ns o : List ℕ) (list : List (List ℕ)) → Accepted fs ns o list → (k : ℕ) → k < length ns → OwnNumber level key fs ns o list k

-- ---- "in a burst a clear frame writes nothing to its part, and its payload is the frame's last bytes" (document 02, 3)

-- where the level is one of the three, frame k reads, its security bit is off, and the bytes lent are below 256

pub record ClearInBurst (level : Level) (key fs ns o : List ℕ) (list : List (List ℕ)) (k : ℕ) : Type 0 where
  pub marked : (opened_of (get_or (open_burst level key fs ns o list).answers k [])).mark ≡ Mark.Clear
  pub part : part_at (open_burst level key fs ns o list).out k ≡ part_at o k
  pub payload : payload_in (opened_of (get_or (open_burst level key fs ns o list).answers k [])) (frame_at fs ns k) (part_at (open_burst level key fs ns o list).out k)
      ≡ drop (read_frame (frame_at fs ns k)).length (frame_at fs ns k)

abbrev pub ClearWritesNothing : Type 0
ClearWritesNothing =
    (level : Level) (key fs ns o : List ℕ) (list : List (List ℕ)) → Below 256 fs → Accepted fs ns o list → (k : ℕ) → k < length ns
    → is_other level ≡ false → IsClear (frame_at fs ns k) → ClearInBurst level key fs ns o list k

-- ---- what stays

-- "places of the answers' list past the number of frames stay", and so do the bytes behind the last part
pub record RestStays (level : Level) (key fs ns o : List ℕ) (list : List (List ℕ)) : Type 0 where
  pub answers : drop (length ns) (open_burst level key fs ns o list).answers ≡ drop (length ns) list
  pub out : drop (part_size * length ns) (open_burst level key fs ns o list).out ≡ drop (part_size * length ns) o

abbrev pub TheRestStays : Type 0
TheRestStays = (level : Level) (key fs ns o : List ℕ) (list : List (List ℕ)) → Accepted fs ns o list → RestStays level key fs ns o list

-- the bytes of a part behind its plaintext stay: all of them where the frame is refused, since the length is then 0, and
-- where it is clear (ClearWritesNothing)
abbrev pub BehindStays : Type 0
BehindStays =
    (level : Level) (key fs ns o : List ℕ) (list : List (List ℕ)) → Accepted fs ns o list → (k : ℕ) → k < length ns
    → drop (open_frame level key (frame_at fs ns k) (part_at o k)).answer.length (part_at (open_burst level key fs ns o list).out k)
    ≡ drop (open_frame level key (frame_at fs ns k) (part_at o k)).answer.length (part_at o k)

-- ---- "20, first of all"

-- "if there are more than 16 lengths, they do not add up to the bytes lent, the output is shorter than 108 times their
-- number, or the list for the answers is shorter than their number"
abbrev pub Refusable : List ℕ → ℕ → ℕ → ℕ → Type 0
Refusable ns bytes room places =
    (most_frames < length ns) ⊎ ((total ns ≡ bytes → ⊥) ⊎ ((room < part_size * length ns) ⊎ (places < length ns)))

-- 20 exactly there, and every other burst is accepted
pub record Exactly20 (ns : List ℕ) (bytes room places : ℕ) : Type 0 where
  pub refused : Refusable ns bytes room places → burst_refusal ns bytes room places ≡ 20
  pub accepted : (Refusable ns bytes room places → ⊥) → burst_refusal ns bytes room places ≡ 0

abbrev pub TwentyExactly : Type 0
TwentyExactly = (ns : List ℕ) (bytes room places : ℕ) → Exactly20 ns bytes room places

-- it changes nothing
abbrev pub TwentyChangesNothing : Type 0
TwentyChangesNothing =
    (level : Level) (key fs ns o : List ℕ) (list : List (List ℕ)) → Refusable ns (length fs) (length o) (length list)
    → open_burst level key fs ns o list ≡ burst_nothing 20 o list

-- ---- "which answers the number of frames"

abbrev pub NumberAnswered : Type 0
NumberAnswered =
    (level : Level) (key fs ns o : List ℕ) (list : List (List ℕ)) → Accepted fs ns o list
    → ◌≡◌ {A = BurstOpened} (open_burst level key fs ns o list).answer (record { refusal = 0; frames = length ns })

-- "no frames at all is accepted", whatever the level, and nothing changes
abbrev pub NoFrames : Type 0
NoFrames = (level : Level) (key o : List ℕ) (list : List (List ℕ)) → open_burst level key [] [] o list ≡ burst_nothing 0 o list
