-- The refusals of the C functions over frames in their order, at each return of the code, and what opening gives past them.
-- Assumes nothing.
use mathlib.Core.Path.{◌≡◌, sym, ap, ◌∙◌}
use mathlib.Core.List.{List}
use Prim.Native.Nat.{ℕ, ◌≤◌, ◌<◌}
use native.Mathlib.Decide.{ℕ_discrete}
use borrow.Author.Tests.{lt-ltb, le-ltb}
use lib.Dec.{ltb}
use lib.ListN.{length, drop}
use Rattle.octets.specs.Refusals.{first_of, number_of}
use Rattle.octets.proofs.Conditions.{refused, stop, skip, stop_by, skip_by, empty}
use Rattle.types.specs.declared.level.Level.{Level}
use Rattle.ccm.specs.Operations.{ciph_of}
use Rattle.std.specs.Prelude.{Ok, Err}
use Rattle.octets.specs.declared.refusals.Refusal.{Refusal}
use Rattle.frame.specs.declared.OpenedFrame.{OpenedFrame}
use Rattle.frame.proofs.Levels.{refusal_above}
use Rattle.frame.specs.Reading.{read_frame}
use Rattle.frame.specs.Opening.{FrameOpened, Run, told_opened, open_refused, behind, open_refusals, open_refusal, open_by, open_with, open_frame}
use Rattle.frame.proofs.Accepted as frames
use Rattle.nwk.specs.Frames.{read_frame_refusal, open_number, wrong_mic, open_record_refusal}

-- ---- reading

module _ (f : List ℕ) (h a : ℕ) where
  pub read_header_short : (read_frame f).refusal ≡ 0 → h < 147 → 18 ≡ read_frame_refusal f h a
  unfolding read_frame_refusal
  read_header_short e s = sym (skip_by (read_frame f).refusal _ e ∙ stop 18 (ltb h 147) _ (lt-ltb h 147 s))

  pub read_aux_short : (read_frame f).refusal ≡ 0 → 147 ≤ h → a < 19 → 18 ≡ read_frame_refusal f h a
  unfolding read_frame_refusal
  read_aux_short e l s =
      sym (skip_by (read_frame f).refusal _ e ∙ skip 18 (ltb h 147) _ (le-ltb h 147 l) ∙ stop 18 (ltb a 19) _ (lt-ltb a 19 s))

  pub read_none : (read_frame f).refusal ≡ 0 → 147 ≤ h → 19 ≤ a → read_frame_refusal f h a ≡ 0
  unfolding read_frame_refusal
  read_none e l m =
      skip_by (read_frame f).refusal _ e ∙ skip 18 (ltb h 147) _ (le-ltb h 147 l) ∙ skip 18 (ltb a 19) _ (le-ltb a 19 m) ∙ empty

-- ---- opening

module _ (l : Level) (key f : List ℕ) (x room : ℕ) where
  -- the number of those that need no key
  abbrev pub keyless : ℕ
  keyless = first_of (open_refusals l (read_frame f).refusal (read_frame f).header (read_frame f).aux (length (drop (read_frame f).length f)) room)

  pub open_stopped : (r : Refusal) → number_of r ≡ keyless → number_of r ≡ open_record_refusal l key f x room
  unfolding open_record_refusal open_number behind
  open_stopped r e = e ∙ sym (stop_by keyless _ (λ z. refusal_above r (e ∙ z)))

  -- else 18 where the record has too little room
  pub open_no_room : 0 ≡ keyless → x < 182 → 18 ≡ open_record_refusal l key f x room
  unfolding open_record_refusal open_number behind
  open_no_room e s = sym (skip_by keyless _ (sym e) ∙ stop 18 (ltb x 182) _ (lt-ltb x 182 s))

-- with room for the record the number is opening's own
pub open_number_lem : (l : Level) (key f o : List ℕ) (x : ℕ) → 182 ≤ x → open_record_refusal l key f x (length o) ≡ open_refusal l (ciph_of key) f (read_frame f) (length o)
unfolding open_record_refusal open_refusal open_number wrong_mic
open_number_lem l key f o x h =
    elim (ℕ_discrete (open_number l f (length o)) 0) [
      | yes z ↦ skip_by (open_number l f (length o)) _ z ∙ skip 18 (ltb x 182) _ (le-ltb x 182 h) ∙ sym (skip_by (open_number l f (length o)) _ z)
      | no k ↦ stop_by (open_number l f (length o)) _ k ∙ sym (stop_by (open_number l f (length o)) _ k)
    ]

-- the number beside what opening answers
pub opened_number : (l : Level) (key f o : List ℕ) (r : FrameOpened) → r ≡ (open_frame l key f o).answer → r.refusal ≡ open_refusal l (ciph_of key) f (read_frame f) (length o)
unfolding open_with
opened_number l key f o r e = (λ i. (e i).refusal) ∙ frames.open_number_lem l (ciph_of key) f (read_frame f) o

-- a refusal leaves the output
pub open_leaves : (l : Level) (key f o : List ℕ) → (open_refusal l (ciph_of key) f (read_frame f) (length o) ≡ 0 → ⊥) → (open_frame l key f o).out ≡ o
unfolding open_with open_by
open_leaves l key f o h = ap (λ (r : Run). r.out) (refused (open_refusal l (ciph_of key) f (read_frame f) (length o)) _ _ h)

-- with room for the record: refused by opening itself, or opened
module _ (l : Level) (key f o : List ℕ) (x : ℕ) (room : 182 ≤ x) where
  pub open_refused_by : (r : Refusal) → told_opened (Err r) ≡ (open_frame l key f o).answer → number_of r ≡ open_record_refusal l key f x (length o)
  unfolding open_refused
  open_refused_by r e = opened_number l key f o (told_opened (Err r)) e ∙ sym (open_number_lem l key f o x room)

  pub open_kept : (r : Refusal) → told_opened (Err r) ≡ (open_frame l key f o).answer → (open_frame l key f o).out ≡ o
  unfolding open_refused
  open_kept r e =
      open_leaves l key f o (λ z. refusal_above r (opened_number l key f o (told_opened (Err r)) e ∙ z))

  pub open_passed : (g : OpenedFrame) → told_opened (Ok g) ≡ (open_frame l key f o).answer → open_record_refusal l key f x (length o) ≡ 0
  open_passed g e = open_number_lem l key f o x room ∙ sym (opened_number l key f o (told_opened (Ok g)) e)
