-- The claims of specs/Claims.antt: a value of each.
-- Assumes nothing.
use mathlib.Core.Path.{◌≡◌, refl, sym, ap, ◌∙◌}
use mathlib.Core.Bool.{Bool, true, false, not, true≢false}
use mathlib.Core.Logic.{◌⊎◌, inl, inr, ⊎_elim}
use mathlib.Core.List.{List, [], ◌∷◌}
use Prim.Native.Nat.{ℕ, ◌*◌, ◌≤◌, ◌<◌}
use native.Mathlib.Decide.{dec_lt}
use lib.Dec.{eqb}
use native.Mathlib.Omega.{arith}
use lib.ListN.{length, get_or, drop, get_or-append}
use lib.Seq.{drop_at}
use borrow.Author.Tests.{lt-ltb, le-ltb, ne_eqb, eqb-false}
use Rattle.octets.specs.Strings.{tab}
use Rattle.octets.specs.Refusals.{on, first_of}
use Rattle.octets.proofs.Strings.{length_tab, get_or_tab}
use Rattle.octets.proofs.Conditions.{accepted, refused, none_refuse}
use Rattle.ccm.specs.Operations.{ciph_of}
use Rattle.types.specs.declared.level.Level.{Level}
use Rattle.frame.specs.Opening as opening
use Rattle.frame.specs.Opening.{FrameOpened, open_frame, payload_in}
use Rattle.frame.proofs.Marks.{clear_accepted, payload_of_clear}
use Rattle.frame.proofs.Opened.{open_behind, open_refused_lem, open_roomy, open_other, open_empty, open_long}
use Rattle.records.specs.OpenedRecord.{opened_record, opened_of}
use Rattle.records.proofs.Zeros.{refused_record}
use Rattle.records.proofs.OpenedBack.{answer_back}
use Rattle.burst.specs.Burst.{total, frame_at, part_at, alone, burst_refusal, joined, out_after, answers_after, Run, burst_given, burst_nothing, open_burst}
use Rattle.burst.specs.Claims as claims
use Rattle.burst.proofs.Sums.{length_frame, frames_whole, frame_below}
use Rattle.burst.proofs.Parts.{length_part, length_joined, part_joined}
use Rattle.burst.proofs.Accepted.{ready, alone_size}

-- ---- a burst that is accepted

module _ (level : Level) (key fs ns o : List ℕ) (list : List (List ℕ)) (ok : claims.Accepted fs ns o list) where
  run : open_burst level key fs ns o list ≡ burst_given level (ciph_of key) fs ns o list
  unfolding open_burst
  run = accepted _ _ _ ok

  sized : (k : ℕ) → k < length ns → length (alone level (ciph_of key) fs ns o k).out ≡ 108
  sized = alone_size level (ciph_of key) fs ns o (ready _ _ _ _ ok).fits

  as_alone : (k : ℕ) → k < length ns → claims.AsAlone level key fs ns o list k
  unfolding out_after answers_after alone
  as_alone k h =
      record {
        answer = ap (λ (r : Run). get_or r.answers k []) run
            ∙ get_or-append (tab (λ (i : ℕ). opened_record (alone level (ciph_of key) fs ns o i).answer) (length ns)) _ [] k (rw (length_tab _ (length ns)) h)
            ∙ get_or_tab _ (length ns) k [] h;
        part = ap (λ (r : Run). part_at r.out k) run ∙ part_joined _ (length ns) k _ sized h;
      }

  rest_stays : claims.RestStays level key fs ns o list
  unfolding out_after answers_after
  rest_stays =
      record {
        answers = ap (λ (r : Run). drop (length ns) r.answers) run ∙ drop_at (tab _ (length ns)) _ (length ns) (length_tab _ (length ns));
        out = ap (λ (r : Run). drop (108 * length ns) r.out) run ∙ drop_at (joined _ (length ns)) _ (108 * length ns) (length_joined _ (length ns) sized);
      }

pub frames_end_to_end : claims.FramesEndToEnd
frames_end_to_end fs ns o list ok =
    let sum = (ready _ _ _ _ ok).sum in
    record { whole = frames_whole fs ns sum; each = length_frame fs ns sum }

pub each_as_alone : claims.EachAsAlone
each_as_alone = as_alone

pub each_said : claims.EachSaid
each_said level key fs ns o list u ok k h =
    ap opened_of (as_alone level key fs ns o list ok k h).answer ∙ answer_back level (ciph_of key) (frame_at fs ns k) (part_at o k) (frame_below fs ns k u)

pub parts_suffice : claims.PartsSuffice
parts_suffice level key fs ns o o' list u ok room k h =
    let size = length_part o k (omega (arith, (ready _ _ _ _ ok).fits)) in
    open_roomy level (ciph_of key) (frame_at fs ns k) (part_at o k) o' (frame_below fs ns k u) (omega arith) room

pub payloads_as_alone : claims.PayloadsAsAlone
payloads_as_alone level key fs ns o list u ok k h =
    λ i. payload_in (each_said level key fs ns o list u ok k h i) (frame_at fs ns k) ((as_alone level key fs ns o list ok k h).part i)

pub clear_writes_nothing : claims.ClearWritesNothing
clear_writes_nothing level key fs ns o list u ok k h good clear =
    let c = clear_accepted level key (frame_at fs ns k) (part_at o k) good clear in
    let marked = ap (λ (r : opening.Run). r.answer.mark) c.run in
    record {
      marked = ap (λ (r : FrameOpened). r.mark) (each_said level key fs ns o list u ok k h) ∙ marked;
      part = (as_alone level key fs ns o list ok k h).part ∙ c.untouched;
      payload = payloads_as_alone level key fs ns o list u ok k h ∙ payload_of_clear level key (frame_at fs ns k) (part_at o k) marked;
    }

pub each_its_own_number : claims.EachItsOwnNumber
each_its_own_number level key fs ns o list ok k h =
    let size = length_frame fs ns (ready _ _ _ _ ok).sum k h in
    record {
      other = open_other level (ciph_of key) (frame_at fs ns k) (part_at o k);
      empty = λ g z. ap (λ (f : List ℕ). (open_frame level key f (part_at o k)).answer.refusal) (no_bytes _ (size ∙ z)) ∙ open_empty level (ciph_of key) (part_at o k) g;
      long = λ g l. open_long level (ciph_of key) (frame_at fs ns k) (part_at o k) g (omega arith);
      zeros = λ n e z. (as_alone level key fs ns o list ok k h).answer ∙ ap opened_record (open_refused_lem level (ciph_of key) (frame_at fs ns k) (part_at o k) n e z) ∙ refused_record n;
    }
  where
    no_bytes : (f : List ℕ) → length f ≡ 0 → f ≡ []
    no_bytes [] e = refl
    no_bytes (b ∷ f) e = absurd (omega arith)

pub the_rest_stays : claims.TheRestStays
the_rest_stays = rest_stays

pub behind_stays : claims.BehindStays
behind_stays level key fs ns o list ok k h =
    ap (drop (open_frame level key (frame_at fs ns k) (part_at o k)).answer.length) (as_alone level key fs ns o list ok k h).part ∙ open_behind level (ciph_of key) (frame_at fs ns k) (part_at o k)

-- ---- 20

-- one of four conditions under one number
one_holds : (a b c d : Bool) → (a ≡ true) ⊎ ((b ≡ true) ⊎ ((c ≡ true) ⊎ (d ≡ true)))
    → first_of (on 20 a ∷ on 20 b ∷ on 20 c ∷ on 20 d ∷ []) ≡ 20
unfolding first_of
one_holds true b c d h = refl
one_holds false true c d h = refl
one_holds false false true d h = refl
one_holds false false false true h = refl
one_holds false false false false h =
    let no : false ≡ true → ⊥ = λ e. true≢false (sym e) in
    absurd (⊎_elim no (⊎_elim no (⊎_elim no no)) h)

-- tests whose failing is refuted
eqb_holds : (m n : ℕ) (b : Bool) → eqb m n ≡ b → ((m ≡ n → ⊥) → ⊥) → not b ≡ false
eqb_holds m n true e h = refl
eqb_holds m n false e h = absurd (h (eqb-false m n e))

not_below : (m n : ℕ) → (m < n → ⊥) → n ≤ m
not_below m n h = elim (dec_lt m n) [ yes l ↦ absurd (h l) | no l ↦ omega arith ]

pub twenty_exactly : claims.TwentyExactly
unfolding burst_refusal
twenty_exactly ns bytes room places =
    record {
      refused = λ met. one_holds _ _ _ _
          (⊎_elim (λ h. inl (lt-ltb 16 (length ns) h))
          (λ m. inr (⊎_elim (λ h. inl (ap not (ne_eqb (total ns) bytes h)))
          (λ m. inr (⊎_elim (λ h. inl (lt-ltb room (108 * length ns) h)) (λ h. inr (lt-ltb places (length ns) h)) m)) m)) met);
      accepted = λ none. none_refuse _ (
        le-ltb 16 (length ns) (not_below _ _ (λ h. none (inl h))),
        (
          eqb_holds (total ns) bytes _ refl (λ h. none (inr (inl h))),
          (
            le-ltb room (108 * length ns) (not_below _ _ (λ h. none (inr (inr (inl h))))),
            (le-ltb places (length ns) (not_below _ _ (λ h. none (inr (inr (inr h))))), tt),
          ),
        ),
      );
    }

pub twenty_changes_nothing : claims.TwentyChangesNothing
unfolding open_burst
twenty_changes_nothing level key fs ns o list met =
    let e = (twenty_exactly ns (length fs) (length o) (length list)).refused met in
    refused _ _ _ (λ z. omega (arith, e)) ∙ ap (λ (n : ℕ). burst_nothing n o list) e

-- ---- the number of frames

pub number_answered : claims.NumberAnswered
number_answered level key fs ns o list ok = ap (λ (r : Run). r.answer) (run level key fs ns o list ok)

pub no_frames : claims.NoFrames
unfolding total joined tab out_after answers_after
no_frames level key o list =
    run level key [] [] o list
    ((twenty_exactly [] 0 (length o) (length list)).accepted
    (⊎_elim (λ h. omega arith) (⊎_elim (λ h. h refl) (⊎_elim (λ h. omega arith) (λ h. omega arith)))))
