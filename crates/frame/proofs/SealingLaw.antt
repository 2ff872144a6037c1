-- The sealing law: a value of each of the two statements in specs/SealingLaw.antt.
-- Assumes nothing.
use Rattle.std.specs.Prelude.{Option, Some, None, Result, Ok, Err}
use Rattle.std.specs.Result.{result_unwrap_or}
use Rattle.octets.specs.declared.refusals.Refusal.{Refusal}
use mathlib.Core.Path.{◌≡◌, refl, sym, ap, ◌∙◌}
use mathlib.Core.Bool.{Bool, true, false, true≢false}
use mathlib.Core.List.{List, ◌∷◌}
use Prim.Native.Nat.{ℕ, ◌≤◌, ◌<◌}
use native.Mathlib.Omega.{arith}
use borrow.Author.Tests.{ne_eqb}
use lib.Dec.{eqb}
use lib.ListN.{length, get_or, take}
use Rattle.octets.specs.Refusals.{Condition, on, by, first_of}
use Rattle.octets.proofs.Strings.{take_over}
use Rattle.octets.proofs.Conditions.{unless_either, stop_by}
use Rattle.types.specs.declared.level.Level.{Level}
use Rattle.types.specs.Levels.{is_other}
use Rattle.types.specs.Counters.{last_counter}
use Rattle.header.specs.declared.{auxiliary.NwkAuxHeader.NwkAuxHeader, nwk.NwkHeader.NwkHeader}
use Rattle.header.specs.Reading.{read_header}
use Rattle.header.proofs.ReadBack.{same_cleared}
use Rattle.ccm.specs.Operations.{ciph_of}
use Rattle.frame.specs.Reading.{FrameRead, read_frame}
use Rattle.frame.specs.Security.{or_blank}
use Rattle.frame.specs.Sealing as sealing
use Rattle.frame.specs.Sealing.{FrameSealed, counter_of, headers_refusal, seal_refusals, seal_refusal, sealed_bytes, seal_given, seal_refused, told_sealed, seal_by, seal_frame}
use Rattle.frame.specs.Opening as opening
use Rattle.frame.specs.Opening.{Mark, FrameOpened, verified, open_refused, sealed_given, open_with, open_frame, payload_in}
use Rattle.frame.specs.Marks.{Openable}
use Rattle.frame.specs.SealingLaw.{InRange, FirstHalf, SecondHalf, seal_then_open, open_then_seal, Reopened, Resealed, bytes_written, payload_given}
use Rattle.frame.proofs.Accepted.{Sealable, good_headers, sealable, seal_accepts, seal_accepted, seal_refused_lem, sealed_number, bytes_sealed_lem, run_either, sealed_run, marked_sealed}
use Rattle.frame.proofs.ClearFrames.{clear_facts}
use Rattle.frame.proofs.FirstHalf.{sealed_length_lem, reopened}
use Rattle.frame.proofs.SecondHalf.{SecuredFacts, secured_facts, whole_read, sealable_again, frame_again}

-- the length that the code's answer has
pub length_told : (r : Result ℕ Refusal) → result_unwrap_or r 0 ≡ (told_sealed r).length
unfolding seal_refused
length_told (Ok n) = refl
length_told (Err r) = refl

pub seal_number : (l : Level) (key : List ℕ) (h : NwkHeader) (a : Option NwkAuxHeader) (p o : List ℕ)
    → (seal_frame l key h a p o).answer.refusal ≡ seal_refusal l h a (length p) (length o)
unfolding seal_frame
seal_number l key h a p o = sealed_number _ _ o

-- what sealing leaves that was not refused
seal_run : (l : Level) (key : List ℕ) (h : NwkHeader) (a : Option NwkAuxHeader) (p o : List ℕ) → seal_refusal l h a (length p) (length o) ≡ 0
    → seal_frame l key h a p o ≡ seal_given (sealed_bytes l key h (or_blank a) p) o
unfolding seal_frame
seal_run l key h a p o e = sym (seal_accepted _ (sealed_bytes l key h (or_blank a) p) o _ refl e)

pub seal_bytes : (l : Level) (key : List ℕ) (h : NwkHeader) (a : Option NwkAuxHeader) (p o : List ℕ) → seal_refusal l h a (length p) (length o) ≡ 0
    → bytes_written (seal_frame l key h a p o) ≡ sealed_bytes l key h (or_blank a) p
unfolding seal_frame
seal_bytes l key h a p o e = bytes_sealed_lem _ _ o e

-- what nothing refuses
pub seal_able : (l : Level) (h : NwkHeader) (a : Option NwkAuxHeader) (n room : ℕ) → seal_refusal l h a n room ≡ 0
    → Sealable (eqb (counter_of a) last_counter) l h a n room
unfolding seal_refusal
seal_able l h a n room e = sealable _ l h a n room e

-- the length that sealing gives is within the output
pub seal_within : (l : Level) (key : List ℕ) (h : NwkHeader) (a : Option NwkAuxHeader) (p o : List ℕ) → (seal_frame l key h a p o).answer.length ≤ length o
unfolding seal_frame seal_by seal_refused
seal_within l key h a p o =
    unless_either (λ (r : sealing.Run). r.answer.length ≤ length o) (seal_refusal l h a (length p) (length o)) _ _
    (λ e. rw (sealed_length_lem l key h (or_blank a) p) (seal_able l h a (length p) (length o) e).fits) (omega arith)

-- opening the bytes sealed of headers and payload that no condition but 21's refuses
pub opened_again : (l : Level) (key : List ℕ) (h : NwkHeader) (a : Option NwkAuxHeader) (p : List ℕ) (is_last : Bool) (room : ℕ) (out : List ℕ)
    → InRange h a → Sealable is_last l h a (length p) room
    → length p ≤ length out → Reopened h a p (open_frame l key (sealed_bytes l key h (or_blank a) p) out)
unfolding open_with
opened_again l key h None p is_last room out fits s within = absurd (true≢false s.headers.present)
opened_again l key h (Some x) p is_last room out fits s within =
    let run = reopened l key h x p s.level fits.header fits.auxiliary s.headers s.whole out within in
    record {
      accepted = ap (λ (r : opening.Run). r.answer.refusal) run;
      marked = ap (λ (r : opening.Run). r.answer.mark) run;
      header = rw run (same_cleared h s.headers.fields.good);
      auxiliary = ap (λ (r : opening.Run). r.answer.aux) run;
      length = ap (λ (r : opening.Run). r.answer.length) run;
      payload = ap payload_given run ∙ take_over out p;
    }

pub first_half : FirstHalf
first_half l key h a p out out₂ fits accepted within =
    let e = sym (seal_number l key h a p out) ∙ accepted in
    rw (seal_bytes l key h a p out e) (opened_again l key h a p _ (length out) out₂ fits (seal_able l h a (length p) (length out) e) within)

pub opened_sealed : (l : Level) (key f o : List ℕ) → (open_frame l key f o).answer.mark ≡ Mark.Sealed → Openable l (ciph_of key) f (read_frame f) (length o)
unfolding open_with
opened_sealed l key f o m = marked_sealed l (ciph_of key) f (read_frame f) o m

-- what opening gives of a sealed frame, by the parts of the frame
pub opened_run : (l : Level) (key f o : List ℕ) → Openable l (ciph_of key) f (read_frame f) (length o) → SecuredFacts f
    → open_frame l key f o ≡ sealed_given (whole_read f) (verified l (ciph_of key) f (whole_read f)) o
unfolding open_with
opened_run l key f o w s =
    sealed_run l (ciph_of key) f (read_frame f) o w
    ∙ ap (λ (r : FrameRead). sealed_given r (verified l (ciph_of key) f r) o) s.read

-- sealing afresh what an accepted opening gave
resealed : (l : Level) (key f out₂ : List ℕ) (h : NwkHeader) (a : Option NwkAuxHeader) (p : List ℕ) → length out₂ ≡ 118
    → Sealable (eqb (counter_of a) last_counter) l h a (length p) 118 → sealed_bytes l key h (or_blank a) p ≡ f
    → Resealed f (seal_frame l key h a p out₂)
unfolding seal_refusal
resealed l key f out₂ h a p size able same =
    let e : seal_refusal l h a (length p) (length out₂) ≡ 0 = rw size (seal_accepts _ l h a (length p) 118 able) in
    record {
      accepted = seal_number l key h a p out₂ ∙ e;
      length = ap (λ (r : sealing.Run). r.answer.length) (seal_run l key h a p out₂ e) ∙ ap length same;
      bytes = seal_bytes l key h a p out₂ e ∙ same;
    }

pub second_half : SecondHalf
second_half l key f out out₂ bytes accepted marked control other size =
    let w = opened_sealed l key f out marked in
    let s = secured_facts f w.reads w.on in
    let run = opened_run l key f out w s in
    let v = verified l (ciph_of key) f (whole_read f) in
    let o : Openable l (ciph_of key) f (whole_read f) (length out) = rw s.read at w in
    let low : get_or f (read_header f).length 0 < 128 = omega (arith, control.bit7) in
    let able = sealable_again l key f bytes s low control.level (length out) _ o (ne_eqb _ last_counter (rw run at other)) in
    let same = frame_again l key f bytes s low control.level o.tagged o.valid in
    rw (run, take_over out v.payload) (resealed l key f out₂ _ _ v.payload size able same)

-- ---- the two in turn, by what each answered and left

pub seal_then_open_run : (l : Level) (key : List ℕ) (h : NwkHeader) (a : Option NwkAuxHeader) (p out out₂ : List ℕ) (w : FrameSealed) (frame : List ℕ) (r : FrameOpened) (o : List ℕ)
    → w ≡ (seal_frame l key h a p out).answer → frame ≡ (seal_frame l key h a p out).out
    → r ≡ (open_frame l key (take w.length frame) out₂).answer → o ≡ (open_frame l key (take w.length frame) out₂).out
    → ◌≡◌ {A = opening.Run} (record { answer = r; out = o }) (seal_then_open l key h a p out out₂)
seal_then_open_run l key h a p out out₂ w frame r o ew ef er eo =
    (λ i. record { answer = er i; out = eo i }) ∙ (λ i. open_frame l key (take (ew i).length (ef i)) out₂)

-- without an auxiliary header sealing is refused, whatever the payload
refused_alike : (other : Bool) (n : ℕ) (cs ds : List Condition) (bs bs' o : List ℕ) → (n ≡ 0 → ⊥)
    → seal_by (first_of (on 29 other ∷ by n ∷ cs)) bs o ≡ seal_by (first_of (on 29 other ∷ by n ∷ ds)) bs' o
unfolding first_of
refused_alike true n cs ds bs bs' o h = sym (seal_refused_lem 29 bs o 29 refl (λ z. omega arith)) ∙ seal_refused_lem 29 bs' o 29 refl (λ z. omega arith)
refused_alike false n cs ds bs bs' o h =
    sym (seal_refused_lem (first_of (by n ∷ cs)) bs o n (sym (stop_by n cs h)) h) ∙ seal_refused_lem (first_of (by n ∷ ds)) bs' o n (sym (stop_by n ds h)) h

absent_refused : (h : NwkHeader) → headers_refusal h None ≡ 0 → ⊥
absent_refused h e = true≢false (good_headers h None e).present

unsealable : (l : Level) (key : List ℕ) (h : NwkHeader) (p p' o : List ℕ) → seal_frame l key h None p o ≡ seal_frame l key h None p' o
unfolding seal_frame seal_refusal seal_refusals
unsealable l key h p p' o = refused_alike (is_other l) (headers_refusal h None) _ _ _ _ o (absent_refused h)

-- so sealing the payload of an answer is sealing the front of the output: of a clear frame both are refused alike
pub sealed_alike : (l : Level) (key f out out₂ : List ℕ)
    → seal_frame l key (open_frame l key f out).answer.header (open_frame l key f out).answer.aux (payload_in (open_frame l key f out).answer f (open_frame l key f out).out) out₂
    ≡ open_then_seal l key f out out₂
unfolding open_with open_refused
sealed_alike l key f out out₂ =
    let again : opening.Run → List ℕ → sealing.Run = λ r p. seal_frame l key r.answer.header r.answer.aux p out₂ in
    run_either l (ciph_of key) f (read_frame f) out (λ (r : opening.Run). again r (payload_in r.answer f r.out) ≡ again r (payload_given r))
    (λ w. refl)
    (λ level e off. rw (ap (λ (r : FrameRead). r.aux) (clear_facts f e off).read) (unsealable l key (read_frame f).header _ _ out₂))
    refl

pub open_then_seal_run : (l : Level) (key f out out₂ : List ℕ) (d : FrameOpened) (o p : List ℕ) (w : FrameSealed) (b : List ℕ)
    → d ≡ (open_frame l key f out).answer → o ≡ (open_frame l key f out).out → p ≡ payload_in d f o
    → w ≡ (seal_frame l key d.header d.aux p out₂).answer → b ≡ (seal_frame l key d.header d.aux p out₂).out
    → ◌≡◌ {A = sealing.Run} (record { answer = w; out = b }) (open_then_seal l key f out out₂)
open_then_seal_run l key f out out₂ d o p w b ed eo ep ew eb =
    (λ i. record { answer = ew i; out = eb i }) ∙ ap (λ (q : List ℕ). seal_frame l key d.header d.aux q out₂) ep
    ∙ (λ i. seal_frame l key (ed i).header (ed i).aux (payload_in (ed i) f (eo i)) out₂) ∙ sealed_alike l key f out out₂
