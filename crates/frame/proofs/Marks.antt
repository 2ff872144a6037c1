-- A value of each claim in specs/Marks.antt.
-- Assumes nothing.
use mathlib.Core.Path.{◌≡◌, refl, sym, ap, ◌∙◌}
use mathlib.Core.Bool.{Bool, true, false, cond, not, ◌&&◌}
use mathlib.Core.List.{List, [], ◌∷◌}
use mathlib.Core.Logic.{⊎_elim}
use Prim.Native.Nat.{ℕ, zero, suc, ◌+◌, ◌-◌}
use native.Mathlib.Omega.{arith}
use lib.ListN.{length, take, drop, length-append, take-append-drop}
use lib.Seq.{drop_at}
use lib.Dec.{ltb}
use Rattle.octets.specs.Refusals.{unless, Condition, on, by, first_of}
use Rattle.octets.specs.Writing.{written_bytes}
use Rattle.octets.proofs.Strings.{take_over}
use Rattle.octets.proofs.Conditions.{accepted, in_parts, gives}
use Rattle.types.specs.declared.level.Level.{Level}
use Rattle.types.specs.Levels.{is_other, tag_length}
use Rattle.header.specs.declared.control.NwkFrameControl.{NwkFrameControl}
use Rattle.header.specs.Reading.{control, header_refusal, read_header, optional_refusals}
use Rattle.header.specs.Auxiliary.{aux_refusal, read_aux}
use Rattle.header.proofs.ReadFacts.{header_number, aux_number, read_control}
use Rattle.ccm.specs.Operations.{ciph_of}
use Rattle.frame.specs.Reading.{FrameRead, secured, aux_behind, frame_refusal, frame_number, frame_given, frame_by, read_frame}
use Rattle.frame.specs.Security.{or_blank, no_ieee}
use Rattle.frame.specs.Opening.{Mark, FrameOpened, is_sealed, last_of, behind, open_refusals, open_refusal, open_refused, Run, clear_given, open_with, open_frame, payload_in}
use Rattle.frame.specs.Writing.{write_frame}
use Rattle.frame.specs.Marks.{IsClear, ClearAccepted, ClearOnly, ccm_of, SealedAccepted, SealedOnly, SecuredNumbers, MarkedIfAccepted, PayloadOfClear, PayloadOfSealed, PayloadOfRefused, PayloadLength, NoFourteen, WrittenOpensClear}
use Rattle.frame.proofs.Accepted.{frame_refusal_lem, readable, counts, run_either, sealed_run, clear_run, marked_sealed, marked_clear, marked, unmarked}
use Rattle.frame.proofs.ClearFrames.{clear_facts, clear_back}
use Rattle.frame.proofs.Opened.{number_is, open_refused_lem, behind_on}

-- ---- clear

run_of_clear : (l : Level) (key f o : List ℕ) → is_other l ≡ false → IsClear f → open_frame l key f o ≡ clear_given f (read_frame f) o
unfolding open_with
run_of_clear l key f o level c = clear_run l (ciph_of key) f (read_frame f) o level c.reads c.off

pub clear_accepted : ClearAccepted
unfolding behind
clear_accepted l key f o level c =
    let run = run_of_clear l key f o level c in
    record {
      run = run;
      auxiliary = ap (λ (r : Run). r.answer.aux) run ∙ ap (λ (r : FrameRead). r.aux) (clear_facts f c.reads c.off).read;
      length = ap (λ (r : Run). r.answer.length) run;
      untouched = ap (λ (r : Run). r.out) run;
    }

pub clear_only : ClearOnly
unfolding open_with
clear_only l key f o m =
    let c = marked_clear l (ciph_of key) f (read_frame f) o m in
    record { reads = c.1; off = c.2 }

-- and the level is one of the three
pub marked_level : (l : Level) (key f o : List ℕ) → (open_frame l key f o).answer.mark ≡ Mark.Clear → is_other l ≡ false
unfolding open_with
marked_level l key f o m = (marked_clear l (ciph_of key) f (read_frame f) o m).0

-- ---- sealed

pub sealed_accepted : SealedAccepted
unfolding open_with
sealed_accepted l key f o w = sealed_run l (ciph_of key) f (read_frame f) o w

pub sealed_only : SealedOnly
unfolding open_with
sealed_only l key f o m = marked_sealed l (ciph_of key) f (read_frame f) o m

-- the security bit of a frame that was read is the one in its bytes
read_secured : (f : List ℕ) → (control f).security ≡ true → (read_frame f).refusal ≡ 0 → is_sealed (read_frame f).header ≡ true
unfolding read_frame frame_by
read_secured f s e =
    let h = read_header f in
    let a = aux_behind f h in
    let z : frame_number f h a ≡ 0 = sym (frame_refusal_lem f h a) ∙ e in
    ap (λ (r : FrameRead). is_sealed r.header) (accepted (frame_number f h a) (frame_given h a) _ z)
    ∙ ap (λ (c : NwkFrameControl). c.security) (read_control f (readable f h a z).header) ∙ s

-- behind a number that was given no condition counts
same_behind : (n : ℕ) (cs ds : List Condition) → (n ≡ 0 → first_of cs ≡ first_of ds) → first_of (by n ∷ cs) ≡ first_of (by n ∷ ds)
unfolding first_of unless
same_behind zero cs ds h = h refl
same_behind (suc n) cs ds h = refl

pub secured_numbers : SecuredNumbers
unfolding open_refusal open_refusals
secured_numbers l key f o s =
    let r = read_frame f in
    let part = length (behind f r) in
    number_is l (ciph_of key) f o ∙ in_parts (open_refusals l r.refusal r.header r.aux part (length o)) _ tt
    ∙ behind_on 29 (is_other l) _ _ (λ level. same_behind r.refusal _ _
    (λ e.
    let on-it : (x : Bool) → (is_sealed r.header && x) ≡ x = λ x. counts (is_sealed r.header) x (read_secured f s e) in
    λ i. first_of (on 15 (on-it (no_ieee r.header (or_blank r.aux)) i) ∷ on 16 (on-it (ltb part (tag_length l)) i)
    ∷ on 18 (on-it (ltb (length o) (part - tag_length l)) i) ∷ on 19 (on-it (not (ccm_of l key f).valid) i) ∷ [])))

-- ---- the marks

pub marked_if_accepted : MarkedIfAccepted
unfolding open_with
marked_if_accepted l key f o =
    record {
      refused = λ h. unmarked l (ciph_of key) f (read_frame f) o (λ z. h (number_is l (ciph_of key) f o ∙ z));
      accepted = λ e. marked l (ciph_of key) f (read_frame f) o (sym (number_is l (ciph_of key) f o) ∙ e);
    }

-- ---- the payload

-- the last bytes, as many as are behind the first n, are what is behind them
last_behind : (f : List ℕ) (n : ℕ) → last_of (length (drop n f)) f ≡ drop n f
last_behind f n =
    let whole = take-append-drop n f in
    let size : length f ≡ length (take n f) + length (drop n f) = ap length (sym whole) ∙ length-append (take n f) (drop n f) in
    ap (drop (length f - length (drop n f))) (sym whole) ∙ drop_at (take n f) (drop n f) (length f - length (drop n f)) (omega (arith, size))

pub payload_of_clear : PayloadOfClear
unfolding behind
payload_of_clear l key f o m =
    ap (λ (r : Run). payload_in r.answer f r.out) (run_of_clear l key f o (marked_level l key f o m) (clear_only l key f o m)) ∙ last_behind f (read_frame f).length

pub payload_of_sealed : PayloadOfSealed
payload_of_sealed l key f o m =
    ap (λ (r : Run). payload_in r.answer f r.out) (sealed_accepted l key f o (sealed_only l key f o m)) ∙ take_over o (ccm_of l key f).payload

pub payload_of_refused : PayloadOfRefused
unfolding open_refused
payload_of_refused l key f o h =
    ap (λ (a : FrameOpened). payload_in a f (open_frame l key f o).out) (open_refused_lem l (ciph_of key) f o (open_frame l key f o).answer.refusal refl h)

pub payload_length_said : PayloadLength
unfolding open_with open_refused behind
payload_length_said l key f o =
    run_either l (ciph_of key) f (read_frame f) o (λ (r : Run). length (payload_in r.answer f r.out) ≡ r.answer.length)
    (λ w. ap length (take_over o (ccm_of l key f).payload)) (λ level e off. ap length (last_behind f (read_frame f).length)) refl

-- ---- 14

header_never : (f : List ℕ) → (read_header f).refusal ≡ 14 → ⊥
unfolding header_refusal optional_refusals
header_never f e = gives 14 _ (λ z. omega arith) (sym (header_number f) ∙ e)

aux_never : (f : List ℕ) → (read_aux f).refusal ≡ 14 → ⊥
unfolding aux_refusal
aux_never f e = gives 14 _ (λ z. omega arith) (sym (aux_number f) ∙ e)

-- the auxiliary header's number, where it counts
aux_if_never : (b : Bool) (n : ℕ) → (n ≡ 14 → ⊥) → cond b n 0 ≡ 14 → ⊥
aux_if_never true n h e = h e
aux_if_never false n h e = omega arith

read_never : (f : List ℕ) → (read_frame f).refusal ≡ 14 → ⊥
unfolding read_frame frame_number frame_refusal
read_never f e =
    let h = read_header f in
    ⊎_elim (header_never f) (⊎_elim (aux_if_never (secured h) (aux_behind f h).refusal (aux_never (drop h.length f))) (λ z. z))
    (gives 14 _ (λ z. omega arith) (sym (frame_refusal_lem f h (aux_behind f h)) ∙ e))

pub no_fourteen : NoFourteen
unfolding open_refusal open_refusals
no_fourteen l key f o e =
    ⊎_elim (λ k. ⊎_elim (read_never f) (λ z. z) (gives 14 _ (λ z. omega arith) k)) (λ z. z) (gives 14 _ (λ z. omega arith) (sym (number_is l (ciph_of key) f o) ∙ e))

-- ---- what was written without a key

pub written_opens_clear : WrittenOpensClear
written_opens_clear l key h p out o level fits accepted off =
    let f = written_bytes (write_frame h p out) in
    let back = clear_back h p out fits accepted off in
    let clear : IsClear f = record { reads = back.accepted; off = ap (λ (c : NwkFrameControl). c.security) (sym back.header.control) ∙ off } in
    let run = run_of_clear l key f o level clear in
    let marked = ap (λ (r : Run). r.answer.mark) run in
    record { marked = marked; header = rw run back.header; payload = payload_of_clear l key f o marked ∙ back.payload }
