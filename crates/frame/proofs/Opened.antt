-- What opening leaves, for the crates above: the output keeps its length and what is behind the payload, a refusal is its number
-- alone, and the header's number goes before every other.
-- Assumes nothing.
use Rattle.std.specs.Prelude.{Option}
use mathlib.Core.Path.{◌≡◌, refl, sym, ap, ◌∙◌}
use mathlib.Core.Bool.{Bool, true, false, cond, not, ◌&&◌}
use mathlib.Core.List.{List, [], ◌∷◌}
use Prim.Native.Nat.{ℕ, zero, suc, ◌+◌, ◌-◌, ◌≤◌, ◌<◌}
use native.Mathlib.Nat.{zero-add}
use native.Mathlib.Omega.{arith}
use lib.Dec.{ltb}
use lib.ListN.{length, drop, length-drop}
use lib.Seq.{drop-append_seam}
use borrow.Author.Tests.{lt-ltb, le-ltb}
use Rattle.octets.specs.Strings.{Below}
use Rattle.octets.specs.Refusals.{unless, Condition, on, by, first_of}
use Rattle.octets.proofs.Strings.{length_over, over_front}
use Rattle.octets.proofs.Conditions.{accepted, refused, none, stop, skip, stop_by}
use Rattle.types.specs.declared.level.Level.{Level}
use Rattle.types.specs.Levels.{is_other, tag_length}
use Rattle.types.proofs.Levels.{tag_least}
use Rattle.header.specs.declared.{auxiliary.NwkAuxHeader.NwkAuxHeader, nwk.NwkHeader.NwkHeader}
use Rattle.header.specs.Reading.{header_refusal, read_header}
use Rattle.header.proofs.ReadFacts.{header_number, header_facts}
use Rattle.ccm.specs.Verification.{Verified}
use Rattle.frame.specs.Reading.{FrameRead, secured, aux_behind, frame_refusal, frame_given, frame_number, frame_by, read_frame}
use Rattle.frame.specs.Opening.{is_sealed, behind, verified, open_refusals, open_refusal, open_refused, Run, sealed_given, clear_given, open_given, open_nothing, open_by, open_with}
use Rattle.frame.proofs.Accepted.{frame_refusal_lem, readable, open_number_lem, run_either}
use Rattle.frame.proofs.SecondHalf.{payload_length}

-- a number given before, if it is not 0
given_first : (m n : ℕ) (cs : List Condition) → m ≡ n → (n ≡ 0 → ⊥) → first_of (by m ∷ cs) ≡ n
given_first m n cs e h = stop_by m cs (λ z. h (sym e ∙ z)) ∙ e

module _ (l : Level) (ciph : List ℕ → List ℕ) (f o : List ℕ) where
  -- the number that refuses, or 0
  abbrev number : ℕ
  number = open_refusal l ciph f (read_frame f) (length o)

  pub number_is : (open_with l ciph f o).answer.refusal ≡ number
  unfolding open_with
  number_is = open_number_lem l ciph f (read_frame f) o

  pub open_length : length (open_with l ciph f o).out ≡ length o
  unfolding open_with
  open_length =
      run_either l ciph f (read_frame f) o (λ (r : Run). length r.out ≡ length o)
      (λ w. length_over o 0 _ (rw (zero-add, payload_length l ciph f (read_frame f)) w.fits)) (λ level e off. refl) refl

  pub open_behind : drop (open_with l ciph f o).answer.length (open_with l ciph f o).out ≡ drop (open_with l ciph f o).answer.length o
  unfolding open_with open_refused
  open_behind =
      run_either l ciph f (read_frame f) o (λ (r : Run). drop r.answer.length r.out ≡ drop r.answer.length o)
      (λ w. rw over_front (drop-append_seam (verified l ciph f (read_frame f)).payload _)) (λ level e off. refl) refl

  pub open_refused_lem : (n : ℕ) → (open_with l ciph f o).answer.refusal ≡ n → (n ≡ 0 → ⊥) → (open_with l ciph f o).answer ≡ open_refused n
  unfolding open_with open_by
  open_refused_lem n e h =
      ap (λ (r : Run). r.answer) (refused number _ _ (λ z. h (sym e ∙ number_is ∙ z))) ∙ ap open_refused (sym number_is ∙ e)

  -- the header's number, if it has one
  pub open_header : (n : ℕ) → is_other l ≡ false → header_refusal f ≡ n → (n ≡ 0 → ⊥) → (open_with l ciph f o).answer.refusal ≡ n
  unfolding open_refusal open_refusals frame_refusal frame_number read_frame
  open_header n level e h =
      let read : (read_frame f).refusal ≡ n = frame_refusal_lem f (read_header f) _ ∙ given_first _ n _ (header_number f ∙ e) h in
      number_is ∙ given_first _ n _ (skip 29 _ _ level ∙ given_first _ n _ read h) h

  -- 29 at another level
  pub open_other : is_other l ≡ true → (open_with l ciph f o).answer.refusal ≡ 29
  unfolding open_refusal open_refusals
  open_other e = number_is ∙ given_first _ 29 _ (stop 29 _ _ e) (λ z. omega arith)

  -- so where nothing is refused it is none
  pub open_level : (open_with l ciph f o).answer.refusal ≡ 0 → is_other l ≡ false
  unfolding open_refusal open_refusals
  open_level e = (none _ (none _ (sym number_is ∙ e)).0).0

-- no bytes at all, and more than a frame has
pub open_empty : (l : Level) (ciph : List ℕ → List ℕ) (o : List ℕ) → is_other l ≡ false → (open_with l ciph [] o).answer.refusal ≡ 2
unfolding header_refusal first_of
open_empty l ciph o level = open_header l ciph [] o 2 level refl (λ z. omega arith)

pub open_long : (l : Level) (ciph : List ℕ → List ℕ) (f o : List ℕ) → is_other l ≡ false → 118 < length f → (open_with l ciph f o).answer.refusal ≡ 1
unfolding header_refusal first_of
open_long l ciph f o level h = open_header l ciph f o 1 level (rw (lt-ltb 118 (length f) h) refl) (λ z. omega arith)

-- ---- the room

-- what is behind the headers of a frame that was read, less a tag, has at most 108 bytes
behind_short : (l : Level) (f : List ℕ) → Below 256 f → is_other l ≡ false → (read_frame f).refusal ≡ 0 → length (behind f (read_frame f)) - tag_length l ≤ 108
unfolding read_frame frame_by behind
behind_short l f u level e =
    let h = read_header f in
    let a = aux_behind f h in
    let z = sym (frame_refusal_lem f h a) ∙ e in
    let hf = header_facts f u (readable f h a z).header in
    let read : (read_frame f).length ≡ h.length + cond (secured h) a.length 0 = ap (λ (r : FrameRead). r.length) (accepted (frame_number f h a) (frame_given h a) _ z) in
    omega (arith, tag_least l level, hf.short, hf.least, read, length-drop (read_frame f).length f)

-- behind a condition counts what follows only where it does not hold
pub behind_on : (n : ℕ) (b : Bool) (cs ds : List Condition) → (b ≡ false → first_of cs ≡ first_of ds) → first_of (on n b ∷ cs) ≡ first_of (on n b ∷ ds)
unfolding first_of
behind_on n true cs ds h = refl
behind_on n false cs ds h = h refl

-- the conditions that need no key are the same for every room of 108 bytes or more
same_rest : (l : Level) (m : ℕ) (sealed lone : Bool) (part room room' : ℕ) → (m ≡ 0 → part - tag_length l ≤ 108) → 108 ≤ room → 108 ≤ room'
    → first_of (by m ∷ on 15 lone ∷ on 16 (sealed && ltb part (tag_length l)) ∷ on 18 (sealed && ltb room (part - tag_length l)) ∷ [])
    ≡ first_of (by m ∷ on 15 lone ∷ on 16 (sealed && ltb part (tag_length l)) ∷ on 18 (sealed && ltb room' (part - tag_length l)) ∷ [])
unfolding first_of unless
same_rest l zero sealed lone part room room' s r r' =
    let e = s refl in
    rw (le-ltb room (part - tag_length l) (omega arith), le-ltb room' (part - tag_length l) (omega arith)) refl
same_rest l (suc m) sealed lone part room room' s r r' = refl

same_number : (l : Level) (m : ℕ) (h : NwkHeader) (a : Option NwkAuxHeader) (part room room' : ℕ)
    → (is_other l ≡ false → m ≡ 0 → part - tag_length l ≤ 108) → 108 ≤ room → 108 ≤ room'
    → first_of (open_refusals l m h a part room) ≡ first_of (open_refusals l m h a part room')
unfolding open_refusals
same_number l m h a part room room' s r r' = behind_on 29 (is_other l) _ _ (λ e. same_rest l m (is_sealed h) _ part room room' (s e) r r')

-- the answer goes by the number and the security bit, and not by what the output holds
same_given : (b : Bool) (f : List ℕ) (r : FrameRead) (v : Verified) (o o' : List ℕ)
    → (cond b (sealed_given r v o) (clear_given f r o)).answer ≡ (cond b (sealed_given r v o') (clear_given f r o')).answer
same_given true f r v o o' = refl
same_given false f r v o o' = refl

same_answer : (n : ℕ) (f : List ℕ) (r : FrameRead) (v : Verified) (o o' : List ℕ)
    → (unless n (open_given f r v o) (open_nothing n o)).answer ≡ (unless n (open_given f r v o') (open_nothing n o')).answer
unfolding unless
same_answer zero f r v o o' = same_given (is_sealed r.header) f r v o o'
same_answer (suc n) f r v o o' = refl

-- 108 bytes have room for every payload: the answer is that of every longer output
pub open_roomy : (l : Level) (ciph : List ℕ → List ℕ) (f o o' : List ℕ) → Below 256 f → 108 ≤ length o → 108 ≤ length o'
    → (open_with l ciph f o).answer ≡ (open_with l ciph f o').answer
unfolding open_with open_by open_refusal
open_roomy l ciph f o o' u r r' =
    let x = read_frame f in
    let v = verified l ciph f x in
    let same = same_number l x.refusal x.header x.aux (length (behind f x)) (length o) (length o') (behind_short l f u) r r' in
    let wrong = is_sealed x.header && not v.valid in
    ap (λ (m : ℕ). (unless (first_of (by m ∷ on 19 wrong ∷ [])) (open_given f x v o) (open_nothing (first_of (by m ∷ on 19 wrong ∷ [])) o)).answer) same
    ∙ same_answer _ f x v o o'
