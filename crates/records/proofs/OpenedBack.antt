-- The answer that its opened record says is the answer itself: the header record and the auxiliary record stand at their
-- places and are read back by their own laws.
-- Assumes nothing.
use Rattle.std.specs.Prelude.{Option, Some, None}
use mathlib.Core.Path.{◌≡◌, refl, ap, ◌∙◌}
use mathlib.Core.Bool.{Bool, true, false}
use mathlib.Core.List.{List, [], ◌∷◌, ◌++◌, append_assoc}
use Prim.Native.Nat.{ℕ, ◌^◌, ◌<◌}
use native.Mathlib.Omega.{arith}
use lib.ListN.{length, take, drop, length-append, length-drop}
use lib.Seq.{take_at, drop_at}
use Rattle.octets.specs.Strings.{Below}
use Rattle.octets.specs.Numbers.{le, le_at}
use Rattle.octets.proofs.Strings.{length_tab, drop_below}
use Rattle.octets.proofs.Numbers.{le_at_le}
use Rattle.types.specs.declared.level.Level.{Level}
use Rattle.header.specs.Control.{control_of}
use Rattle.header.specs.Reading.{relays_of, header_by, blank_header, read_header}
use Rattle.header.specs.Auxiliary.{blank_aux}
use Rattle.header.specs.Same.{IeeeFits, HeaderFits}
use Rattle.header.proofs.ReadFits.{read_fits}
use Rattle.header.proofs.ReadFacts.{header_facts, aux_facts}
use Rattle.header.specs.declared.auxiliary.NwkAuxHeader.{NwkAuxHeader}
use Rattle.frame.specs.Reading.{aux_if, aux_behind, read_frame}
use Rattle.frame.specs.Security.{nonce_ieee}
use Rattle.frame.specs.Opening.{Mark, FrameOpened, is_sealed, behind, verified, open_refused, Run, sealed_given, clear_given, open_with}
use Rattle.frame.specs.Marks.{Openable}
use Rattle.frame.specs.SealingLaw.{AuxOptionFits}
use Rattle.frame.proofs.Accepted.{run_either}
use Rattle.frame.proofs.ClearFrames.{clear_facts}
use Rattle.frame.proofs.SecondHalf.{secured_facts, payload_length}
use Rattle.records.specs.Optional.{ieee_record, ieee_in}
use Rattle.records.specs.HeaderRecord.{header_record, header_of}
use Rattle.records.specs.AuxiliaryRecord.{aux_record, aux_of}
use Rattle.records.specs.OpenedRecord.{option_record, option_of, mark_code, mark_of, opened_front, opened_record, opened_of}
use Rattle.records.proofs.Sizes.{length_header, length_front}
use Rattle.records.proofs.RoundTrip.{ieee_written, header_back, aux_back, present_back}

pub option_back : (o : Option NwkAuxHeader) → AuxOptionFits o → option_of (option_record o) ≡ o
unfolding option_of option_record
option_back None f = ap (λ (b : Bool). aux_if b (aux_of (aux_record false blank_aux))) (present_back false blank_aux)
option_back (Some a) f = λ i. aux_if (present_back true a i) (aux_back true a f i)

-- the mark that its number says
pub mark_back : (m : Mark) → mark_of (mark_code m) ≡ m
unfolding mark_of
mark_back Mark.Unmarked = refl
mark_back Mark.Clear = refl
mark_back Mark.Sealed = refl

-- what every answer has: its header's relays have their 54 places, and each number is within its type's range
pub record AnswerFits (o : FrameOpened) : Type 0 where
  pub short : o.length < 2 ^ 16
  pub ieee : IeeeFits o.nonce_ieee
  pub header : HeaderFits o.header
  pub relays : length o.header.relays ≡ 54
  pub aux : AuxOptionFits o.aux

pub header_part : (front header aux : List ℕ) → length front ≡ 16 → length header ≡ 147 → take 147 (drop 16 (front ++ (header ++ aux))) ≡ header
header_part front header aux f h = ap (take 147) (drop_at front (header ++ aux) 16 f) ∙ take_at header aux 147 h

pub aux_part : (front header aux : List ℕ) → length front ≡ 16 → length header ≡ 147 → drop 163 (front ++ (header ++ aux)) ≡ aux
aux_part front header aux f h =
    rw (← append_assoc front header aux) (drop_at (front ++ header) aux 163 (rw (length-append front header, f, h) refl))

pub opened_back : (o : FrameOpened) → AnswerFits o → opened_of (opened_record o) ≡ o
unfolding opened_of opened_record opened_front ieee_record ieee_in le le_at
opened_back o f =
    let front = opened_front o.refusal (mark_code o.mark) o.length o.nonce_ieee in
    let size = length_front o.refusal (mark_code o.mark) o.length o.nonce_ieee in
    let header = header_record o.header in
    let aux = option_record o.aux in
    let behind-ieee : List ℕ = 0 ∷ 0 ∷ (header ++ aux) in
    λ i. record {
      refusal = o.refusal;
      mark = mark_back o.mark i;
      length = le_at_le 2 o.length (0 ∷ (ieee_record o.nonce_ieee ++ behind-ieee)) f.short i;
      nonce_ieee = ieee_written o.nonce_ieee behind-ieee f.ieee i;
      header = (ap header_of (header_part front header aux size (length_header o.header)) ∙ header_back o.header f.header f.relays) i;
      aux = (ap option_of (aux_part front header aux size (length_header o.header)) ∙ option_back o.aux f.aux) i;
    }

-- ---- what opening answers

-- of two long addresses in range the one that the nonce uses is in range
nonce_fits : (a s : Option ℕ) → IeeeFits a → IeeeFits s → IeeeFits (nonce_ieee a s)
nonce_fits None s f g = g
nonce_fits (Some x) s f g = f

-- it has all that, for every frame of bytes: where the frame is sealed, and where it is clear
sealed_fits : (l : Level) (ciph : List ℕ → List ℕ) (f o : List ℕ) → Below 256 f → Openable l ciph f (read_frame f) (length o)
    → AnswerFits (sealed_given (read_frame f) (verified l ciph f (read_frame f)) o).answer
unfolding behind
sealed_fits l ciph f o u p =
    let facts = secured_facts f p.reads p.on in
    let hf = header_facts f u facts.header in
    let af = aux_facts (drop (read_header f).length f) (drop_below f (read_header f).length 256 u) facts.aux in
    let size = payload_length l ciph f (read_frame f) in
    record {
      short = omega (arith, size, length-drop (read_frame f).length f, hf.short);
      ieee = rw facts.read (nonce_fits (aux_behind f (read_header f)).aux.extended_source (read_header f).header.source_ieee af.fits.ieee hf.fits.source_ieee);
      header = rw facts.read hf.fits;
      relays = rw facts.read hf.places;
      aux = rw facts.read af.fits;
    }

clear_fits : (f o : List ℕ) → Below 256 f → (read_frame f).refusal ≡ 0 → is_sealed (read_frame f).header ≡ false
    → AnswerFits (clear_given f (read_frame f) o).answer
unfolding behind
clear_fits f o u e off =
    let facts = clear_facts f e off in
    let hf = header_facts f u facts.header in
    let size = length-drop (read_frame f).length f in
    record { short = omega (arith, size, hf.short); ieee = tt; header = rw facts.read hf.fits; relays = rw facts.read hf.places; aux = rw facts.read tt }

pub answer_fits : (l : Level) (ciph : List ℕ → List ℕ) (f o : List ℕ) → Below 256 f → AnswerFits (open_with l ciph f o).answer
unfolding open_with open_refused blank_header header_by relays_of
answer_fits l ciph f o u =
    run_either l ciph f (read_frame f) o (λ (r : Run). AnswerFits r.answer) (sealed_fits l ciph f o u) (λ level. clear_fits f o u)
    (record { short = omega arith; ieee = tt; header = read_fits [] (control_of 0) (λ i. omega arith); relays = length_tab _ 54; aux = tt })

-- so its record says it again
pub answer_back : (l : Level) (ciph : List ℕ → List ℕ) (f o : List ℕ) → Below 256 f → opened_of (opened_record (open_with l ciph f o).answer) ≡ (open_with l ciph f o).answer
answer_back l ciph f o u = opened_back (open_with l ciph f o).answer (answer_fits l ciph f o u)
