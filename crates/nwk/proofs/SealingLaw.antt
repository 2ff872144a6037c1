-- The sealing law over the C functions, and the payload's place: a value of each statement in specs/SealingLaw.antt. A C function is
-- its operation between the records' inverse laws, so the frame's law carries over.
-- Assumes nothing.
use Rattle.std.specs.Prelude.{Option, Some, None}
use mathlib.Core.Path.{◌≡◌, refl, sym, ap, ◌∙◌}
use mathlib.Core.Bool.{Bool, true, false, true≢false, cond}
use mathlib.Core.List.{List, ◌++◌, append_assoc}
use Prim.Native.Nat.{ℕ, zero, suc, ◌+◌, ◌-◌, ◌*◌, ◌/◌, ◌%◌, ◌^◌, ◌≤◌, ◌<◌}
use native.Mathlib.Decide.{dec_lt}
use native.Mathlib.Omega.{arith}
use borrow.Author.Tests.{ltb-false, le-ltb}
use lib.Dec.{eqb, ltb}
use lib.ListN.{length, get_or, take, drop, length-drop}
use lib.Seq.{take_at, take_all}
use Rattle.octets.specs.Strings.{over, Below}
use Rattle.octets.specs.Numbers.{le_at}
use Rattle.octets.specs.Refusals.{unless}
use Rattle.octets.proofs.Strings.{over_front, take_over, length_tab}
use Rattle.octets.proofs.Numbers.{le_at_lt}
use Rattle.octets.proofs.Conditions.{accepted, none, none_refuse, number_below, skip}
use Rattle.types.specs.Addresses.{no_nwk}
use Rattle.types.specs.Counters.{last_counter}
use Rattle.types.specs.Keys.{key_bytes}
use Rattle.types.specs.Levels.{network_level, is_other}
use Rattle.types.specs.declared.{Nwk.Nwk, level.Level.Level}
use Rattle.header.specs.declared.{auxiliary.NwkAuxHeader.NwkAuxHeader, nwk.NwkHeader.NwkHeader}
use Rattle.header.specs.Reading.{header_refusal, optional_refusals, read_header}
use Rattle.header.specs.Auxiliary.{aux_refusal, read_aux, blank_aux}
use Rattle.header.specs.Writing.{field_refusal}
use Rattle.header.specs.Same.{cleared, HeaderFits, AuxFits}
use Rattle.header.proofs.ReadBack.{same_cleared}
use Rattle.header.proofs.ReadFacts.{header_number, aux_number}
use Rattle.header.proofs.ReadFits.{ieee_fits, multicast_fits, route_fits, relays_fit, aux_read_fits}
use Rattle.ccm.specs.Operations.{ciph_of}
use Rattle.frame.specs.Opening.{Mark, FrameOpened}
use Rattle.frame.specs.Reading.{secured, aux_if, aux_behind, frame_refusal, frame_number, read_frame}
use Rattle.frame.specs.Security.{sent_level, or_blank}
use Rattle.frame.specs.Writing.{length_refusals}
use Rattle.frame.specs.Sealing.{sealed_bytes, headers_refusal, seal_refusals, seal_refusal, counter_of, seal_frame}
use Rattle.frame.specs.Opening as opening
use Rattle.frame.specs.Opening.{behind, open_refusals, open_refused, open_with, open_frame, last_of, payload_by}
use Rattle.frame.specs.SealingLaw as frames
use Rattle.frame.proofs.Accepted.{Sealable, frame_refusal_lem, bytes_sealed_lem, run_either}
use Rattle.frame.proofs.SecondHalf.{payload_length}
use Rattle.frame.proofs.Levels.{level_fits}
use Rattle.frame.proofs.FirstHalf as first-half-proofs
use Rattle.frame.proofs.SealingLaw as frame-law
use Rattle.frame.proofs.Marks.{marked_if_accepted}
use Rattle.frame.proofs.Opened.{open_level, open_long}
use Rattle.records.specs.HeaderRecord.{header_record, relays_from, header_of, bad_header_record}
use Rattle.records.specs.AuxiliaryRecord.{aux_present, aux_of, bad_aux_record}
use Rattle.records.specs.Optional.{ieee_in, multicast_in, route_in}
use Rattle.records.specs.OpenedRecord.{option_record, option_of, mark_code, opened_front, opened_record}
use Rattle.records.proofs.Sizes.{length_front, length_header, length_option}
use Rattle.records.proofs.Accepted.{header_taken, aux_taken}
use Rattle.records.proofs.RoundTrip.{header_back, aux_back}
use Rattle.records.proofs.OpenedBack.{option_back, header_part, aux_part, mark_back, answer_fits}
use Rattle.nwk.specs.Answer.{answer, clear_bit, opened_answer, refusal_in, length_in, clear_in, first_in}
use Rattle.nwk.specs.Frames.{seal_records_refusal, sealed_records, seal_answer, seal_output, open_number, open_record_refusal, open_answer, open_record, open_output, payload_place_refusal, place_of, payload_place}
use Rattle.nwk.specs.SealingLaw.{header_in, auxiliary_in, bytes_sealed, FirstHalf, Resealed, SecondHalf, bytes_at, PayloadPlaced}
use Rattle.nwk.proofs.Calls.{answer_length, opened_length, opened_refusal}
use Rattle.nwk.proofs.Refusals.{single}
use Rattle.nwk.proofs.FrameRefusals.{open_number_lem, opened_number}

-- ---- every number fits the eight bits of an answer

headers_below : (h : NwkHeader) (a : Option NwkAuxHeader) → headers_refusal h a < 256
unfolding headers_refusal field_refusal
headers_below h a =
    number_below 256 _ (omega arith) (number_below 256 _ (omega arith) (refl, (refl, tt)), (refl, (refl, (refl, (refl, tt)))))

seal_below : (l : Level) (r x : List ℕ) (n room : ℕ) → seal_records_refusal l r x n room < 256
unfolding seal_records_refusal seal_refusal seal_refusals length_refusals
seal_below l r x n room =
    number_below 256 _ (omega arith)
    (refl, (refl, (refl, (number_below 256 _ (omega arith) (refl, (headers_below (header_of r) (option_of x), (refl, (refl, (refl, tt))))), tt))))

header_below : (f : List ℕ) → (read_header f).refusal < 256
unfolding header_refusal optional_refusals
header_below f = rw (header_number f) (number_below 256 _ (omega arith) (refl, (refl, (refl, (refl, (refl, (refl, (refl, (refl, tt)))))))))

aux_below : (f : List ℕ) → (read_aux f).refusal < 256
unfolding aux_refusal
aux_below f = rw (aux_number f) (number_below 256 _ (omega arith) (refl, (refl, (refl, (refl, tt)))))

counted_below : (b : Bool) (n : ℕ) → n < 256 → cond b n 0 < 256
counted_below true n h = h
counted_below false n h = omega arith

read_below : (f : List ℕ) → (read_frame f).refusal < 256
unfolding read_frame frame_number frame_refusal
read_below f =
    let h = read_header f in
    rw (frame_refusal_lem f h (aux_behind f h))
    (number_below 256 _ (omega arith) (header_below f, (counted_below (secured h) _ (aux_below (drop h.length f)), (refl, tt))))

open_below : (l : Level) (key f : List ℕ) (x room : ℕ) → open_record_refusal l key f x room < 256
unfolding open_record_refusal open_number open_refusals
open_below l key f x room =
    number_below 256 _ (omega arith) (number_below 256 _ (omega arith) (refl, (read_below f, (refl, (refl, (refl, tt))))), (refl, (refl, tt)))

-- so an answer that says no refusal is of a call that was not refused
refusal_none : (n a : ℕ) → n < 256 → refusal_in (unless n a (answer n 0)) ≡ 0 → n ≡ 0
unfolding unless answer
refusal_none zero a h e = refl
refusal_none (suc n) a h e = omega arith

clear_in_lem : (m : Mark) (n : ℕ) → clear_in (opened_answer m n) ≡ clear_bit m
unfolding opened_answer
clear_in_lem Mark.Unmarked n = omega arith
clear_in_lem Mark.Clear n = omega arith
clear_in_lem Mark.Sealed n = omega arith

-- ---- what a record of bytes says is within its types' ranges

header_of_fits : (r : List ℕ) → Below 256 r → HeaderFits (header_of r)
unfolding header_of relays_from ieee_in multicast_in route_in
header_of_fits r u =
    record {
      destination = le_at_lt 2 r 10 u;
      source = le_at_lt 2 r 12 u;
      radius = u 14;
      sequence = u 15;
      destination_ieee = ieee_fits (eqb (get_or r 16 0) 1) (le_at 8 r 17) (le_at_lt 8 r 17 u);
      source_ieee = ieee_fits (eqb (get_or r 25 0) 1) (le_at 8 r 26) (le_at_lt 8 r 26 u);
      multicast = multicast_fits (eqb (get_or r 34 0) 1) _ (u 35);
      route = route_fits (eqb (get_or r 36 0) 1) _ _ (u 37) (u 38);
      relays = relays_fit _ 54 (λ i. le_at_lt 2 r (39 + 2 * i) u);
    }

if_fits : (b : Bool) (a : NwkAuxHeader) → AuxFits a → frames.AuxOptionFits (aux_if b a)
if_fits true a f = f
if_fits false a f = tt

option_of_fits : (r : List ℕ) → Below 256 r → frames.AuxOptionFits (option_of r)
unfolding option_of aux_of ieee_in
option_of_fits r u =
    if_fits (aux_present r) (aux_of r)
    (record { counter = le_at_lt 4 r 5 u; ieee = ieee_fits (eqb (get_or r 9 0) 1) (le_at 8 r 10) (le_at_lt 8 r 10 u); key_sequence = u 18 })

relay_or_none : (b : Bool) (x : Nwk) → x.0 < 2 ^ 16 → (cond b x no_nwk).0 < 2 ^ 16
relay_or_none true x h = h
relay_or_none false x h = omega arith

cleared_fits : (h : NwkHeader) → HeaderFits h → HeaderFits (cleared h)
unfolding cleared
cleared_fits h f =
    record {
      destination = f.destination;
      source = f.source;
      radius = f.radius;
      sequence = f.sequence;
      destination_ieee = f.destination_ieee;
      source_ieee = f.source_ieee;
      multicast = f.multicast;
      route = f.route;
      relays = relays_fit _ 54 (λ i. relay_or_none (ltb i _) _ (f.relays i));
    }

cleared_places : (h : NwkHeader) → length (cleared h).relays ≡ 54
unfolding cleared
cleared_places h = length_tab _ 54

level_zero_fits : (a : Option NwkAuxHeader) → frames.AuxOptionFits a → frames.AuxOptionFits (frames.level_zero a)
level_zero_fits None f = tt
level_zero_fits (Some x) f = level_fits sent_level sent_level x f

blank_fits : AuxFits blank_aux
unfolding blank_aux
blank_fits = aux_read_fits _ _ (λ i. omega arith)

counter_in : (a : Option NwkAuxHeader) → frames.AuxOptionFits a → le_at 4 (option_record a) 5 ≡ counter_of a
unfolding option_record aux_of
counter_in None f = ap (λ (x : NwkAuxHeader). x.frame_counter) (aux_back false blank_aux blank_fits)
counter_in (Some x) f = ap (λ (y : NwkAuxHeader). y.frame_counter) (aux_back true x f)

-- ---- the two records in an opened record

module _ (w : List ℕ) (a : FrameOpened) where
  front : List ℕ
  front = opened_front a.refusal (mark_code a.mark) a.length a.nonce_ieee

  front_size : length front ≡ 16
  unfolding front
  front_size = length_front a.refusal (mark_code a.mark) a.length a.nonce_ieee

  rest : List ℕ
  rest = drop (length (opened_record a)) w

  by_parts : over w 0 (opened_record a) ≡ front ++ (header_record a.header ++ (option_record a.aux ++ rest))
  unfolding opened_record front rest
  by_parts =
      over_front w (opened_record a) ∙ append_assoc front (header_record a.header ++ option_record a.aux) rest
      ∙ ap (λ (l : List ℕ). front ++ l) (append_assoc (header_record a.header) (option_record a.aux) rest)

  header_in_lem : header_in (over w 0 (opened_record a)) ≡ header_record a.header
  header_in_lem = ap header_in by_parts ∙ header_part front (header_record a.header) (option_record a.aux ++ rest) front_size (length_header a.header)

  auxiliary_in_lem : auxiliary_in (over w 0 (opened_record a)) ≡ option_record a.aux
  auxiliary_in_lem =
      ap auxiliary_in by_parts
      ∙ ap (take 19) (aux_part front (header_record a.header) (option_record a.aux ++ rest) front_size (length_header a.header))
      ∙ take_at (option_record a.aux) rest 19 (length_option a.aux)

-- ---- nwk_open by opening

pub record OpenedOver (l : Level) (key f w o : List ℕ) : Type 0 where
  pub answered : open_answer l key f w o ≡ opened_answer (open_frame l key f o).answer.mark (open_frame l key f o).answer.length
  pub recorded : open_record l key f w o ≡ over w 0 (opened_record (open_frame l key f o).answer)
  pub left : open_output l key f w o ≡ (open_frame l key f o).out

opened_over : (l : Level) (key f w o : List ℕ) → open_record_refusal l key f (length w) (length o) ≡ 0 → OpenedOver l key f w o
opened_over l key f w o e = record { answered = accepted _ _ _ e; recorded = accepted _ _ _ e; left = accepted _ _ _ e }

open_accepts : (l : Level) (key f w o : List ℕ) → 182 ≤ length w → (open_frame l key f o).answer.refusal ≡ 0 → open_record_refusal l key f (length w) (length o) ≡ 0
open_accepts l key f w o room e = open_number_lem l key f o (length w) room ∙ sym (opened_number l key f o _ refl) ∙ e

open_accepted : (l : Level) (key f w o : List ℕ) → open_record_refusal l key f (length w) (length o) ≡ 0 → (182 ≤ length w) × ((open_frame l key f o).answer.refusal ≡ 0)
unfolding open_record_refusal
open_accepted l key f w o e =
    let room : 182 ≤ length w = ltb-false (length w) 182 (none _ e).1.0 in
    (room, opened_number l key f o _ refl ∙ sym (open_number_lem l key f o (length w) room) ∙ e)

-- ---- nwk_seal by sealing

-- records that are not bad: the number is the frame's own
seal_good : (l : Level) (r x : List ℕ) (n room : ℕ) → is_other l ≡ false → bad_header_record r ≡ false → bad_aux_record x ≡ false
    → seal_records_refusal l r x n room ≡ seal_refusal l (header_of r) (option_of x) n room
unfolding seal_records_refusal
seal_good l r x n room level h a = skip 29 _ _ level ∙ skip 13 _ _ h ∙ skip 13 _ _ a ∙ sym (single _)

-- the frame that was sealed fits 118 bytes
sealed_short : (l : Level) (key r x p : List ℕ) (room : ℕ) → seal_refusal l (header_of r) (option_of x) (length p) room ≡ 0 → length (sealed_records l key r x p) ≤ 118
unfolding sealed_records
sealed_short l key r x p room e =
    rw (first-half-proofs.sealed_length_lem l key (header_of r) (or_blank (option_of x)) p)
    (frame-law.seal_able l (header_of r) (option_of x) (length p) room e).whole

-- what nwk_seal answers and leaves of records that it accepts
pub record SealedOver (l : Level) (key r x p o : List ℕ) : Type 0 where
  pub accepted : refusal_in (seal_answer l key r x p o) ≡ 0
  pub length : length_in (seal_answer l key r x p o) ≡ length (sealed_records l key r x p)
  pub left : seal_output l key r x p o ≡ over o 0 (sealed_records l key r x p)
  pub bytes : bytes_sealed l key r x p o ≡ sealed_records l key r x p

sealed_over : (l : Level) (key r x p o : List ℕ) → seal_records_refusal l r x (length p) (length o) ≡ 0 → length (sealed_records l key r x p) ≤ 118 → SealedOver l key r x p o
unfolding answer
sealed_over l key r x p o e short =
    let bs = sealed_records l key r x p in
    let said : seal_answer l key r x p o ≡ answer 0 (length bs) = accepted _ _ _ e in
    let size : length_in (seal_answer l key r x p o) ≡ length bs = ap length_in said ∙ answer_length 0 (length bs) (omega arith) in
    let left : seal_output l key r x p o ≡ over o 0 bs = accepted _ _ _ e in
    record {
      accepted = ap refusal_in said ∙ omega arith;
      length = size;
      left = left;
      bytes = (λ i. take (size i) (left i)) ∙ take_over o bs;
    }

-- ---- the first half

-- nwk_open of a frame that was sealed from the headers h and a and the payload p
sealed_then_opened : (l : Level) (key : List ℕ) (h : NwkHeader) (a : Option NwkAuxHeader) (p : List ℕ) (is_last : Bool) (room : ℕ) (out : List ℕ)
    → frames.InRange h a → Sealable is_last l h a (length p) room → length p ≤ length out
    → let r = open_frame l key (sealed_bytes l key h (or_blank a) p) out in
    (r.answer.refusal ≡ 0) × ((r.answer.mark ≡ Mark.Sealed) × ((r.answer.length ≡ length p)
    × ((r.answer.header ≡ cleared h) × ((r.answer.aux ≡ frames.level_zero a) × (r.out ≡ over out 0 p)))))
unfolding open_with
sealed_then_opened l key h None p is_last room out fits s within = absurd (true≢false s.headers.present)
sealed_then_opened l key h (Some x) p is_last room out fits s within =
    let run = first-half-proofs.reopened l key h x p s.level fits.header fits.auxiliary s.headers s.whole out within in (
      ap (λ (r : opening.Run). r.answer.refusal) run,
      (
        ap (λ (r : opening.Run). r.answer.mark) run,
        (
          ap (λ (r : opening.Run). r.answer.length) run,
          (ap (λ (r : opening.Run). r.answer.header) run, (ap (λ (r : opening.Run). r.answer.aux) run, ap (λ (r : opening.Run). r.out) run)),
        ),
      ),
    )

pub first_half : FirstHalf
unfolding seal_records_refusal sealed_records
first_half level first second r x p o w out br bx accepted room within =
    let l = network_level level in
    let key = key_bytes first second in
    let h = header_of r in
    let a = option_of x in
    let number = refusal_none _ _ (seal_below l r x (length p) (length o)) accepted in
    let parts = none _ number in
    let e = sym (seal_good l r x (length p) (length o) parts.0 parts.1.0 parts.1.1.0) ∙ number in
    let s = sealed_over l key r x p o number (sealed_short l key r x p (length o) e) in
    let able = frame-law.seal_able l h a (length p) (length o) e in
    let fits : frames.InRange h a = record { header = header_of_fits r br; auxiliary = option_of_fits x bx } in
    let f = sealed_records l key r x p in
    let back = sealed_then_opened l key h a p _ (length o) out fits able within in
    let over-it = opened_over l key f w out (open_accepts l key f w out room back.0) in
    let answered : open_answer l key f w out ≡ opened_answer Mark.Sealed (length p) = over-it.answered ∙ (λ i. opened_answer (back.1.0 i) (back.1.1.0 i)) in
    let size : length_in (open_answer l key f w out) ≡ length p = ap length_in answered ∙ opened_length Mark.Sealed (length p) (omega (arith, able.payload)) in
    let header : header_of (header_in (open_record l key f w out)) ≡ cleared h =
    ap (λ (y : List ℕ). header_of (header_in y)) over-it.recorded ∙ ap header_of (header_in_lem w (open_frame l key f out).answer ∙ ap header_record back.1.1.1.0)
    ∙ header_back (cleared h) (cleared_fits h fits.header) (cleared_places h) in
    let auxiliary =
    ap (λ (y : List ℕ). option_of (auxiliary_in y)) over-it.recorded ∙ ap option_of (auxiliary_in_lem w (open_frame l key f out).answer ∙ ap option_record back.1.1.1.1.0)
    ∙ option_back (frames.level_zero a) (level_zero_fits a fits.auxiliary) in
    rw s.bytes
    (record {
      accepted = ap refusal_in answered ∙ opened_refusal Mark.Sealed (length p);
      marked = ap clear_in answered ∙ clear_in_lem Mark.Sealed (length p);
      header = rw header (same_cleared h able.headers.fields.good);
      auxiliary = auxiliary;
      length = size;
      payload = (λ i. take (size i) ((over-it.left ∙ back.1.1.1.1.1) i)) ∙ take_over out p;
    })

-- ---- the second half

-- a mark that is there and not that of a clear frame
sealed_mark : (m : Mark) → (m ≡ Mark.Unmarked → ⊥) → clear_bit m ≡ 0 → m ≡ Mark.Sealed
sealed_mark Mark.Unmarked h e = absurd (h refl)
sealed_mark Mark.Clear h e = absurd (omega arith)
sealed_mark Mark.Sealed h e = refl

-- nwk_seal of the records of headers that sealing takes
seals_again : (l : Level) (key f : List ℕ) (h : NwkHeader) (a : Option NwkAuxHeader) (p out : List ℕ) → HeaderFits h → length h.relays ≡ 54 → frames.AuxOptionFits a
    → frames.Resealed f (seal_frame l key h a p out)
    → Resealed f (seal_answer l key (header_record h) (option_record a) p out) (seal_output l key (header_record h) (option_record a) p out)
unfolding sealed_records seal_frame option_record
seals_again l key f h a p out fits places afits again =
    let r = header_record h in
    let x = option_record a in
    let eh = header_back h fits places in
    let ea = option_back a afits in
    let own : seal_refusal l h a (length p) (length out) ≡ 0 = sym (frame-law.seal_number l key h a p out) ∙ again.accepted in
    let e : seal_refusal l (header_of r) (option_of x) (length p) (length out) ≡ 0 =
    (λ i. seal_refusal l (eh i) (ea i) (length p) (length out)) ∙ own in
    let able = frame-law.seal_able l h a (length p) (length out) own in
    let number = seal_good l r x (length p) (length out) able.level (header_taken h able.headers.fields.good) (aux_taken _ (or_blank a)) ∙ e in
    let s = sealed_over l key r x p out number (sealed_short l key r x p (length out) e) in
    let same : sealed_records l key r x p ≡ f =
    (λ i. sealed_bytes l key (eh i) (or_blank (ea i)) p) ∙ sym (bytes_sealed_lem _ _ out own) ∙ again.bytes in
    record { accepted = s.accepted; length = s.length ∙ ap length same; bytes = s.bytes ∙ same }

pub second_half : SecondHalf
second_half level first second f w o out bytes ok clear control other size =
    let l = network_level level in
    let key = key_bytes first second in
    let number = refusal_none _ _ (open_below l key f (length w) (length o)) ok in
    let acc = open_accepted l key f w o number in
    let over-it = opened_over l key f w o number in
    let a = (open_frame l key f o).answer in
    let fits = answer_fits l (ciph_of key) f o bytes in
    let sealed = sealed_mark a.mark ((marked_if_accepted l key f o).accepted acc.1) (sym (clear_in_lem a.mark a.length) ∙ ap clear_in (sym over-it.answered) ∙ clear) in
    let header = ap header_in over-it.recorded ∙ header_in_lem w a in
    let auxiliary = ap auxiliary_in over-it.recorded ∙ auxiliary_in_lem w a in
    let n : length_in (open_answer l key f w o) ≡ a.length = ap length_in over-it.answered ∙ opened_length a.mark a.length (omega (arith, fits.short)) in
    let counter : counter_of a.aux ≡ last_counter → ⊥ = λ e. other (ap (λ (y : List ℕ). le_at 4 y 5) auxiliary ∙ counter_in a.aux fits.aux ∙ e) in
    let again = frame-law.second_half l key f o out bytes acc.1 sealed control counter size in
    let given : take (length_in (open_answer l key f w o)) (open_output l key f w o) ≡ frames.payload_given (open_frame l key f o) = λ i. take (n i) (over-it.left i) in
    rw (header, auxiliary, given) (seals_again l key f a.header a.aux _ out fits.header fits.relays fits.aux again)

-- ---- the payload's place

-- the parts of the number of a payload in the frame
module _ (n d : ℕ) (h : n ≤ 118) (k : d ≤ 118) where
  length_back : length_in (n + 2 ^ 40 + d * 2 ^ 48) ≡ n
  length_back = omega arith

  clear_back : clear_in (n + 2 ^ 40 + d * 2 ^ 48) ≡ 1
  clear_back = omega arith

  first_back : first_in (n + 2 ^ 40 + d * 2 ^ 48) ≡ d
  first_back = omega arith

-- the bytes at the place of a mark, for a payload and a frame that fit 118 bytes
at_place : (m : Mark) (n : ℕ) (f o : List ℕ) → n ≤ 118 → length f ≤ 118 → bytes_at (place_of m n (length f)) f o ≡ payload_by m n f o
at_place Mark.Unmarked n f o h k = refl
at_place Mark.Clear n f o h k =
    let d = length f - n in
    let small : d ≤ 118 = omega arith in
    (λ i. take (length_back n d h small i) (drop (first_back n d h small i) (cond (eqb (clear_back n d h small i) 1) f o)))
    ∙ take_all n (last_of n f) (rw length-drop (omega arith))
at_place Mark.Sealed n f o h k =
    let size : length_in n ≡ n = omega arith in
    let which : clear_in n ≡ 0 = omega arith in
    let first : n / 2 ^ 48 % 2 ^ 8 ≡ 0 = omega arith in
    λ i. take (size i) (drop (first i) (cond (eqb (which i) 1) f o))

-- a frame that is opened has at most 118 bytes
frame_short : (l : Level) (key f o : List ℕ) → (open_frame l key f o).answer.refusal ≡ 0 → length f ≤ 118
frame_short l key f o e =
    let level = open_level l (ciph_of key) f o e in
    elim (dec_lt 118 (length f)) [ yes h ↦ absurd (omega (arith, open_long l (ciph_of key) f o level h, e)) | no h ↦ omega arith ]

-- nor has what it gives
answer_short : (l : Level) (ciph : List ℕ → List ℕ) (f o : List ℕ) → length f ≤ 118 → (open_with l ciph f o).answer.length ≤ 118
unfolding open_with open_refused behind
answer_short l ciph f o h =
    let cut = length-drop (read_frame f).length f in
    run_either l ciph f (read_frame f) o (λ (r : opening.Run). r.answer.length ≤ 118)
    (λ w. omega (arith, payload_length l ciph f (read_frame f), cut)) (λ level e off. omega (arith, cut)) (omega arith)

mark_known : (m : Mark) → ltb 2 (mark_code m) ≡ false
mark_known Mark.Unmarked = refl
mark_known Mark.Clear = refl
mark_known Mark.Sealed = refl

pub payload_placed : PayloadPlaced
unfolding payload_place_refusal payload_place
payload_placed l key f o u e =
    let a = (open_frame l key f o).answer in
    let long = frame_short l key f o e in
    let short = answer_short l (ciph_of key) f o long in
    let number : payload_place_refusal (mark_code a.mark) a.length (length f) ≡ 0 =
    none_refuse _ (rw (le-ltb 118 a.length short) (le-ltb 118 (length f) long), (mark_known a.mark, tt)) in
    ap (λ (x : ℕ). bytes_at x f (open_frame l key f o).out) (accepted _ _ _ number ∙ ap (λ (m : Mark). place_of m a.length (length f)) (mark_back a.mark))
    ∙ at_place a.mark a.length f (open_frame l key f o).out short long
