-- Reading undoes writing: a header that writing accepts, with any bytes behind it, is read back, the places past the relay
-- count cleared. Each field is found behind the bytes before it.
-- Assumes nothing.
use Rattle.std.specs.Prelude.{Option}
use mathlib.Core.Path.{◌≡◌, refl, sym, ap, ◌∙◌}
use mathlib.Core.Bool.{Bool, true, false, cond}
use mathlib.Core.List.{List, [], ◌∷◌, ◌++◌, append_assoc}
use Prim.Native.Nat.{ℕ, ◌+◌, ◌*◌, ◌%◌, ◌/◌, ◌≤◌, ◌<◌}
use native.Mathlib.Nat.{add-zero, add_assoc}
use native.Mathlib.Omega.{arith}
use lib.ListN.{length, get_or, length-append}
use lib.Seq.{get_or-append-add}
use lib.Dec.{ltb, eqb}
use borrow.Author.Tests.{le-ltb, lt-ltb, ltb-false, ltb-true}
use Rattle.octets.specs.Numbers.{le, le_at}
use Rattle.octets.specs.Refusals.{first_of}
use Rattle.octets.proofs.Conditions.{accepted, or_false}
use Rattle.octets.proofs.Strings.{tab_ext, get_or_tab}
use Rattle.octets.proofs.Numbers.{length_le, le_at_le, le_at_behind}
use Rattle.header.specs.declared.{control.NwkFrameControl.NwkFrameControl, optional.NwkSourceRoute.NwkSourceRoute, nwk.NwkHeader.NwkHeader}
use Rattle.header.specs.Optional.{multicast_if, multicast_bytes, has_multicast, route_if, route_bytes, relay_count}
use Rattle.types.specs.Addresses.{nwk, no_nwk}
use Rattle.types.specs.Optional.{ieee_if, ieee_bytes, has_ieee}
use Rattle.octets.specs.Fields.{bit}
use Rattle.header.specs.Control.{control_word, control_of}
use Rattle.header.specs.Reading.{control, source_at, multicast_at, route_at, relays_announced, header_end, header_refusal, optional_refusals, relays_of, header_by, header_given, read_header}
use Rattle.header.specs.Writing.{fixed_bytes, optional_bytes, header_bytes, bad_control, bad_header}
use Rattle.header.specs.Same.{Agrees, SameHeader, cleared, HeaderFits}
use Rattle.header.proofs.ControlFields.{control_back, control_word_lt, word_type, word_discovery}
use Rattle.header.proofs.Writable.{FieldsGood}
use Rattle.header.proofs.OptionalFields.{le_byte, ieee_length, ieee_back, multicast_length, multicast_back, route_same, route_length, route_back, route_relays, route_count}

-- ---- a field behind the bytes before it

pub le_at_at : (n : ℕ) (p s : List ℕ) (i : ℕ) → length p ≡ i → le_at n (p ++ s) i ≡ le_at n s 0
le_at_at n p s i e = ap (λ (k : ℕ). le_at n (p ++ s) k) (sym (add-zero (length p) ∙ e)) ∙ le_at_behind n p s 0

pub get_or_at₀ : (p s : List ℕ) (i : ℕ) → length p ≡ i → get_or (p ++ s) i 0 ≡ get_or s 0 0
get_or_at₀ p s i e = ap (λ (k : ℕ). get_or (p ++ s) k 0) (sym (add-zero (length p) ∙ e)) ∙ get_or-append-add p s 0 0

pub fixed_length : (h : NwkHeader) → length (fixed_bytes h) ≡ 8
unfolding fixed_bytes
fixed_length h = simp (length-append, length_le)

pub header_length : (h : NwkHeader)
    → length (header_bytes h)
    ≡ 8 + (length (ieee_bytes h.destination_ieee) + length (ieee_bytes h.source_ieee) + length (multicast_bytes h.multicast_control)
    + length (route_bytes h.source_route h.relays))
unfolding header_bytes optional_bytes
header_length h = simp (length-append, fixed_length) (omega arith)

-- ---- the bytes in front of each field that may be missing

D : NwkHeader → List ℕ
D h = ieee_bytes h.destination_ieee

S : NwkHeader → List ℕ
S h = ieee_bytes h.source_ieee

Mc : NwkHeader → List ℕ
Mc h = multicast_bytes h.multicast_control

R : NwkHeader → List ℕ
R h = route_bytes h.source_route h.relays

module _ (h : NwkHeader) (rest : List ℕ) where
  at_destination : header_bytes h ++ rest ≡ fixed_bytes h ++ (D h ++ (S h ++ (Mc h ++ (R h ++ rest))))
  unfolding header_bytes optional_bytes D S Mc R
  at_destination = simp append_assoc

  at_source : header_bytes h ++ rest ≡ (fixed_bytes h ++ D h) ++ (S h ++ (Mc h ++ (R h ++ rest)))
  at_source = at_destination ∙ simp append_assoc

  at_multicast : header_bytes h ++ rest ≡ ((fixed_bytes h ++ D h) ++ S h) ++ (Mc h ++ (R h ++ rest))
  at_multicast = at_destination ∙ simp append_assoc

  at_route : header_bytes h ++ rest ≡ (((fixed_bytes h ++ D h) ++ S h) ++ Mc h) ++ (R h ++ rest)
  at_route = at_destination ∙ simp append_assoc

by_parts : (h : NwkHeader) → header_bytes h ≡ (((fixed_bytes h ++ D h) ++ S h) ++ Mc h) ++ R h
unfolding header_bytes optional_bytes D S Mc R
by_parts h = simp append_assoc

module _ (h : NwkHeader) (agrees : Agrees h) where
  source_place : length (fixed_bytes h ++ D h) ≡ source_at h.frame_control
  unfolding source_at D
  source_place =
      simp (length-append, fixed_length, ieee_length)
      (ap (λ (b : Bool). 8 + 8 * bit b) (sym agrees.destination))

  multicast_place : length ((fixed_bytes h ++ D h) ++ S h) ≡ multicast_at h.frame_control
  unfolding multicast_at S
  multicast_place =
      length-append (fixed_bytes h ++ D h) (ieee_bytes h.source_ieee)
      ∙ (λ i. source_place i + (ieee_length h.source_ieee ∙ ap (λ (b : Bool). 8 * bit b) (sym agrees.source)) i)

  route_place : length (((fixed_bytes h ++ D h) ++ S h) ++ Mc h) ≡ route_at h.frame_control
  unfolding route_at Mc
  route_place =
      length-append ((fixed_bytes h ++ D h) ++ S h) (multicast_bytes h.multicast_control)
      ∙ (λ i. multicast_place i + (multicast_length h.multicast_control ∙ ap bit (sym agrees.multicast)) i)

-- ---- what reading finds

-- a choice by one test, where the two values agree if the test holds
cond_same : {A : Type 0} (b : Bool) (x y z : A) → (b ≡ true → x ≡ y) → cond b x z ≡ cond b y z
cond_same true x y z h = h refl
cond_same false x y z h = refl

module _ (h : NwkHeader) (rest : List ℕ) (fits : HeaderFits h) (good : bad_control h.frame_control ≡ false) where
  word : le_at 2 (header_bytes h ++ rest) 0 ≡ control_word h.frame_control
  unfolding header_bytes fixed_bytes
  word = simp append_assoc (le_at_le 2 (control_word h.frame_control) _ (control_word_lt h.frame_control good))

  control_read : control (header_bytes h ++ rest) ≡ h.frame_control
  control_read = ap control_of word ∙ control_back h.frame_control good

  destination_read : le_at 2 (header_bytes h ++ rest) 2 ≡ h.destination.0
  unfolding header_bytes fixed_bytes
  destination_read =
      simp append_assoc
      (le_at_at 2 (le 2 (control_word h.frame_control)) _ 2 (length_le 2 (control_word h.frame_control))
      ∙ le_at_le 2 h.destination.0 _ fits.destination)

  source_read : le_at 2 (header_bytes h ++ rest) 4 ≡ h.source.0
  unfolding header_bytes fixed_bytes
  source_read =
      let p : List ℕ = le 2 (control_word h.frame_control) ++ le 2 h.destination.0 in
      let l : length p ≡ 4 = simp (length-append, length_le) in
      simp append_assoc
      (simp append_assoc at (le_at_at 2 p (le 2 h.source.0 ++ (le 1 h.radius ++ (le 1 h.sequence_number ++ (optional_bytes h ++ rest)))) 4 l)
      ∙ le_at_le 2 h.source.0 _ fits.source)

  radius_read : get_or (header_bytes h ++ rest) 6 0 ≡ h.radius
  unfolding header_bytes fixed_bytes
  radius_read =
      let p : List ℕ = le 2 (control_word h.frame_control) ++ (le 2 h.destination.0 ++ le 2 h.source.0) in
      let l : length p ≡ 6 = simp (length-append, length_le) in
      rw (le_byte h.radius fits.radius)
      (simp append_assoc
      (simp append_assoc at (get_or_at₀ p ((h.radius ∷ []) ++ (le 1 h.sequence_number ++ (optional_bytes h ++ rest))) 6 l)))

  sequence_read : get_or (header_bytes h ++ rest) 7 0 ≡ h.sequence_number
  unfolding header_bytes fixed_bytes
  sequence_read =
      let p : List ℕ = le 2 (control_word h.frame_control) ++ (le 2 h.destination.0 ++ (le 2 h.source.0 ++ le 1 h.radius)) in
      let l : length p ≡ 7 = simp (length-append, length_le) in
      rw (le_byte h.sequence_number fits.sequence)
      (simp append_assoc
      (simp append_assoc at (get_or_at₀ p ((h.sequence_number ∷ []) ++ (optional_bytes h ++ rest)) 7 l)))

module _ (h : NwkHeader) (rest : List ℕ) (fits : HeaderFits h) (agrees : Agrees h) where
  destination_ieee_read : ieee_if h.frame_control.destination (le_at 8 (header_bytes h ++ rest) 8) ≡ h.destination_ieee
  unfolding D
  destination_ieee_read =
      (λ i. ieee_if (agrees.destination i) (le_at 8 (at_destination h rest i) 8))
      ∙ ap (ieee_if (has_ieee h.destination_ieee)) (le_at_at 8 (fixed_bytes h) (ieee_bytes h.destination_ieee ++ (S h ++ (Mc h ++ (R h ++ rest)))) 8 (fixed_length h))
      ∙ ieee_back h.destination_ieee (S h ++ (Mc h ++ (R h ++ rest))) fits.destination_ieee

  source_ieee_read : ieee_if h.frame_control.extended_source (le_at 8 (header_bytes h ++ rest) (source_at h.frame_control)) ≡ h.source_ieee
  unfolding S
  source_ieee_read =
      (λ i. ieee_if (agrees.source i) (le_at 8 (at_source h rest i) (source_at h.frame_control)))
      ∙ ap (ieee_if (has_ieee h.source_ieee)) (le_at_at 8 (fixed_bytes h ++ D h) (S h ++ (Mc h ++ (R h ++ rest))) _ (source_place h agrees))
      ∙ ieee_back h.source_ieee (Mc h ++ (R h ++ rest)) fits.source_ieee

  multicast_read : multicast_if h.frame_control.multicast (get_or (header_bytes h ++ rest) (multicast_at h.frame_control) 0) ≡ h.multicast_control
  unfolding Mc
  multicast_read =
      (λ i. multicast_if (agrees.multicast i) (get_or (at_multicast h rest i) (multicast_at h.frame_control) 0))
      ∙ ap (multicast_if (has_multicast h.multicast_control)) (get_or_at₀ ((fixed_bytes h ++ D h) ++ S h) (Mc h ++ (R h ++ rest)) _ (multicast_place h agrees))
      ∙ multicast_back h.multicast_control (R h ++ rest) fits.multicast

  -- the source route's bytes stand at its place
  at_place : (i : ℕ) → get_or (header_bytes h ++ rest) (route_at h.frame_control + i) 0 ≡ get_or (R h ++ rest) i 0
  at_place i =
      (λ k. get_or (at_route h rest k) (sym (route_place h agrees) k + i) 0)
      ∙ get_or-append-add (((fixed_bytes h ++ D h) ++ S h) ++ Mc h) (R h ++ rest) i 0

  route_read : route_if h.frame_control.source_route
      (get_or (header_bytes h ++ rest) (route_at h.frame_control) 0)
      (get_or (header_bytes h ++ rest) (route_at h.frame_control + 1) 0)
      ≡ h.source_route
  unfolding R
  route_read =
      (λ i. route_if (agrees.route i) ((ap (λ (k : ℕ). get_or (header_bytes h ++ rest) k 0) (sym (add-zero (route_at h.frame_control))) ∙ at_place 0) i) (at_place 1 i))
      ∙ route_back h.source_route h.relays rest fits.route

  count_read : relays_announced (header_bytes h ++ rest) h.frame_control ≡ relay_count h.source_route
  unfolding relays_announced
  count_read =
      sym (route_count h.frame_control.source_route _ (get_or (header_bytes h ++ rest) (route_at h.frame_control + 1) 0))
      ∙ ap relay_count route_read

  relay_read : (i : ℕ) → i < relay_count h.source_route
      → nwk (le_at 2 (header_bytes h ++ rest) (route_at h.frame_control + 2 + 2 * i)) ≡ get_or h.relays i no_nwk
  unfolding R
  relay_read i l =
      ap nwk (ap (le_at 2 (header_bytes h ++ rest)) (add_assoc (route_at h.frame_control) 2 (2 * i))
      ∙ (λ k. le_at 2 (at_route h rest k) (sym (route_place h agrees) k + (2 + 2 * i)))
      ∙ le_at_behind 2 (((fixed_bytes h ++ D h) ++ S h) ++ Mc h) (R h ++ rest) (2 + 2 * i))
      ∙ route_relays h.source_route h.relays rest i fits.route fits.relays l

  relays_read : relays_of (header_bytes h ++ rest) h.frame_control ≡ (cleared h).relays
  unfolding relays_of cleared
  relays_read =
      tab_ext _ _ 54
      (λ i l.
      ap (λ (n : ℕ). cond (ltb i n) (nwk (le_at 2 (header_bytes h ++ rest) (route_at h.frame_control + 2 + 2 * i))) no_nwk) count_read
      ∙ cond_same (ltb i (relay_count h.source_route)) _ _ no_nwk (λ t. relay_read i (ltb-true i (relay_count h.source_route) t)))

  end_read : header_end (header_bytes h ++ rest) h.frame_control ≡ length (header_bytes h)
  unfolding header_end R
  end_read =
      sym (ap length (by_parts h) ∙ length-append (((fixed_bytes h ++ D h) ++ S h) ++ Mc h) (R h)
      ∙ (λ i. route_place h agrees i
      + (route_length h.source_route h.relays ∙ (λ j. cond (sym agrees.route j) (2 + 2 * sym count_read j) 0)) i))

-- ---- nothing is refused

-- the fields stand one behind the other
pub places : (f : List ℕ) (c : NwkFrameControl)
    → (8 ≤ source_at c) × (source_at c ≤ multicast_at c) × (multicast_at c ≤ route_at c) × (route_at c ≤ header_end f c)
unfolding source_at multicast_at route_at header_end
places f c = (omega arith, omega arith, omega arith, omega arith)

-- a header whose codes are declared and that ends within the bytes is accepted
pub header_accepted : (f : List ℕ) → length f ≤ 118 → eqb (le_at 2 f 0 % 4) 2 ≡ false → eqb (le_at 2 f 0 / 64 % 4) 3 ≡ false
    → header_end f (control f) ≤ length f → header_refusal f ≡ 0
unfolding header_refusal optional_refusals first_of
header_accepted f short t d l =
    let p = places f (control f) in
    rw (
      le-ltb 118 (length f) short,
      le-ltb (length f) 8 (omega arith),
      t,
      d,
      le-ltb (length f) (source_at (control f)) (omega arith),
      le-ltb (length f) (multicast_at (control f)) (omega arith),
      le-ltb (length f) (route_at (control f)) (omega arith),
      le-ltb (length f) (header_end f (control f)) l,
    ) refl

-- ---- the law

record_read : (h : NwkHeader) (rest : List ℕ) → HeaderFits h → bad_control h.frame_control ≡ false → Agrees h
    → header_by (header_bytes h ++ rest) h.frame_control ≡ cleared h
unfolding header_by cleared
record_read h rest fits good agrees =
    λ i. record {
      frame_control = h.frame_control;
      destination = record { 0 = destination_read h rest fits good i };
      source = record { 0 = source_read h rest fits good i };
      radius = radius_read h rest fits good i;
      sequence_number = sequence_read h rest fits good i;
      destination_ieee = destination_ieee_read h rest fits agrees i;
      source_ieee = source_ieee_read h rest fits agrees i;
      multicast_control = multicast_read h rest fits agrees i;
      source_route = route_read h rest fits agrees i;
      relays = relays_read h rest fits agrees i;
    }

pub read_back : (h : NwkHeader) (rest : List ℕ) → HeaderFits h → FieldsGood h → length (header_bytes h ++ rest) ≤ 118
    → read_header (header_bytes h ++ rest) ≡ record { refusal = 0; length = length (header_bytes h); header = cleared h }
unfolding read_header bad_header
read_back h rest fits fields short =
    let agrees = fields.agree in
    let good' = (or_false (bad_control h.frame_control) (ltb 54 (relay_count h.source_route)) fields.good).0 in
    let c_read : control (header_bytes h ++ rest) ≡ h.frame_control = control_read h rest fits good' in
    let ends : header_end (header_bytes h ++ rest) (control (header_bytes h ++ rest)) ≡ length (header_bytes h) =
    ap (header_end (header_bytes h ++ rest)) c_read ∙ end_read h rest fits agrees in
    let none : header_refusal (header_bytes h ++ rest) ≡ 0 =
    header_accepted (header_bytes h ++ rest) short
    (ap (λ (w : ℕ). eqb (w % 4) 2) (word h rest fits good') ∙ word_type h.frame_control good')
    (ap (λ (w : ℕ). eqb (w / 64 % 4) 3) (word h rest fits good') ∙ word_discovery h.frame_control good')
    (rw (ends, length-append (header_bytes h) rest) (omega arith)) in
    accepted (header_refusal (header_bytes h ++ rest)) (header_given (header_bytes h ++ rest)) _ none
    ∙ (λ i. record {
      refusal = 0;
      length = ends i;
      header = (ap (header_by (header_bytes h ++ rest)) c_read ∙ record_read h rest fits good' agrees) i;
    })

-- the header that was read back is the same
pub same_cleared : (h : NwkHeader) → bad_header h ≡ false → SameHeader h (cleared h)
unfolding cleared bad_header
same_cleared h good =
    let few : relay_count h.source_route ≤ 54 =
    ltb-false 54 (relay_count h.source_route) (or_false (bad_control h.frame_control) (ltb 54 (relay_count h.source_route)) good).1 in
    record {
      control = refl;
      destination = refl;
      source = refl;
      radius = refl;
      sequence = refl;
      destination_ieee = refl;
      source_ieee = refl;
      multicast = refl;
      route = refl;
      relays = λ i l.
          sym (get_or_tab _ 54 i no_nwk (omega arith)
          ∙ ap (λ (b : Bool). cond b (get_or h.relays i no_nwk) no_nwk) (lt-ltb i (relay_count h.source_route) l));
    }

-- the same headers have the same bytes
pub same_bytes : (h k : NwkHeader) → SameHeader h k → header_bytes h ≡ header_bytes k
unfolding header_bytes fixed_bytes optional_bytes
same_bytes h k s =
    λ i.
    (le 2 (control_word (s.control i)) ++ (le 2 (s.destination i).0 ++ (le 2 (s.source i).0 ++ (le 1 (s.radius i) ++ le 1 (s.sequence i)))))
    ++ (ieee_bytes (s.destination_ieee i) ++ (ieee_bytes (s.source_ieee i) ++ (multicast_bytes (s.multicast i)
    ++ (route_same h.source_route h.relays k.relays s.relays ∙ ap (λ (o : Option NwkSourceRoute). route_bytes o k.relays) s.route) i)))
