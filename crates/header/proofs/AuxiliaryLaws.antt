-- The auxiliary header: reading undoes writing where the extended nonce bit agrees with the IEEE, and writing undoes
-- reading, the control's bit 7 aside.
-- Assumes nothing.
use mathlib.Core.Path.{◌≡◌, refl, sym, ap, ◌∙◌}
use mathlib.Core.Bool.{Bool}
use mathlib.Core.List.{List, [], ◌∷◌, ◌++◌, append_assoc}
use Prim.Native.Nat.{ℕ, suc, ◌+◌, ◌*◌, ◌%◌, ◌≤◌, ◌<◌}
use native.Mathlib.Nat.{mod-lt, mod-eq_of_lt}
use native.Mathlib.Omega.{arith}
use lib.ListN.{length, get_or, take, drop, length-append}
use lib.Seq.{take-add, drop-cons, drop-drop}
use native.Mathlib.Numerals.{add-one}
use borrow.Author.Tests.{le-ltb, ltb-false}
use Rattle.octets.specs.Strings.{Below}
use Rattle.octets.specs.Numbers.{le, le_at}
use Rattle.octets.specs.Refusals.{first_of}
use Rattle.octets.proofs.Numbers.{length_le, le_at_le, le_le_at}
use Rattle.octets.proofs.Conditions.{accepted, none}
use Rattle.header.specs.declared.{auxiliary.NwkAuxHeader.NwkAuxHeader, auxiliary.NwkSecurityHeaderControlField.NwkSecurityHeaderControlField}
use Rattle.types.specs.Optional.{ieee_if, ieee_bytes, has_ieee}
use Rattle.octets.specs.Fields.{bit}
use Rattle.header.specs.AuxiliaryControl.{security_byte}
use Rattle.header.specs.Auxiliary.{security, key_sequence_at, aux_refusal, aux_by, aux_given, read_aux, aux_bytes}
use Rattle.header.specs.Same.{AuxAgrees, AuxFits}
use Rattle.header.proofs.ControlFields.{security_back, security_byte_lt, byte_back}
use Rattle.header.proofs.OptionalFields.{le_byte, byte_read, take_join, ieee_length, ieee_back, ieee_read, ieee_has}
use Rattle.header.proofs.ReadBack.{le_at_at, get_or_at₀}

pub aux_length : (a : NwkAuxHeader) → length (aux_bytes a) ≡ 6 + 8 * bit (has_ieee a.extended_source)
unfolding aux_bytes
aux_length a = simp (length-append, length_le, ieee_length) (omega arith)

-- ---- reading undoes writing

module _ (a : NwkAuxHeader) (rest : List ℕ) (fits : AuxFits a) (agrees : AuxAgrees a) where
  control_read : security (aux_bytes a ++ rest) ≡ a.security_control
  unfolding aux_bytes
  control_read =
      rw (le_byte (security_byte a.security_control) (security_byte_lt a.security_control))
      (security_back a.security_control)

  counter_read : le_at 4 (aux_bytes a ++ rest) 1 ≡ a.frame_counter
  unfolding aux_bytes
  counter_read =
      simp append_assoc
      (le_at_at 4 (le 1 (security_byte a.security_control)) _ 1 (length_le 1 (security_byte a.security_control))
      ∙ le_at_le 4 a.frame_counter _ fits.counter)

  front : List ℕ
  front = le 1 (security_byte a.security_control) ++ le 4 a.frame_counter

  ieee_place : length front ≡ 5
  unfolding front
  ieee_place = simp (length-append, length_le)

  at_ieee : aux_bytes a ++ rest ≡ front ++ (ieee_bytes a.extended_source ++ (le 1 a.key_sequence_number ++ rest))
  unfolding front aux_bytes
  at_ieee = simp append_assoc

  at_key : aux_bytes a ++ rest ≡ (front ++ ieee_bytes a.extended_source) ++ (le 1 a.key_sequence_number ++ rest)
  at_key = at_ieee ∙ simp append_assoc

  key_place : length (front ++ ieee_bytes a.extended_source) ≡ key_sequence_at a.security_control
  unfolding key_sequence_at
  key_place =
      length-append front (ieee_bytes a.extended_source)
      ∙ (λ i. ieee_place i + (ieee_length a.extended_source ∙ ap (λ (b : Bool). 8 * bit b) (sym agrees)) i)

  record_read : aux_by (aux_bytes a ++ rest) a.security_control ≡ a
  unfolding aux_by
  record_read =
      λ i. record {
        security_control = a.security_control;
        frame_counter = counter_read i;
        extended_source =
            ((λ k. ieee_if (agrees k) (le_at 8 (at_ieee k) 5))
            ∙ ap (ieee_if (has_ieee a.extended_source)) (le_at_at 8 front _ 5 ieee_place)
            ∙ ieee_back a.extended_source (le 1 a.key_sequence_number ++ rest) fits.ieee) i;
        key_sequence_number =
            (ap (λ (f : List ℕ). get_or f (key_sequence_at a.security_control) 0) at_key
            ∙ get_or_at₀ (front ++ ieee_bytes a.extended_source) (le 1 a.key_sequence_number ++ rest) _ key_place
            ∙ ap (λ (f : List ℕ). get_or (f ++ rest) 0 0) (le_byte a.key_sequence_number fits.key_sequence)) i;
      }

  size : key_sequence_at a.security_control + 1 ≡ length (aux_bytes a)
  unfolding key_sequence_at
  size = ap (λ (b : Bool). 5 + 8 * bit b + 1) agrees ∙ sym (aux_length a ∙ omega arith)

-- an auxiliary header that ends within the bytes is accepted
aux_accepted : (f : List ℕ) → length f ≤ 118 → key_sequence_at (security f) + 1 ≤ length f → aux_refusal f ≡ 0
unfolding aux_refusal first_of
aux_accepted f short h =
    let five : 5 ≤ key_sequence_at (security f) = unfold key_sequence_at in omega arith in
    rw (
      le-ltb 118 (length f) short,
      le-ltb (length f) 6 (omega arith),
      le-ltb (length f) (key_sequence_at (security f)) (omega arith),
      le-ltb (length f) (key_sequence_at (security f) + 1) h,
    ) refl

pub aux_read_back : (a : NwkAuxHeader) (rest : List ℕ) → AuxFits a → AuxAgrees a → length (aux_bytes a ++ rest) ≤ 118
    → read_aux (aux_bytes a ++ rest) ≡ record { refusal = 0; length = length (aux_bytes a); aux = a }
unfolding read_aux
aux_read_back a rest fits agrees short =
    let f : List ℕ = aux_bytes a ++ rest in
    let c : security f ≡ a.security_control = control_read a rest fits agrees in
    let ends : key_sequence_at (security f) + 1 ≡ length (aux_bytes a) = ap (λ (k : NwkSecurityHeaderControlField). key_sequence_at k + 1) c ∙ size a rest fits agrees in
    accepted (aux_refusal f) (aux_given f) _ (aux_accepted f short (rw (ends, length-append (aux_bytes a) rest) (omega arith)))
    ∙ (λ i. record { refusal = 0; length = ends i; aux = (ap (aux_by f) c ∙ record_read a rest fits agrees) i })

-- ---- writing undoes reading

pub record ReadAux (f : List ℕ) : Type 0 where
  pub short : length f ≤ 118
  pub ends : key_sequence_at (security f) + 1 ≤ length f

pub aux_read : (f : List ℕ) → aux_refusal f ≡ 0 → ReadAux f
unfolding aux_refusal
aux_read f e =
    let n = none _ e in
    record {
      short = ltb-false 118 (length f) n.0;
      ends = ltb-false (length f) (key_sequence_at (security f) + 1) n.1.1.1.0;
    }

-- the bytes that were read, the control's bit 7 at 0
pub aux_write_back : (f : List ℕ) → Below 256 f → aux_refusal f ≡ 0
    → aux_bytes (aux_by f (security f)) ≡ get_or f 0 0 % 128 ∷ take (key_sequence_at (security f)) (drop 1 f)
unfolding aux_bytes aux_by key_sequence_at
aux_write_back f u e =
    let c : NwkSecurityHeaderControlField = security f in
    let ends = (aux_read f e).ends in
    let first : le 1 (security_byte c) ≡ get_or f 0 0 % 128 ∷ [] =
    ap (le 1) (byte_back (get_or f 0 0)) ∙ le_byte (get_or f 0 0 % 128) (omega (arith, mod-lt (get_or f 0 0) {m = 128} (omega arith))) in
    let b : ℕ = 8 * bit c.extended_nonce in
    let g : List ℕ = drop 1 f in
    let place : 1 + (4 + b) ≡ 5 + b = omega arith in
    let sum : 4 + b + 1 ≡ 5 + b = omega arith in
    let counter : le 4 (le_at 4 f 1) ≡ take 4 g = le_le_at 4 f 1 u (omega arith) in
    let ieee : ieee_bytes (ieee_if c.extended_nonce (le_at 8 f 5)) ≡ take b (drop 4 g) =
    rw (drop-drop 4 1 f) (ieee_read f c.extended_nonce 5 u (omega arith)) in
    let key : le 1 (get_or f (5 + b) 0) ≡ take 1 (drop (4 + b) g) =
    rw (drop-drop (4 + b) 1 f, place) (byte_read f (5 + b) u (omega arith)) in
    λ i. first i ++
    ((λ k. counter k ++ (ieee_bytes (ieee_if c.extended_nonce (le_at 8 f 5)) ++ key k))
    ∙ take_join g 4 b _ (take 1 (drop (4 + b) g)) ieee ∙ sym (take-add (4 + b) 1 g) ∙ ap (λ (n : ℕ). take n g) sum) i

-- with bit 7 at 0 they are exactly the bytes that were read
pub aux_write_exact : (f : List ℕ) → Below 256 f → aux_refusal f ≡ 0 → get_or f 0 0 < 128
    → aux_bytes (aux_by f (security f)) ≡ take (key_sequence_at (security f) + 1) f
aux_write_exact f u e h =
    let ends = (aux_read f e).ends in
    aux_write_back f u e
    ∙ ap (λ (b : ℕ). b ∷ take (key_sequence_at (security f)) (drop 1 f)) (mod-eq_of_lt h)
    ∙ sym (rw (add-one (key_sequence_at (security f))) (ap (take (suc (key_sequence_at (security f)))) (drop-cons f 0 0 (omega arith))))

pub aux_agrees_lem : (f : List ℕ) (c : NwkSecurityHeaderControlField) → AuxAgrees (aux_by f c)
unfolding aux_by
aux_agrees_lem f c = sym (ieee_has c.extended_nonce (le_at 8 f 5))
