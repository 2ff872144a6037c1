-- What reading tells of the bytes, stated of its answers alone: what the frame layer cites, so that the definitions of the
-- two headers stay shut above this crate.
-- Assumes nothing.
use mathlib.Core.Path.{◌≡◌, refl, sym, ap, ◌∙◌}
use mathlib.Core.Bool.{Bool}
use mathlib.Core.List.{List}
use Prim.Native.Nat.{ℕ, ◌+◌, ◌*◌, ◌%◌, ◌≤◌, ◌<◌}
use native.Mathlib.Omega.{arith}
use lib.ListN.{length, get_or, take}
use Rattle.octets.specs.Strings.{Below}
use Rattle.octets.specs.Fields.{bit, fields}
use Rattle.octets.proofs.Strings.{length_tab}
use Rattle.octets.proofs.Conditions.{accepted, answer_number, unless_either}
use Rattle.header.specs.declared.{auxiliary.NwkSecurityLevel.NwkSecurityLevel, control.NwkFrameControl.NwkFrameControl}
use Rattle.header.specs.Reading.{HeaderRead, control, relays_of, header_by, header_refusal, header_given, header_refused, read_header}
use Rattle.header.specs.Writing.{header_bytes}
use Rattle.header.specs.Auxiliary.{AuxRead, security, key_sequence_at, aux_refusal, aux_by, aux_given, aux_refused, read_aux, aux_bytes}
use Rattle.header.specs.AuxiliaryControl.{level_of, security_of}
use Rattle.header.specs.Same.{AuxAgrees, HeaderFits, AuxFits}
use Rattle.header.proofs.OptionalFields.{ieee_has}
use Rattle.header.proofs.ReadFits.{read_fits, aux_read_fits}
use Rattle.header.proofs.Writable.{FieldsGood}
use Rattle.header.proofs.ReadBack.{places}
use Rattle.header.proofs.WriteBack.{header_read, write_back, read_good, read_agrees}
use Rattle.header.proofs.AuxiliaryLaws.{aux_read, aux_length, aux_write_exact, aux_agrees_lem}

-- ---- the header

-- the number beside a header that was read
pub header_number : (f : List ℕ) → (read_header f).refusal ≡ header_refusal f
unfolding read_header
header_number f = answer_number (λ (r : HeaderRead). r.refusal) (header_refusal f) (header_given f) header_refused refl refl

pub record HeaderFacts (f : List ℕ) (r : HeaderRead) : Type 0 where
  pub short : length f ≤ 118
  pub least : 8 ≤ r.length
  pub within : r.length ≤ length f
  pub fields : FieldsGood r.header
  pub fits : HeaderFits r.header
  pub places : length r.header.relays ≡ 54
  pub bytes : header_bytes r.header ≡ take r.length f

relay_places : (f : List ℕ) (c : NwkFrameControl) → length (header_by f c).relays ≡ 54
unfolding header_by relays_of
relay_places f c = length_tab _ 54

read_facts : (f : List ℕ) → Below 256 f → header_refusal f ≡ 0 → HeaderFacts f (header_given f)
read_facts f u none =
    let r = header_read f none in
    let p = places f (control f) in
    let ends = r.ends in
    record {
      short = r.short;
      least = omega arith;
      within = ends;
      fields = record { good = read_good f none; agree = read_agrees f (control f) };
      fits = read_fits f (control f) u;
      places = relay_places f (control f);
      bytes = write_back f u none;
    }

pub header_facts : (f : List ℕ) → Below 256 f → (read_header f).refusal ≡ 0 → HeaderFacts f (read_header f)
unfolding read_header
header_facts f u e =
    let none : header_refusal f ≡ 0 = sym (header_number f) ∙ e in
    rw (accepted (header_refusal f) (header_given f) (header_refused (header_refusal f)) none) (read_facts f u none)

-- the frame control of a header that was read is the one in the bytes
pub read_control : (f : List ℕ) → (read_header f).refusal ≡ 0 → (read_header f).header.frame_control ≡ control f
unfolding read_header header_by
read_control f e =
    ap (λ (r : HeaderRead). r.header.frame_control) (accepted (header_refusal f) (header_given f) (header_refused (header_refusal f)) (sym (header_number f) ∙ e))

-- whatever is answered, the header ends within the bytes
pub header_within : (f : List ℕ) → Below 256 f → (read_header f).length ≤ length f
unfolding read_header
header_within f u =
    unless_either (λ (r : HeaderRead). r.length ≤ length f) (header_refusal f) (header_given f) (header_refused (header_refusal f))
    (λ e. (read_facts f u e).within) (omega arith)

-- ---- the auxiliary header

pub aux_number : (f : List ℕ) → (read_aux f).refusal ≡ aux_refusal f
unfolding read_aux
aux_number f = answer_number (λ (r : AuxRead). r.refusal) (aux_refusal f) (aux_given f) aux_refused refl refl

pub record AuxFacts (f : List ℕ) (r : AuxRead) : Type 0 where
  pub within : r.length ≤ length f
  pub agrees : AuxAgrees r.aux
  pub fits : AuxFits r.aux
  pub size : length (aux_bytes r.aux) ≡ r.length
  pub exact : get_or f 0 0 < 128 → aux_bytes r.aux ≡ take r.length f
  pub plain : get_or f 0 0 % 8 ≡ 0 → r.aux.security_control.security_level ≡ NwkSecurityLevel.NoSecurity

aux_size : (f : List ℕ) → length (aux_bytes (aux_by f (security f))) ≡ key_sequence_at (security f) + 1
unfolding key_sequence_at aux_by
aux_size f =
    aux_length (aux_by f (security f)) ∙ ap (λ (b : Bool). 6 + 8 * bit b) (ieee_has (security f).extended_nonce _) ∙ omega arith

-- the level 0 is NoSecurity
plain_level : (f : List ℕ) → get_or f 0 0 % 8 ≡ 0 → (aux_by f (security f)).security_control.security_level ≡ NwkSecurityLevel.NoSecurity
unfolding aux_by security_of fields
plain_level f e = ap level_of e

read_aux_facts : (f : List ℕ) → Below 256 f → aux_refusal f ≡ 0 → AuxFacts f (aux_given f)
read_aux_facts f u none =
    let ends = (aux_read f none).ends in
    record {
      within = ends;
      agrees = aux_agrees_lem f (security f);
      fits = aux_read_fits f (security f) u;
      size = aux_size f;
      exact = λ h. aux_write_exact f u none h;
      plain = λ h. plain_level f h;
    }

pub aux_facts : (f : List ℕ) → Below 256 f → (read_aux f).refusal ≡ 0 → AuxFacts f (read_aux f)
unfolding read_aux
aux_facts f u e =
    let none : aux_refusal f ≡ 0 = sym (aux_number f) ∙ e in
    rw (accepted (aux_refusal f) (aux_given f) (aux_refused (aux_refusal f)) none) (read_aux_facts f u none)

-- whatever is answered, the auxiliary header ends within the bytes
pub aux_within : (f : List ℕ) → Below 256 f → (read_aux f).length ≤ length f
unfolding read_aux
aux_within f u =
    unless_either (λ (r : AuxRead). r.length ≤ length f) (aux_refusal f) (aux_given f) (aux_refused (aux_refusal f))
    (λ e. (read_aux_facts f u e).within) (omega arith)
