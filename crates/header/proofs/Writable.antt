-- What a header meets that writing does not refuse.
-- Assumes nothing.
use mathlib.Core.Path.{◌≡◌, refl, ap}
use mathlib.Core.Bool.{Bool, beq, true, false, true≢false, false≢true, not, and-eq-true_iff}
use mathlib.Core.Logic.{◌↔◌}
use Prim.Native.Nat.{ℕ, ◌≤◌, ◌<◌}
use native.Mathlib.Omega.{arith}
use lib.ListN.{length}
use lib.Dec.{ltb}
use borrow.Author.Tests.{ltb-false, not-false}
use Rattle.octets.proofs.Conditions.{none, none_refuse, or_false}
use Rattle.types.specs.Optional.{has_ieee}
use Rattle.header.specs.declared.{nwk.NwkHeader.NwkHeader, auxiliary.NwkAuxHeader.NwkAuxHeader}
use Rattle.header.specs.Optional.{relay_count}
use Rattle.header.specs.Writing.{header_bytes, bad_control, bad_header, field_refusal, header_write_refusal}
use Rattle.header.specs.Same.{Agrees, AuxAgrees, agrees, aux_agrees}

-- ---- the presence bits

same_bit : (a b : Bool) → (beq a b ≡ true) ↔ (a ≡ b)
same_bit true true = (λ e. refl, λ e. refl)
same_bit true false = (λ e. absurd (false≢true e), λ e. absurd (true≢false e))
same_bit false true = (λ e. absurd (false≢true e), λ e. absurd (false≢true e))
same_bit false false = (λ e. refl, λ e. refl)

-- the test of a header says that it agrees
pub header_agrees : (h : NwkHeader) → (agrees h ≡ true) ↔ Agrees h
unfolding agrees
header_agrees h = (
  λ e.
      let both = (and-eq-true_iff _ _).0 e in
      let ieees = (and-eq-true_iff _ _).0 both.0 in
      let others = (and-eq-true_iff _ _).0 both.1 in
      record {
        destination = (same_bit _ _).0 ieees.0;
        source = (same_bit _ _).0 ieees.1;
        multicast = (same_bit _ _).0 others.0;
        route = (same_bit _ _).0 others.1;
      },
  λ a.
      (and-eq-true_iff _ _).1 (
        (and-eq-true_iff _ _).1 ((same_bit _ _).1 a.destination, (same_bit _ _).1 a.source),
        (and-eq-true_iff _ _).1 ((same_bit _ _).1 a.multicast, (same_bit _ _).1 a.route),
      ),
)

pub aux_test : (a : NwkAuxHeader) → (aux_agrees a ≡ true) ↔ AuxAgrees a
unfolding aux_agrees
aux_test a = same_bit a.security_control.extended_nonce (has_ieee a.extended_source)

-- ---- the fields

-- what a header has that neither 13 nor 28 refuses
pub record FieldsGood (h : NwkHeader) : Type 0 where
  pub good : bad_header h ≡ false
  pub agree : Agrees h

pub fields_good : (h : NwkHeader) → field_refusal h ≡ 0 → FieldsGood h
unfolding field_refusal
fields_good h e =
    let n = none _ e in
    record { good = n.0; agree = (header_agrees h).0 (not-false (agrees h) n.1.0) }

pub fields_accepted : (h : NwkHeader) → FieldsGood h → field_refusal h ≡ 0
unfolding field_refusal
fields_accepted h g = none_refuse _ (g.good, (ap not ((header_agrees h).1 g.agree), tt))

pub record Writable (h : NwkHeader) (room : ℕ) : Type 0 where
  pub fields : FieldsGood h
  pub short : length (header_bytes h) ≤ 118
  pub fits : length (header_bytes h) ≤ room

pub header_writable : (h : NwkHeader) (room : ℕ) → header_write_refusal h room ≡ 0 → Writable h room
unfolding header_write_refusal
header_writable h room e =
    let n = none _ e in
    record {
      fields = fields_good h n.0;
      short = ltb-false 118 (length (header_bytes h)) n.1.0;
      fits = ltb-false room (length (header_bytes h)) n.1.1.0;
    }

-- what a header has that refusal 13 does not meet
pub record Good (h : NwkHeader) : Type 0 where
  pub version : h.frame_control.protocol_version < 16
  pub kept : h.frame_control.reserved1 < 4
  pub relays : relay_count h.source_route ≤ 54

pub header_good : (h : NwkHeader) → bad_header h ≡ false → Good h
unfolding bad_header bad_control
header_good h e =
    let s1 = or_false (bad_control h.frame_control) (ltb 54 (relay_count h.source_route)) e in
    let s2 = or_false (ltb 15 h.frame_control.protocol_version) (ltb 3 h.frame_control.reserved1) s1.0 in
    let version = ltb-false 15 h.frame_control.protocol_version s2.0 in
    let kept = ltb-false 3 h.frame_control.reserved1 s2.1 in
    record {
      version = omega arith;
      kept = omega arith;
      relays = ltb-false 54 (relay_count h.source_route) s1.1;
    }
