-- A value of each claim in specs/PresenceBits.antt.
-- Assumes nothing.
use mathlib.Core.Path.{◌≡◌, refl, sym, ap, ◌∙◌}
use mathlib.Core.Bool.{Bool, true, false, true≢false, false≢true, Bool-discrete}
use mathlib.Core.List.{List, [], ◌++◌}
use mathlib.Core.Logic.{◌↔◌}
use Prim.Native.Nat.{ℕ}
use lib.ListN.{length}
use Rattle.octets.specs.Writing.{Run, written, written_bytes}
use Rattle.octets.proofs.Writing.{write_accepted, written_number, bytes_written_lem}
use Rattle.octets.proofs.Conditions.{unless_either}
use Rattle.types.specs.Optional.{has_ieee}
use Rattle.header.specs.declared.{nwk.NwkHeader.NwkHeader, auxiliary.NwkAuxHeader.NwkAuxHeader}
use Rattle.header.specs.Optional.{has_multicast, has_route}
use Rattle.header.specs.Reading.{HeaderRead, header_refusal, header_given, header_refused, blank_header, read_header}
use Rattle.header.specs.Writing.{header_bytes, header_write_refusal, write_header}
use Rattle.header.specs.Auxiliary.{AuxRead, aux_refusal, aux_given, aux_refused, blank_aux, read_aux}
use Rattle.header.specs.Same.{Agrees, AuxAgrees, agrees, aux_agrees, cleared}
use Rattle.header.specs.PresenceBits.{Disagrees, TestsSay, ReadingAgrees, WrittenReadsBack}
use Rattle.header.specs.PresenceBits.Disagrees.{bit8, bit10, bit11, bit12}
use Rattle.header.proofs.Writable.{header_agrees, aux_test, header_writable}
use Rattle.header.proofs.ReadBack.{read_back, same_cleared}
use Rattle.header.proofs.WriteBack.{read_agrees}
use Rattle.header.proofs.AuxiliaryLaws.{aux_agrees_lem}

-- ---- the tests

-- where a header does not agree, a bit is found that disagrees
found : (h : NwkHeader) → (Agrees h → ⊥) → Disagrees h
found h not-all =
    elim (Bool-discrete h.frame_control.multicast (has_multicast h.multicast_control)) [
      | no m ↦ bit8 m
      | yes m ↦
          elim (Bool-discrete h.frame_control.source_route (has_route h.source_route)) [
            | no r ↦ bit10 r
            | yes r ↦
                elim (Bool-discrete h.frame_control.destination (has_ieee h.destination_ieee)) [
                  | no d ↦ bit11 d
                  | yes d ↦ bit12 (λ s. not-all (record { destination = d; source = s; multicast = m; route = r }))
                ]
          ]
    ]

pub apart : (h : NwkHeader) → Disagrees h → Agrees h → ⊥
apart h (bit8 d) a = d a.multicast
apart h (bit10 d) a = d a.route
apart h (bit11 d) a = d a.destination
apart h (bit12 d) a = d a.source

pub tests_say : TestsSay
tests_say h a = record { header = header_agrees h; auxiliary = aux_test a; disagrees = (found h, apart h) }

-- a test that fails says that the statement does not hold
fails : {P : Type 0} (b : Bool) → ((b ≡ true) ↔ P) → (b ≡ false) ↔ (P → ⊥)
fails true t = (λ e. absurd (true≢false e), λ n. absurd (n (t.0 refl)))
fails false t = (λ e p. false≢true (t.1 p), λ n. refl)

pub header_disagrees : (h : NwkHeader) → (agrees h ≡ false) ↔ Disagrees h
header_disagrees h = (λ e. found h ((fails (agrees h) (header_agrees h)).0 e), λ d. (fails (agrees h) (header_agrees h)).1 (apart h d))

pub aux_disagrees : (a : NwkAuxHeader) → (aux_agrees a ≡ false) ↔ (AuxAgrees a → ⊥)
aux_disagrees a = fails (aux_agrees a) (aux_test a)

-- ---- reading

pub reading_agrees : ReadingAgrees
unfolding read_header read_aux blank_header blank_aux
reading_agrees f = (
  unless_either (λ (r : HeaderRead). Agrees r.header) (header_refusal f) (header_given f) (header_refused (header_refusal f)) (λ e. read_agrees f _) (read_agrees [] _),
  unless_either (λ (r : AuxRead). AuxAgrees r.aux) (aux_refusal f) (aux_given f) (aux_refused (aux_refusal f)) (λ e. aux_agrees_lem f _) (aux_agrees_lem [] _),
)

-- ---- writing, then reading

pub written_reads_back : WrittenReadsBack
unfolding write_header
written_reads_back h o rest fits accepted short =
    let n = header_write_refusal h (length o) in
    let e : n ≡ 0 = sym (written_number n (header_bytes h) o) ∙ accepted in
    let bytes = bytes_written_lem n (header_bytes h) o e in
    let w = header_writable h (length o) e in
    let run : read_header (written_bytes (written n (header_bytes h) o) ++ rest) ≡ record { refusal = 0; length = length (header_bytes h); header = cleared h } =
    ap (λ (bs : List ℕ). read_header (bs ++ rest)) bytes ∙ read_back h rest fits w.fields (rw bytes at short) in
    record {
      accepted = ap (λ (r : HeaderRead). r.refusal) run;
      length = ap (λ (r : HeaderRead). r.length) run ∙ ap (λ (r : Run). r.answer.length) (write_accepted n n (header_bytes h) o refl e);
      header = rw run (same_cleared h w.fields.good);
    }
