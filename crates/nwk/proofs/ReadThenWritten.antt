-- Writing the record of a header, or of an auxiliary header, that was read is refused by nothing but 18: what was read is
-- within its types' ranges, so that the record says it again, and it meets every other condition of writing. (For commands
-- see the file of this name in command_records.)
-- Assumes nothing.
use mathlib.Core.Path.{◌≡◌, sym, ap, ◌∙◌}
use mathlib.Core.Bool.{true, not}
use mathlib.Core.List.{List, [], ◌∷◌}
use Prim.Native.Nat.{ℕ, ◌≤◌}
use native.Mathlib.Omega.{arith}
use borrow.Author.Tests.{le-ltb}
use lib.Dec.{ltb}
use lib.ListN.{length}
use lib.Seq.{length-take-le}
use Rattle.octets.specs.Strings.{Below}
use Rattle.octets.specs.Refusals.{on, first_of}
use Rattle.octets.proofs.Conditions.{skip, skip_by}
use Rattle.header.specs.declared.{nwk.NwkHeader.NwkHeader, auxiliary.NwkAuxHeader.NwkAuxHeader}
use Rattle.header.specs.Reading.{read_header}
use Rattle.header.specs.Writing.{header_bytes, field_refusal, header_write_refusal}
use Rattle.header.specs.Auxiliary.{read_aux, aux_write_refusal}
use Rattle.header.proofs.ReadFacts.{header_facts, aux_facts}
use Rattle.header.proofs.Writable.{fields_accepted}
use Rattle.records.specs.HeaderRecord.{header_record}
use Rattle.records.specs.AuxiliaryRecord.{aux_record}
use Rattle.records.proofs.RoundTrip.{header_back, aux_back, present_back}
use Rattle.records.proofs.Accepted.{read_header_taken, aux_taken}
use Rattle.nwk.specs.Headers.{write_header_refusal, write_aux_refusal}
use Rattle.nwk.proofs.Refusals.{single}

pub header_record_read_is_refused_by_18_alone : (f : List ℕ) (room : ℕ) → Below 256 f → (read_header f).refusal ≡ 0
    → write_header_refusal (header_record (read_header f).header) room ≡ first_of (on 18 (ltb room (read_header f).length) ∷ [])
unfolding write_header_refusal header_write_refusal
header_record_read_is_refused_by_18_alone f room u e =
    let h = (read_header f).header in
    let facts = header_facts f u e in
    let size : length (header_bytes h) ≡ (read_header f).length = ap length facts.bytes ∙ length-take-le _ f facts.within in
    let short : length (header_bytes h) ≤ 118 = omega (arith, size, facts.within, facts.short) in
    skip 13 _ _ (read_header_taken f u e) ∙ sym (single _)
    ∙ ap (λ (k : NwkHeader). header_write_refusal k room) (header_back h facts.fits facts.places)
    ∙ skip_by (field_refusal h) _ (fields_accepted h facts.fields) ∙ skip 17 _ _ (le-ltb 118 (length (header_bytes h)) short)
    ∙ ap (λ (n : ℕ). first_of (on 18 (ltb room n) ∷ [])) size

pub aux_record_read_is_refused_by_18_alone : (f : List ℕ) (room : ℕ) → Below 256 f → (read_aux f).refusal ≡ 0
    → write_aux_refusal (aux_record true (read_aux f).aux) room ≡ first_of (on 18 (ltb room (read_aux f).length) ∷ [])
unfolding write_aux_refusal aux_write_refusal
aux_record_read_is_refused_by_18_alone f room u e =
    let a = (read_aux f).aux in
    let facts = aux_facts f u e in
    skip 13 _ _ (aux_taken true a) ∙ skip 13 _ _ (ap not (present_back true a)) ∙ sym (single _)
    ∙ ap (λ (k : NwkAuxHeader). aux_write_refusal k room) (aux_back true a facts.fits)
    ∙ ap (λ (n : ℕ). first_of (on 18 (ltb room n) ∷ [])) facts.size
