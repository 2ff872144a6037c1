-- A value of each claim in specs/LastCounter.antt.
-- Assumes nothing.
use Rattle.std.specs.Prelude.{Option, Some, None}
use mathlib.Core.Path.{◌≡◌, refl, sym, ap, ◌∙◌}
use mathlib.Core.Bool.{Bool, true, false}
use mathlib.Core.List.{List, [], ◌∷◌}
use mathlib.Core.Logic.{⊎_elim}
use Prim.Native.Nat.{ℕ, zero, suc}
use native.Mathlib.Omega.{arith}
use borrow.Author.Tests.{eq-eqb, ne_eqb, eqb-true, eqb-false}
use lib.Dec.{eqb}
use lib.ListN.{length}
use Rattle.octets.specs.Numbers.{le_at}
use Rattle.octets.specs.Refusals.{unless, Condition, on, by, first_of}
use Rattle.octets.proofs.Conditions.{none, gives, skip, stop_by, skip_by}
use Rattle.types.specs.declared.level.Level.{Level}
use Rattle.types.specs.Levels.{is_other}
use Rattle.types.specs.Counters.{last_counter}
use Rattle.header.specs.declared.{auxiliary.NwkAuxHeader.NwkAuxHeader, nwk.NwkHeader.NwkHeader}
use Rattle.header.specs.Reading.{read_header}
use Rattle.header.specs.Auxiliary.{aux_by, blank_aux}
use Rattle.header.specs.Writing.{field_refusal}
use Rattle.frame.specs.Reading.{aux_behind}
use Rattle.frame.specs.Writing.{length_refusals}
use Rattle.frame.specs.Security.{or_blank}
use Rattle.frame.specs.Sealing.{sealed_bytes, headers_refusal, seal_refusals, counter_of, seal_refusal, seal_nothing, seal_by, seal_frame}
use Rattle.frame.specs.Opening as opening
use Rattle.frame.specs.LastCounter.{seal_without21, SealableCounters, NothingElseChanged, LastRefused, OnlyTheLast, StillOpened, LeftOut}
use Rattle.frame.proofs.Accepted.{headers_accepted, sealable, seal_refused_lem, sealed_number, bytes_sealed_lem}
use Rattle.frame.proofs.SecondHalf.{secured_facts, good_again}
use Rattle.frame.proofs.SealingLaw.{seal_number, seal_able, opened_again, opened_sealed, opened_run}

-- ---- other counters

pub sealable_counters : SealableCounters
unfolding le_at aux_by blank_aux
sealable_counters l key h None p o fits accepted =
    let blank : counter_of None ≡ 0 = refl in
    omega arith
sealable_counters l key h (Some x) p o fits accepted =
    let s = seal_able l h (Some x) (length p) (length o) (sym (seal_number l key h (Some x) p o) ∙ accepted) in
    omega (arith, fits.counter, eqb-false x.frame_counter last_counter s.counter)

-- the run by whether the counter is the last one
by_counter : (l : Level) (key : List ℕ) (h : NwkHeader) (a : Option NwkAuxHeader) (p o : List ℕ) (b : Bool) → eqb (counter_of a) last_counter ≡ b
    → seal_frame l key h a p o ≡ seal_by (first_of (seal_refusals b l h a (length p) (length o))) (sealed_bytes l key h (or_blank a) p) o
unfolding seal_frame seal_refusal
by_counter l key h a p o b e =
    ap (λ (x : Bool). seal_by (first_of (seal_refusals x l h a (length p) (length o))) (sealed_bytes l key h (or_blank a) p) o) e

pub nothing_else_changed : NothingElseChanged
unfolding seal_without21
nothing_else_changed l key h a p o other = by_counter l key h a p o false (ne_eqb (counter_of a) last_counter other)

-- ---- the last one

-- what stands behind 21 does not count
number_21 : (other : Bool) (n : ℕ) (cs : List Condition) → first_of (on 29 other ∷ by n ∷ by 21 ∷ []) ≡ first_of (on 29 other ∷ by n ∷ on 21 true ∷ cs)
unfolding first_of unless
number_21 true n cs = refl
number_21 false zero cs = refl
number_21 false (suc n) cs = refl

pub last_refused : LastRefused
unfolding seal_refusals
last_refused l key h a p o last =
    by_counter l key h a p o true (eq-eqb (counter_of a) last_counter last)
    ∙ sym (seal_refused_lem _ _ o _ (number_21 (is_other l) (headers_refusal h a) _)
    (λ z. omega (arith, (none (on 29 (is_other l) ∷ by (headers_refusal h a) ∷ by 21 ∷ []) z).1.1.0)))

headers_never : (h : NwkHeader) (a : Option NwkAuxHeader) → headers_refusal h a ≡ 21 → ⊥
unfolding headers_refusal field_refusal
headers_never h a e = ⊎_elim (gives 21 _ (λ z. omega arith)) (λ z. z) (gives 21 _ (λ z. omega arith) e)

pub only_the_last : OnlyTheLast
unfolding seal_refusal seal_refusals length_refusals
only_the_last l key h a p o e =
    ⊎_elim (λ k. absurd (headers_never h a k)) (⊎_elim (eqb-true (counter_of a) last_counter) (λ z. absurd z))
    (gives 21 _ (λ z. omega arith) (sym (seal_number l key h a p o) ∙ e))

-- ---- opening

pub still_opened : StillOpened
unfolding seal_without21
still_opened l key h a p out out₂ fits accepted within =
    let e = sym (sealed_number _ _ out) ∙ accepted in
    rw (bytes_sealed_lem _ (sealed_bytes l key h (or_blank a) p) out e)
    (opened_again l key h a p false (length out) out₂ fits (sealable false l h a (length p) (length out) e) within)

-- ---- sealing afresh

pub left_out : LeftOut
left_out l key f out out₂ bytes marked last =
    let w = opened_sealed l key f out marked in
    let s = secured_facts f w.reads w.on in
    let run = opened_run l key f out w s in
    let h = (read_header f).header in
    let x = Some (aux_behind f (read_header f)).aux in
    let good = headers_accepted h x (good_again f bytes s (rw s.read at w.on) (rw s.read at w.ieee)) in
    rw run (last_refused l key h x _ out₂ (sym (ap (λ (r : opening.Run). counter_of r.answer.aux) run) ∙ last)
    ∙ ap (λ (n : ℕ). seal_nothing n out₂) (skip 29 _ _ w.level ∙ skip_by _ _ good ∙ stop_by 21 [] (λ z. omega arith)))
