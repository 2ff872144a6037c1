-- A value of each claim in specs/PresenceBits.antt.
-- Assumes nothing.
use Rattle.std.specs.Prelude.{Option, Some, None}
use mathlib.Core.Path.{◌≡◌, refl, sym, ap, subst, ◌∙◌}
use mathlib.Core.Bool.{Bool, true, false, not, true≢false}
use mathlib.Core.List.{List, [], ◌∷◌}
use mathlib.Core.Logic.{◌↔◌, ◌⊎◌, inl, inr}
use Prim.Native.Nat.{ℕ, zero, suc, ◌+◌}
use native.Mathlib.Omega.{arith}
use lib.ListN.{length, drop}
use lib.Dec.{ltb}
use Rattle.octets.specs.Refusals.{unless, Condition, on, by, first_of}
use Rattle.octets.specs.Writing.{written}
use Rattle.octets.proofs.Conditions.{gives, unless_either}
use Rattle.octets.proofs.Writing.{written_number}
use Rattle.types.specs.declared.level.Level.{Level}
use Rattle.types.specs.Levels.{is_other}
use Rattle.header.specs.declared.{auxiliary.NwkAuxHeader.NwkAuxHeader, nwk.NwkHeader.NwkHeader}
use Rattle.header.specs.Reading.{blank_header, read_header}
use Rattle.header.specs.Writing.{header_bytes, bad_header, field_refusal, header_write_refusal, write_header}
use Rattle.header.specs.Same.{Agrees, AuxAgrees, agrees, aux_agrees}
use Rattle.header.specs.PresenceBits.{Disagrees}
use Rattle.header.proofs.WriteBack.{read_agrees}
use Rattle.header.proofs.PresenceBits.{apart, header_disagrees, aux_disagrees, reading_agrees}
use Rattle.frame.specs.Reading.{FrameRead, secured, aux_if, aux_behind, frame_refused, frame_given, frame_number, frame_by, read_frame}
use Rattle.frame.specs.Writing.{frame_bytes, length_refusals, frame_write_refusal, write_frame}
use Rattle.frame.specs.Security.{is_absent, or_blank, no_ieee}
use Rattle.frame.specs.Sealing.{sealed_bytes, headers_refusal, seal_refusals, seal_refusal, seal_by, seal_frame}
use Rattle.frame.specs.Opening.{is_sealed}
use Rattle.frame.specs.PresenceBits.{SealingDisagrees, TwentyEightExactly, OthersAsBefore, AuxOptionAgrees, SealingEnsures, ReadIsNeverBy28, write_header_before, write_frame_before, seal_before}
use Rattle.frame.specs.PresenceBits.SealingDisagrees.{header, bit9, nonce}
use Rattle.frame.proofs.SealingLaw.{seal_number, seal_able}

-- ---- the lists by the values of their conditions

-- the list of the fields, and that of the two headers
abbrev field_list : Bool → Bool → List Condition
field_list bad ok = on 13 bad ∷ on 28 (not ok) ∷ []

abbrev header_list : Bool → Bool → Bool → Bool → Bool → Bool → List Condition
header_list bad ok secured absent nonced lone =
    by (first_of (field_list bad ok)) ∷ on 28 (not secured) ∷ on 14 absent ∷ on 28 (not nonced) ∷ on 15 lone ∷ []

field_28 : (bad ok : Bool) → (first_of (field_list bad ok) ≡ 28) ↔ ((bad ≡ false) × (ok ≡ false))
unfolding first_of
field_28 true ok = (λ e. absurd (omega arith), λ e. absurd (true≢false e.0))
field_28 false true = (λ e. absurd (omega arith), λ e. absurd (true≢false e.1))
field_28 false false = (λ e. (refl, refl), λ e. refl)

-- which of the conditions with this number holds
abbrev Which : Bool → Bool → Bool → Bool → Type 0
Which ok secured absent nonced = (ok ≡ false) ⊎ ((secured ≡ false) ⊎ ((absent ≡ false) × (nonced ≡ false)))

-- none does where the header's bits agree, bit 9 is set, and the extended nonce bit is not looked at or agrees
settled : (absent nonced : Bool) → (absent ≡ false → nonced ≡ false → ⊥) → Which true true absent nonced → ⊥
settled absent nonced h (inl e) = true≢false e
settled absent nonced h (inr (inl e)) = true≢false e
settled absent nonced h (inr (inr e)) = h e.0 e.1

header_28 : (bad ok secured absent nonced lone : Bool)
    → (first_of (header_list bad ok secured absent nonced lone) ≡ 28) ↔ ((bad ≡ false) × Which ok secured absent nonced)
unfolding first_of unless
header_28 true ok secured absent nonced lone = (λ e. absurd (omega arith), λ e. absurd (true≢false e.0))
header_28 false false secured absent nonced lone = (λ e. (refl, inl refl), λ e. refl)
header_28 false true false absent nonced lone = (λ e. (refl, inr (inl refl)), λ e. refl)
header_28 false true true true nonced lone = (λ e. absurd (omega arith), λ e. absurd (settled true nonced (λ a n. true≢false a) e.1))
header_28 false true true false false lone = (λ e. (refl, inr (inr (refl, refl))), λ e. refl)
header_28 false true true false true true = (λ e. absurd (omega arith), λ e. absurd (settled false true (λ a n. true≢false n) e.1))
header_28 false true true false true false = (λ e. absurd (omega arith), λ e. absurd (settled false true (λ a n. true≢false n) e.1))

-- a list whose rest never gives 28 gives it where its first number is 28
first_28 : (n : ℕ) (cs : List Condition) → (first_of cs ≡ 28 → ⊥) → (first_of (by n ∷ cs) ≡ 28) ↔ (n ≡ 28)
unfolding first_of unless
first_28 zero cs never = (λ e. absurd (never e), λ e. absurd (omega arith))
first_28 (suc n) cs never = (λ e. e, λ e. e)

-- and behind 29, where the level is not another
behind_29 : (other : Bool) (cs : List Condition) → (first_of (on 29 other ∷ cs) ≡ 28) ↔ ((other ≡ false) × (first_of cs ≡ 28))
unfolding first_of
behind_29 true cs = (λ e. absurd (omega arith), λ e. absurd (true≢false e.0))
behind_29 false cs = (λ e. (refl, e), λ e. e.1)

not_0 : ◌≡◌ {A = ℕ} 28 0 → ⊥
not_0 e = omega arith

lengths_never : (n whole room : ℕ) → first_of (length_refusals n whole room) ≡ 28 → ⊥
unfolding length_refusals
lengths_never n whole room e = gives 28 _ not_0 e

-- ---- 28, exactly

-- sealing's conditions, as tests and as the bits
bits : (h : NwkHeader) (a : Option NwkAuxHeader) → Which (agrees h) h.frame_control.security (is_absent a) (aux_agrees (or_blank a)) → SealingDisagrees h a
bits h a (inl e) = header ((header_disagrees h).0 e)
bits h a (inr (inl e)) = bit9 e
bits h None (inr (inr e)) = absurd (true≢false e.0)
bits h (Some x) (inr (inr e)) = nonce x refl ((aux_disagrees x).0 e.1)

tests : (h : NwkHeader) (a : Option NwkAuxHeader) → SealingDisagrees h a → Which (agrees h) h.frame_control.security (is_absent a) (aux_agrees (or_blank a))
tests h a (header d) = inl ((header_disagrees h).1 d)
tests h a (bit9 e) = inr (inl e)
tests h a (nonce x e d) = inr (inr (ap is_absent e, ap (λ (o : Option NwkAuxHeader). aux_agrees (or_blank o)) e ∙ (aux_disagrees x).1 d))

-- a writer whose list begins with the fields' number
writer_28 : (h : NwkHeader) (cs : List Condition) → (first_of cs ≡ 28 → ⊥) → (first_of (by (field_refusal h) ∷ cs) ≡ 28) ↔ ((bad_header h ≡ false) × Disagrees h)
unfolding field_refusal
writer_28 h cs never =
    let whole = first_28 (first_of (field_list (bad_header h) (agrees h))) cs never in
    let fields = field_28 (bad_header h) (agrees h) in
    let bits = header_disagrees h in (
      λ e.
          let f = fields.0 (whole.0 e) in
          (f.0, bits.0 f.1),
      λ d. whole.1 (fields.1 (d.0, bits.1 d.1)),
    )

header_exactly : (h : NwkHeader) (o : List ℕ) → ((write_header h o).answer.refusal ≡ 28) ↔ ((bad_header h ≡ false) × Disagrees h)
unfolding write_header header_write_refusal
header_exactly h o =
    let w = writer_28 h (on 17 (ltb 118 (length (header_bytes h))) ∷ on 18 (ltb (length o) (length (header_bytes h))) ∷ []) (λ e. gives 28 _ not_0 e) in
    let number = written_number _ (header_bytes h) o in
    (λ e. w.0 (sym number ∙ e), λ d. number ∙ w.1 d)

frame_exactly : (h : NwkHeader) (p o : List ℕ) → ((write_frame h p o).answer.refusal ≡ 28) ↔ ((bad_header h ≡ false) × Disagrees h)
unfolding write_frame frame_write_refusal
frame_exactly h p o =
    let w = writer_28 h _ (lengths_never (length p) (length (header_bytes h) + length p) (length o)) in
    let number = written_number _ (frame_bytes h p) o in
    (λ e. w.0 (sym number ∙ e), λ d. number ∙ w.1 d)

pub sealed_exactly : (l : Level) (key : List ℕ) (h : NwkHeader) (a : Option NwkAuxHeader) (p o : List ℕ)
    → ((seal_frame l key h a p o).answer.refusal ≡ 28) ↔ ((is_other l ≡ false) × (bad_header h ≡ false) × SealingDisagrees h a)
unfolding seal_refusal seal_refusals headers_refusal field_refusal length_refusals
sealed_exactly l key h a p o =
    let level = behind_29 (is_other l) _ in
    let whole = first_28 (headers_refusal h a) _ (λ e. gives 28 _ not_0 e) in
    let headers = header_28 (bad_header h) (agrees h) h.frame_control.security (is_absent a) (aux_agrees (or_blank a)) (no_ieee h (or_blank a)) in
    let number = seal_number l key h a p o in (
      λ e.
          let g = level.0 (sym number ∙ e) in
          let f = headers.0 (whole.0 g.1) in
          (g.0, f.0, bits h a f.1),
      λ d. number ∙ level.1 (d.0, whole.1 (headers.1 (d.1, tests h a d.2))),
    )

pub twenty_eight_exactly : TwentyEightExactly
twenty_eight_exactly l key h a p o = record { header = header_exactly h o; frame = frame_exactly h p o; sealed = sealed_exactly l key h a p o }

-- ---- every other answer

writer_before : (bad ok : Bool) (cs : List Condition) → (first_of (by (first_of (field_list bad ok)) ∷ cs) ≡ 28 → ⊥)
    → first_of (by (first_of (field_list bad ok)) ∷ cs) ≡ first_of (on 13 bad ∷ cs)
unfolding first_of unless
writer_before true ok cs other = refl
writer_before false true cs other = refl
writer_before false false cs other = absurd (other refl)

seal_before_lem : (other bad ok secured absent nonced lone : Bool) (cs : List Condition)
    → (first_of (on 29 other ∷ by (first_of (header_list bad ok secured absent nonced lone)) ∷ cs) ≡ 28 → ⊥)
    → first_of (on 29 other ∷ by (first_of (header_list bad ok secured absent nonced lone)) ∷ cs) ≡ first_of (on 29 other ∷ on 13 bad ∷ on 14 absent ∷ on 15 lone ∷ cs)
unfolding first_of unless
seal_before_lem true bad ok secured absent nonced lone cs away = refl
seal_before_lem false true ok secured absent nonced lone cs other = refl
seal_before_lem false false false secured absent nonced lone cs other = absurd (other refl)
seal_before_lem false false true false absent nonced lone cs other = absurd (other refl)
seal_before_lem false false true true true nonced lone cs other = refl
seal_before_lem false false true true false false lone cs other = absurd (other refl)
seal_before_lem false false true true false true true cs other = refl
seal_before_lem false false true true false true false cs other = refl

pub others_as_before : OthersAsBefore
unfolding write_header header_write_refusal write_header_before write_frame frame_write_refusal write_frame_before seal_frame seal_refusal seal_refusals headers_refusal seal_before field_refusal
others_as_before l key h a p o =
    record {
      header = λ other.
          ap (λ (n : ℕ). written n (header_bytes h) o) (writer_before (bad_header h) (agrees h) _ (λ z. other (written_number _ (header_bytes h) o ∙ z)));
      frame = λ other.
          ap (λ (n : ℕ). written n (frame_bytes h p) o) (writer_before (bad_header h) (agrees h) _ (λ z. other (written_number _ (frame_bytes h p) o ∙ z)));
      sealed = λ other.
          ap (λ (n : ℕ). seal_by n (sealed_bytes l key h (or_blank a) p) o)
          (seal_before_lem (is_other l) (bad_header h) (agrees h) h.frame_control.security (is_absent a) (aux_agrees (or_blank a)) (no_ieee h (or_blank a)) _
          (λ z. other (seal_number l key h a p o ∙ z)));
    }

-- ---- what sealing ensures

nonce_agrees : (a : Option NwkAuxHeader) → AuxAgrees (or_blank a) → AuxOptionAgrees a
nonce_agrees None e = tt
nonce_agrees (Some x) e = e

pub sealing_ensures : SealingEnsures
sealing_ensures l key h a p o accepted =
    let good = (seal_able l h a (length p) (length o) (sym (seal_number l key h a p o) ∙ accepted)).headers in
    record { security = good.secured; header = good.fields.agree; auxiliary = nonce_agrees a good.nonce }

-- ---- what was read

frame_agrees : (f : List ℕ) → Agrees (read_frame f).header
unfolding read_frame frame_by frame_refused blank_header
frame_agrees f =
    let h = read_header f in
    let a = aux_behind f h in
    unless_either (λ (r : FrameRead). Agrees r.header) (frame_number f h a) (frame_given h a) (frame_refused (frame_number f h a)) (λ e. (reading_agrees f).0)
    (read_agrees [] _)

given_agrees : (secured : Bool) (a : NwkAuxHeader) → AuxAgrees a → AuxOptionAgrees (aux_if secured a)
given_agrees true a e = e
given_agrees false a e = tt

aux_agrees_lem : (f : List ℕ) → AuxOptionAgrees (read_frame f).aux
unfolding read_frame frame_by frame_refused
aux_agrees_lem f =
    let h = read_header f in
    let a = aux_behind f h in
    unless_either (λ (r : FrameRead). AuxOptionAgrees r.aux) (frame_number f h a) (frame_given h a) (frame_refused (frame_number f h a))
    (λ e. given_agrees (secured h) a.aux (reading_agrees (drop h.length f)).1) tt

reads_none : (f : List ℕ) → is_sealed (read_frame f).header ≡ true → SealingDisagrees (read_frame f).header (read_frame f).aux → ⊥
reads_none f set (header d) = apart _ d (frame_agrees f)
reads_none f set (bit9 e) = true≢false (sym set ∙ e)
reads_none f set (nonce x e d) = d (subst AuxOptionAgrees e (aux_agrees_lem f))

pub read_is_never_by_28 : ReadIsNeverBy28
read_is_never_by_28 l key f p o =
    record {
      header = λ e. apart _ ((header_exactly (read_header f).header o).0 e).1 (reading_agrees f).0;
      frame = λ e. apart _ ((frame_exactly (read_frame f).header p o).0 e).1 (frame_agrees f);
      sealed = λ set e. reads_none f set ((sealed_exactly l key (read_frame f).header (read_frame f).aux p o).0 e).2;
    }
