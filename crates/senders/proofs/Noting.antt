-- The three cases of noting: a sender that the list names, a new one with a free place, and a new one without.
-- Assumes nothing.
use mathlib.Core.Path.{◌≡◌, refl, ap}
use mathlib.Core.Bool.{Bool, true, false}
use mathlib.Core.List.{List}
use Prim.Native.Nat.{ℕ}
use native.Mathlib.Omega.{arith}
use borrow.Table.Steps.{cases}
use Rattle.octets.specs.Refusals.{unless, first_of}
use Rattle.senders.specs.declared.SenderRecord.{SenderRecord}
use Rattle.senders.specs.Records.{is_free, names, record_of}
use Rattle.senders.specs.Senders.{counted_places, first_replaced, stored, knows, has_free, Noted, Run, note_refusal, note_nothing, note}

-- the parts of what noting leaves
abbrev pub answer : Run → Noted
answer r = r.answer

abbrev pub refusal : Run → ℕ
refusal r = r.answer.refusal

abbrev pub list : Run → List SenderRecord
list r = r.list

-- noting with the counter c, the record put over the first that meets p
abbrev pub placing : (SenderRecord → Bool) → ℕ → ℕ → List SenderRecord → Run
placing p s c l = record { answer = record { refusal = 0; earlier = stored s l }; list = first_replaced p (record_of s c) counted_places l }

module _ (s c : ℕ) (l : List SenderRecord) where
  pub note_known : knows s l ≡ true → note s c l ≡ placing (names s) s c l
  unfolding note note_refusal first_of unless
  note_known k = rw k refl

  pub note_new : knows s l ≡ false → has_free l ≡ true → note s c l ≡ placing is_free s c l
  unfolding note note_refusal first_of unless
  note_new k h = rw (k, h) refl

  pub note_full : knows s l ≡ false → has_free l ≡ false → note s c l ≡ note_nothing 24 l
  unfolding note note_refusal first_of unless
  note_full k h = rw (k, h) refl

  -- the third is refused
  pub not_full : (note s c l).answer.refusal ≡ 0 → knows s l ≡ false → has_free l ≡ false → ⊥
  not_full ok k h = omega (arith, ok, ap refusal (note_full k h))

-- what holds in each case holds
pub note_cases : (s : ℕ) (l : List SenderRecord) {X : Type 0} → (knows s l ≡ true → X) → (knows s l ≡ false → has_free l ≡ true → X)
    → (knows s l ≡ false → has_free l ≡ false → X) → X
note_cases s l known new full = cases (knows s l) known (λ k. cases (has_free l) (new k) (full k))
