-- The values of a journal's records, and of the state that they make, are in their ranges. Assumes nothing.
use mathlib.Core.Bool.{◌&&◌}
use mathlib.Core.List.{List, [], ◌∷◌, ◌++◌}
use Prim.Native.Nat.{ℕ, zero, suc, ◌^◌, ◌<◌}
use native.Mathlib.Omega.{arith}
use lib.Dec.{eqb, leb, ltb}
use lib.ListN.{length}
use borrow.Table.Steps.{cases}
use Rattle.octets.specs.Strings.{Below}
use Rattle.octets.proofs.Numbers.{le_at_lt}
use Rattle.senders.specs.declared.SenderRecord.{SenderRecord}
use Rattle.senders.specs.Records.{record_of}
use Rattle.journal.specs.declared.format.JournalRecord.{JournalRecord}
use Rattle.journal.specs.Format.{is_kind, body_length, record_at, records_from, records}
use Rattle.journal.specs.Recovery.{State, blank, noted, ceiling_after, key_number_after, senders_after, applied, applied_all, state_of}
use Rattle.journal.specs.Shrinking.{sorted, key_number_records, ceiling_records, sender_records, shrunk_records}
use Rattle.journal.specs.Claims.{Fits}
use Rattle.journal.specs.ShrinkingClaims.{Each}
use Rattle.journal.proofs.Sorting.{InRange, each_sorted}

-- ---- the records

abbrev pub AllFit : List JournalRecord → Type 0
AllFit [] = Unit {0}
AllFit (r ∷ rs) = Fits r × AllFit rs

record_fits : (k : ℕ) (l : List ℕ) → Below 256 (k ∷ l) → Fits (record_at (k ∷ l) 0)
unfolding record_at
record_fits k l b =
    cases (eqb k 1) (λ e. rw e (le_at_lt 4 (k ∷ l) 1 b))
    (λ e. rw e (cases (eqb k 2) (λ f. rw f (le_at_lt 8 (k ∷ l) 1 b, le_at_lt 4 (k ∷ l) 9 b)) (λ f. rw f (b 1))))

records_fit : (n : ℕ) (l : List ℕ) → Below 256 l → AllFit (records_from n l)
unfolding records_from
records_fit zero [] b = tt
records_fit zero (k ∷ l) b =
    cases (is_kind k && leb (body_length k) (length l)) (λ e. rw e (record_fits k l b, records_fit (body_length k) l (λ i. b (suc i)))) (λ e. rw e tt)
records_fit (suc n) [] b = tt
records_fit (suc n) (x ∷ l) b = records_fit n l (λ i. b (suc i))

-- ---- the state

pub record StateFits (g : State) : Type 0 where
  pub ceiling : g.ceiling < 2 ^ 32
  pub key_number : AllFit (key_number_records g.key_number)
  pub senders : Each InRange g.senders

each_noted : (s c : ℕ) (l : List SenderRecord) → InRange (record_of s c) → Each InRange l → Each InRange (noted s c l)
unfolding noted
each_noted s c [] p e = (p, tt)
each_noted s c (r ∷ l) p e = cases (eqb r.address s) (λ f. rw f (p, e.1)) (λ f. rw f (e.0, each_noted s c l p e.1))

one_fits : (r : JournalRecord) (g : State) → Fits r → StateFits g → StateFits (applied r g)
unfolding ceiling_after key_number_after senders_after key_number_records
one_fits (JournalRecord.Ceiling c) g f h =
    record {
      ceiling = cases (ltb g.ceiling c) (λ e. rw e f) (λ e. rw e h.ceiling);
      key_number = h.key_number;
      senders = h.senders;
    }
one_fits (JournalRecord.Sender s c) g f h =
    record { ceiling = h.ceiling; key_number = h.key_number; senders = each_noted s c g.senders f h.senders }
one_fits (JournalRecord.KeyNumber k) g f h = record { ceiling = h.ceiling; key_number = (f, tt); senders = h.senders }

all_fit : (rs : List JournalRecord) (g : State) → AllFit rs → StateFits g → StateFits (applied_all rs g)
unfolding applied_all
all_fit [] g f h = h
all_fit (r ∷ rs) g f h = all_fit rs (applied r g) f.1 (one_fits r g f.0 h)

pub state_fits : (j : List ℕ) → Below 256 j → StateFits (state_of j)
unfolding state_of key_number_records
state_fits j b = all_fit (records j) blank (records_fit 0 j b) (record { ceiling = omega arith; key_number = tt; senders = tt })

-- ---- what is written of it

append_fits : (rs qs : List JournalRecord) → AllFit rs → AllFit qs → AllFit (rs ++ qs)
append_fits [] qs f g = g
append_fits (r ∷ rs) qs f g = (f.0, append_fits rs qs f.1 g)

ceiling_fits : (c : ℕ) → c < 2 ^ 32 → AllFit (ceiling_records c)
unfolding ceiling_records
ceiling_fits c h = cases (eqb c 0) (λ e. rw e tt) (λ e. rw e (h, tt))

senders_fit : (l : List SenderRecord) → Each InRange l → AllFit (sender_records l)
unfolding sender_records
senders_fit [] e = tt
senders_fit (r ∷ l) e = (e.0, senders_fit l e.1)

pub shrunk_fits : (g : State) → StateFits g → AllFit (shrunk_records g)
shrunk_fits g h =
    append_fits (key_number_records g.key_number) _ h.key_number
    (append_fits (ceiling_records g.ceiling) _ (ceiling_fits g.ceiling h.ceiling) (senders_fit (sorted g.senders) (each_sorted InRange g.senders h.senders)))
