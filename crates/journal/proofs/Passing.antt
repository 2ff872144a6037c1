-- One pass over a journal gathers its state: what was gathered before a place, with the records from there on applied, is the state
-- of the whole. Assumes nothing.
use Rattle.std.specs.Prelude.{Option, Some, None, Ok, Err, IfSome}
use Rattle.std.proofs.Common.{◌≡◌, refl, sym, ap, ◌∙◌, true, false, List, [], ℕ, ◌+◌, ◌-◌, ◌≤◌, max, leb, length, drop, arith, length-drop}
use Rattle.std.proofs.lemmas.Bool.Decides.{nat_tests}
use borrow.Author.Tests.{leb-true, leb-false, le-leb, lt-leb}
use borrow.Table.Steps.{cases}
use Rattle.octets.specs.declared.refusals.Refusal.{Refusal}
use Rattle.senders.specs.declared.SenderRecord.{SenderRecord}
use Rattle.journal.specs.declared.{format.JournalRecord.JournalRecord}
use Rattle.journal.specs.Format.{record_bytes, records, unknown_kind, total_length, complete_length}
use Rattle.journal.specs.Recovery.{State, noted, ceiling_after, key_number_after, senders_after, applied_all, state_of}
use Rattle.journal.specs.Scan.{first_record, within, with_sender, with_record, gathered}
use Rattle.journal.proofs.Whole.{front_given}
use Rattle.journal.proofs.Keeping.{noted_longer}

-- the state with these parts
abbrev part : ℕ → Option ℕ → List SenderRecord → State
part ceiling key ss = record { ceiling = ceiling; key_number = key; senders = ss }

-- with the bytes `rest` still to come: what was gathered, and the senders that the table holds
pub record Reached (j : List ℕ) (places : ℕ) (rest : List ℕ) (ceiling : ℕ) (key : Option ℕ) (table : Option (List SenderRecord)) : Type 0 where
  pub shorter : length rest ≤ length j
  pub known : unknown_kind j ≡ unknown_kind rest
  pub complete : complete_length j ≡ length j - length rest + complete_length rest
  -- the senders so far
  pub senders : List SenderRecord
  pub state : applied_all (records rest) (part ceiling key senders) ≡ state_of j
  pub holds : table ≡ within places senders

-- a table holds no more than may be filled
pub within_fits : (places : ℕ) (ss : List SenderRecord) (table : Option (List SenderRecord)) → table ≡ within places ss
    → IfSome table (λ (ts : List SenderRecord). length ts ≤ places)
within_fits places ss table h = rw h (cases (leb (length ss) places) (λ e. rw e (leb-true (length ss) places e)) (λ e. rw e tt))

module _ (j : List ℕ) (places : ℕ) where
  pub reached_none : (table : Option (List SenderRecord)) → table ≡ Some [] → Reached j places j 0 None table
  unfolding state_of
  reached_none table e =
      record {
        shorter = omega arith;
        known = refl;
        complete = omega arith;
        senders = [];
        state = refl;
        holds = rw (le-leb 0 places (omega arith)) e;
      }

  pub within_after : (r : JournalRecord) (ss : List SenderRecord) → with_record places r (within places ss) ≡ within places (senders_after r ss)
  unfolding senders_after
  within_after (JournalRecord.Ceiling c) ss = refl
  within_after (JournalRecord.Sender s c) ss =
      cases (leb (length ss) places)
      (λ e. rw e refl)
      (λ e. rw (e, lt-leb (length (noted s c ss)) places (omega (arith, leb-false (length ss) places e, noted_longer s c ss))) refl)
  within_after (JournalRecord.KeyNumber k) ss = refl

  module _ (rest : List ℕ) (ceiling : ℕ) (key : Option ℕ) (table : Option (List SenderRecord)) (p : Reached j places rest ceiling key table) where
    pub reached_fits : IfSome table (λ (ss : List SenderRecord). length ss ≤ places)
    reached_fits = within_fits places p.senders table p.holds

    -- behind the record r at the front
    reached_next : (r : JournalRecord) → first_record rest ≡ Some r
        → (behind : List ℕ) (ceiling' : ℕ) (key' : Option ℕ) (table' : Option (List SenderRecord))
        → behind ≡ drop (length (record_bytes r)) rest → ceiling' ≡ ceiling_after r ceiling → key' ≡ key_number_after r key → table' ≡ with_record places r table
        → Reached j places behind ceiling' key' table'
    unfolding applied_all total_length
    reached_next r e behind ceiling' key' table' b ce ke te =
        let q = front_given rest r e in
        let n : length behind ≡ length rest - length (record_bytes r) = ap length b ∙ length-drop (length (record_bytes r)) rest in
        record {
          shorter = omega (arith, p.shorter, n);
          known = p.known ∙ q.known ∙ ap unknown_kind (sym b);
          complete = omega (arith, p.complete, p.shorter, q.within, n, ap total_length q.records, ap complete_length b);
          senders = senders_after r p.senders;
          state =
              rw (b, ce, ke) (ap (λ (l : List JournalRecord). applied_all l (part ceiling key p.senders)) (sym q.records) ∙ p.state);
          holds = te ∙ ap (with_record places r) p.holds ∙ within_after r p.senders;
        }

    -- the same by the record's kind
    module _ (r : JournalRecord) (behind : List ℕ) (q : (first_record rest ≡ Some r) × (behind ≡ drop (length (record_bytes r)) rest)) where
      pub reached_ceiling : (c ceiling' : ℕ) → r ≡ JournalRecord.Ceiling c → ceiling' ≡ max ceiling c → Reached j places behind ceiling' key table
      unfolding ceiling_after key_number_after
      reached_ceiling c ceiling' e m =
          reached_next (JournalRecord.Ceiling c) (rw e at q.0) behind ceiling' key table (rw e at q.1) (m ∙ grind (arith, nat_tests)) refl refl

      pub reached_sender : (s c : ℕ) (table' : Option (List SenderRecord)) → r ≡ JournalRecord.Sender s c → table' ≡ with_sender places s c table
          → Reached j places behind ceiling key table'
      unfolding ceiling_after key_number_after
      reached_sender s c table' e t =
          reached_next (JournalRecord.Sender s c) (rw e at q.0) behind ceiling key table' (rw e at q.1) refl refl t

      pub reached_key_number : (k : ℕ) → r ≡ JournalRecord.KeyNumber k → Reached j places behind ceiling (Some k) table
      unfolding ceiling_after key_number_after
      reached_key_number k e =
          reached_next (JournalRecord.KeyNumber k) (rw e at q.0) behind ceiling (Some k) table (rw e at q.1) refl refl refl

    -- where the pass stops: at the end, or before a byte of a known kind
    module _ (u : unknown_kind rest ≡ false) (n : records rest ≡ []) where
      state_is : part ceiling key p.senders ≡ state_of j
      unfolding applied_all
      state_is = ap (λ (l : List JournalRecord). applied_all l (part ceiling key p.senders)) (sym n) ∙ p.state

      pub reached_end : Ok (record { ceiling = ceiling; key_number = key; complete = length j - length rest }) ≡ gathered j
      unfolding total_length gathered
      reached_end =
          let all : length j - length rest ≡ complete_length j = omega (arith, p.complete, ap total_length n) in
          rw (p.known ∙ u) (ap Ok (λ i. record { ceiling = (state_is i).ceiling; key_number = (state_is i).key_number; complete = all i }))

      pub senders_end : table ≡ within places (state_of j).senders
      senders_end = p.holds ∙ ap (λ (g : State). within places g.senders) state_is

    -- before another byte
    pub reached_unknown : unknown_kind rest ≡ true → Err Refusal.JournalKind ≡ gathered j
    unfolding gathered
    reached_unknown u = rw (p.known ∙ u) refl
