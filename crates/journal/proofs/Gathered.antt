-- What is answered by what a pass gathered is what the definitions answer of the journal's state. Assumes nothing.
use Rattle.std.specs.Prelude.{Option, Some, None, Result, Ok, Err}
use Rattle.std.proofs.Common.{◌≡◌, refl, sym, ap, ◌∙◌, Bool, true, false, not, ◌&&◌, ◌||◌, List, [], ◌∷◌, ℕ, suc, ◌+◌, ◌≤◌, ◌<◌, leb, ltb, length, arith, add-one}
use borrow.Author.Tests.{leb-true, leb-false, ltb-true, ltb-false, le-leb, lt-leb, lt-ltb, le-ltb}
use borrow.Table.Steps.{cases}
use Rattle.octets.specs.declared.refusals.Refusal.{Refusal}
use Rattle.octets.specs.Refusals.{unless, first_of, number_of}
use Rattle.octets.specs.Strings.{over}
use Rattle.octets.specs.Writing.{Run, wrote, wrote_nothing, written}
use Rattle.senders.specs.declared.SenderRecord.{SenderRecord}
use Rattle.senders.specs.Senders.{counted}
use Rattle.journal.specs.declared.{Recovery.Recovery, format.Kind.Kind, format.JournalRecord.JournalRecord}
use Rattle.journal.specs.Format.{record_bytes, records, unknown_kind}
use Rattle.journal.specs.Recovery.{State, blank, larger, ceiling_after, senders_after, applied, applied_all, state_of, anew, recover_refusal, recover_nothing, recover_answer, recovered_list}
use Rattle.journal.specs.Writing.{record_of_kind, write_refusal, write_record, some_ceiling, next_refusal, next_nothing, next_counter}
use Rattle.journal.specs.Scan.{kind_of, byte_of, within, with_record, found_in, gathered}
use Rattle.journal.proofs.Whole.{kind_known, kind_unknown}
use Rattle.journal.proofs.Passing.{within_after}

-- ---- the largest ceiling

leb_larger : (x c n : ℕ) → leb (larger x c) n ≡ (leb x n && leb c n)
leb_larger x c n =
    cases (ltb x c)
    (λ l. rw l (cases (leb c n) (λ e. rw (e, le-leb x n (omega (arith, ltb-true x c l, leb-true c n e))) refl)
    (λ e. rw e (sym (and-false (leb x n))))))
    (λ l. rw l (cases (leb x n) (λ e. rw (e, le-leb c n (omega (arith, ltb-false x c l, leb-true x n e))) refl) (λ e. rw e refl)))
  where
    and-false : (b : Bool) → (b && false) ≡ false
    and-false true = refl
    and-false false = refl

and_assoc : (a b c : Bool) → ((a && b) && c) ≡ (a && (b && c))
and_assoc true b c = refl
and_assoc false b c = refl

not_above_lem : (n c : ℕ) (b : Bool) → not (leb (suc n) c || b) ≡ (leb c n && not b)
not_above_lem n c b =
    cases (leb c n) (λ e. rw (e, lt-leb (suc n) c (omega (arith, leb-true c n e))) refl)
    (λ e. rw (e, le-leb (suc n) c (omega (arith, leb-false c n e))) refl)

-- the largest ceiling is up to n exactly if no ceiling record is above it
uncovered : (n : ℕ) (rs : List JournalRecord) (g : State) → leb (applied_all rs g).ceiling n ≡ (leb g.ceiling n && not (some_ceiling (suc n) rs))
unfolding applied_all some_ceiling ceiling_after
uncovered n [] g = and_true (leb g.ceiling n)
  where
    and_true : (b : Bool) → b ≡ (b && true)
    and_true true = refl
    and_true false = refl
uncovered n (JournalRecord.Ceiling c ∷ rs) g =
    uncovered n rs (applied (JournalRecord.Ceiling c) g) ∙ rw (leb_larger g.ceiling c n, not_above_lem n c (some_ceiling (suc n) rs)) (and_assoc (leb g.ceiling n) (leb c n) _)
uncovered n (JournalRecord.Sender s c ∷ rs) g = uncovered n rs (applied (JournalRecord.Sender s c) g)
uncovered n (JournalRecord.KeyNumber k ∷ rs) g = uncovered n rs (applied (JournalRecord.KeyNumber k) g)

pub covered : (j : List ℕ) (n : ℕ) → leb (state_of j).ceiling n ≡ not (some_ceiling (suc n) (records j))
unfolding state_of
covered j n = uncovered n (records j) blank ∙ rw (le-leb 0 n (omega arith)) refl

-- ---- what a pass answered

module _ (j : List ℕ) where
  -- 25: a kind is not known
  pub unread : (r : Refusal) → Err r ≡ gathered j → (unknown_kind j ≡ true) × (r ≡ Refusal.JournalKind)
  unfolding gathered
  unread r e =
      cases (unknown_kind j)
      (λ u. let f : ◌≡◌ {A = Result Recovery Refusal} (Err r) (Err Refusal.JournalKind) = (rw u at e) in (u, (cc)))
      (λ u. let f : ◌≡◌ {A = Result Recovery Refusal} (Err r) (Ok (found_in j)) = (rw u at e) in absurd (cc))

  -- the journal's state, where every kind is known
  pub record IsRead (f : Recovery) : Type 0 where
    pub known : unknown_kind j ≡ false
    pub is : f ≡ found_in j

  pub read_of : (f : Recovery) → Ok f ≡ gathered j → IsRead f
  unfolding gathered
  read_of f e =
      cases (unknown_kind j)
      (λ u. let g : ◌≡◌ {A = Result Recovery Refusal} (Ok f) (Err Refusal.JournalKind) = (rw u at e) in absurd (cc))
      (λ u. let g : ◌≡◌ {A = Result Recovery Refusal} (Ok f) (Ok (found_in j)) = (rw u at e) in record { known = u; is = (cc) })

  -- ---- the next counter

  module _ (last : ℕ) where
    pub next_unread : (r : Refusal) → Err r ≡ gathered j → next_nothing (number_of r) ≡ next_counter j last
    unfolding next_counter next_refusal first_of unless
    next_unread r e = let u = unread r e in rw (u.0, u.1) refl

    module _ (f : Recovery) (e : Ok f ≡ gathered j) where
      ceiling_is : f.ceiling ≡ (state_of j).ceiling
      ceiling_is = ap (λ (g : Recovery). g.ceiling) (read_of f e).is

      pub next_used_up : 0xFFFFFFFE ≤ last → next_nothing 26 ≡ next_counter j last
      unfolding next_counter next_refusal first_of unless
      next_used_up h = rw ((read_of f e).known, le-leb 0xFFFFFFFE last h) refl

      pub next_uncovered : last < 0xFFFFFFFE → f.ceiling ≤ last → next_nothing 27 ≡ next_counter j last
      unfolding next_counter next_refusal first_of unless
      next_uncovered h k = rw ((read_of f e).known, lt-leb 0xFFFFFFFE last h, ← covered j last, le-leb (state_of j).ceiling last (omega (arith, k, ceiling_is))) refl

      pub next_covered : last < 0xFFFFFFFE → last < f.ceiling → record { refusal = 0; counter = last + 1 } ≡ next_counter j last
      unfolding next_counter next_refusal first_of unless
      next_covered h k = rw ((read_of f e).known, lt-leb 0xFFFFFFFE last h, ← covered j last, lt-leb (state_of j).ceiling last (omega (arith, k, ceiling_is)), add-one) refl

  -- the senders of a table of which so many places may be filled, or none
  module _ (places : ℕ) (ss : List SenderRecord) where
    pub more_held : None ≡ within places ss → places < length ss
    more_held e =
        cases (leb (length ss) places)
        (λ b. let f : ◌≡◌ {A = Option (List SenderRecord)} None (Some ss) = (rw b at e) in absurd (cc))
        (λ b. leb-false (length ss) places b)

    pub same_held : (ts : List SenderRecord) → Some ts ≡ within places ss → (length ss ≤ places) × (ts ≡ ss)
    same_held ts e =
        cases (leb (length ss) places)
        (λ b. let f : ◌≡◌ {A = Option (List SenderRecord)} (Some ts) (Some ss) = (rw b at e) in (leb-true (length ss) places b, (cc)))
        (λ b. let f : ◌≡◌ {A = Option (List SenderRecord)} (Some ts) None = (rw b at e) in absurd (cc))

    pub senders_fit : (ts : List SenderRecord) → Some ts ≡ within places ss → length ts ≤ places
    senders_fit ts e = let q = same_held ts e in rw q.1 q.0

  -- ---- recovery into a list l

  module _ (l : List SenderRecord) where
    recover_refused : (n : ℕ) → recover_refusal j (length l) ≡ suc n → (recover_nothing (suc n) ≡ recover_answer j (length l)) × (l ≡ recovered_list j l)
    unfolding recover_answer recovered_list unless
    recover_refused n e = (rw e refl, rw e refl)

    module _ (r : Refusal) (e : Err r ≡ gathered j) where
      refusal_unread : recover_refusal j (length l) ≡ 25
      unfolding recover_refusal first_of
      refusal_unread = rw (unread r e).0 refl

      pub recover_unread : recover_nothing (number_of r) ≡ recover_answer j (length l)
      recover_unread = rw (unread r e).1 (recover_refused 24 refusal_unread).0

      pub list_unread : l ≡ recovered_list j l
      list_unread = (recover_refused 24 refusal_unread).1

    module _ (f : Recovery) (e : Ok f ≡ gathered j) where
      refusal_full : counted (length l) < length (state_of j).senders → recover_refusal j (length l) ≡ 24
      unfolding recover_refusal first_of
      refusal_full h = rw ((read_of f e).known, lt-ltb (counted (length l)) (length (state_of j).senders) h) refl

      module _ (n : None ≡ within (counted (length l)) (state_of j).senders) where
        full : counted (length l) < length (state_of j).senders
        full = more_held (counted (length l)) (state_of j).senders n

        pub recover_full : recover_nothing 24 ≡ recover_answer j (length l)
        recover_full = (recover_refused 23 (refusal_full full)).0

        pub list_full : l ≡ recovered_list j l
        list_full = (recover_refused 23 (refusal_full full)).1

      module _ (ss : List SenderRecord) (q : Some ss ≡ within (counted (length l)) (state_of j).senders) where
        refusal_none : recover_refusal j (length l) ≡ 0
        unfolding recover_refusal first_of
        refusal_none =
            let k : length (state_of j).senders ≤ counted (length l) = (same_held (counted (length l)) (state_of j).senders ss q).0 in
            rw ((read_of f e).known, le-ltb (counted (length l)) (length (state_of j).senders) k) refl

        pub recover_all : record { refusal = 0; ceiling = f.ceiling; key_number = f.key_number; complete = f.complete } ≡ recover_answer j (length l)
        unfolding recover_answer unless
        recover_all = rw (refusal_none, (read_of f e).is) refl

        pub list_all : anew 64 ss l ≡ recovered_list j l
        unfolding recovered_list unless
        list_all = rw (refusal_none, (same_held (counted (length l)) (state_of j).senders ss q).1) refl

  -- ---- writing a record, of a kind and those of these values that it takes, to the front of o

  module _ (kind s c k : ℕ) (o : List ℕ) where
    abbrev new : JournalRecord
    new = record_of_kind kind s c k

    abbrev run : Run
    run = write_record j kind s c k o

    refused_run : (n : ℕ) → write_refusal j kind new (length o) ≡ suc n → run ≡ wrote_nothing (suc n) o
    unfolding write_record written unless
    refused_run n e = rw e refl

    module _ (q : Refusal) (e : Err q ≡ gathered j) where
      run_unread : run ≡ wrote_nothing 25 o
      unfolding write_refusal first_of
      run_unread = refused_run 24 (rw (unread q e).0 refl)

      pub write_unread : record { refusal = number_of q; length = 0 } ≡ run.answer
      write_unread = rw ((unread q e).1, run_unread) refl

      pub out_unread : o ≡ run.out
      out_unread = rw run_unread refl

    module _ (f : Recovery) (e : Ok f ≡ gathered j) where
      module _ (q : Refusal) (w : kind_of kind ≡ Err q) where
        run_unknown : run ≡ wrote_nothing 25 o
        unfolding write_refusal first_of
        run_unknown = refused_run 24 (rw ((read_of f e).known, (kind_unknown kind q w).0) refl)

        pub write_unknown : record { refusal = number_of q; length = 0 } ≡ run.answer
        write_unknown = rw (← (kind_unknown kind q w).1, run_unknown) refl

        pub out_unknown : o ≡ run.out
        out_unknown = rw run_unknown refl

      module _ (x : Kind) (w : kind_of kind ≡ Ok x) (r : JournalRecord) (a : r ≡ record_of_kind (byte_of x) s c k)
          (held : Option (List SenderRecord)) (h : held ≡ within 64 (state_of j).senders) where
        r_is : r ≡ new
        r_is = a ∙ ap (λ (n : ℕ). record_of_kind n s c k) (kind_known kind x w).1

        held_is : with_record 64 r held ≡ within 64 (senders_after new (state_of j).senders)
        held_is = rw (r_is, h) (within_after j 64 new (state_of j).senders)

        module _ (z : None ≡ with_record 64 r held) where
          run_full : run ≡ wrote_nothing 24 o
          unfolding write_refusal first_of
          run_full =
              let more = more_held 64 (senders_after new (state_of j).senders) (z ∙ held_is) in
              refused_run 23 (rw ((read_of f e).known, (kind_known kind x w).0, lt-ltb 64 (length (senders_after new (state_of j).senders)) more) refl)

          pub write_full : record { refusal = 24; length = 0 } ≡ run.answer
          write_full = rw run_full refl

          pub out_full : o ≡ run.out
          out_full = rw run_full refl

        module _ (ss : List SenderRecord) (z : Some ss ≡ with_record 64 r held) where
          few : length (senders_after new (state_of j).senders) ≤ 64
          few = (same_held 64 (senders_after new (state_of j).senders) ss (z ∙ held_is)).0

          module _ (b : length o < length (record_bytes r)) where
            run_short : run ≡ wrote_nothing 18 o
            unfolding write_refusal first_of
            run_short =
                let short : length o < length (record_bytes new) = rw r_is at b in
                refused_run 17 (rw (
                  (read_of f e).known,
                  (kind_known kind x w).0,
                  le-ltb 64 (length (senders_after new (state_of j).senders)) few,
                  lt-ltb (length o) (length (record_bytes new)) short,
                ) refl)

            pub write_short : record { refusal = 18; length = 0 } ≡ run.answer
            write_short = rw run_short refl

            pub out_short : o ≡ run.out
            out_short = rw run_short refl

          module _ (b : length (record_bytes r) ≤ length o) where
            run_given : run ≡ wrote (record_bytes new) o
            unfolding write_record write_refusal first_of written unless
            run_given =
                let room : length (record_bytes new) ≤ length o = rw r_is at b in
                rw (
                  (read_of f e).known,
                  (kind_known kind x w).0,
                  le-ltb 64 (length (senders_after new (state_of j).senders)) few,
                  le-ltb (length o) (length (record_bytes new)) room,
                ) refl

            pub write_given : record { refusal = 0; length = length (record_bytes r) } ≡ run.answer
            write_given = rw (run_given, r_is) refl

            pub out_given : over o 0 (record_bytes r) ≡ run.out
            out_given = rw (run_given, r_is) refl
