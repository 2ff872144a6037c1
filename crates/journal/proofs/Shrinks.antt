-- What shrinking answers and writes, by what a pass gathered and the sorted senders. Assumes nothing.
use Rattle.std.specs.Prelude.{Option, Some, None, Ok, Err}
use Rattle.std.proofs.Common.{◌≡◌, refl, sym, ◌∙◌, List, ℕ, suc, ◌≤◌, ◌<◌, length}
use borrow.Author.Tests.{lt-ltb, le-ltb}
use Rattle.octets.specs.declared.refusals.Refusal.{Refusal}
use Rattle.octets.specs.Refusals.{unless, first_of, number_of}
use Rattle.octets.specs.Strings.{over, Below}
use Rattle.octets.specs.Writing.{Run, wrote, wrote_nothing, written}
use Rattle.senders.specs.declared.SenderRecord.{SenderRecord}
use Rattle.journal.specs.declared.Recovery.{Recovery}
use Rattle.journal.specs.Format.{bytes_of}
use Rattle.journal.specs.Recovery.{state_of}
use Rattle.journal.specs.Shrinking.{sorted, shrunk, shrink_refusal, shrink}
use Rattle.journal.specs.Scan.{within, SortsHeld, gathered, shrunk_of}
use Rattle.journal.proofs.Gathered.{unread, read_of, more_held, same_held}
use Rattle.journal.proofs.SendersOnce.{once_state}
use Rattle.journal.proofs.InRange.{state_fits}
use Rattle.journal.proofs.Sorting.{sorted_is}

module _ (j o : List ℕ) where
  abbrev run : Run
  run = shrink j o

  refused_run : (n : ℕ) → shrink_refusal j (length o) ≡ suc n → run ≡ wrote_nothing (suc n) o
  unfolding shrink written unless
  refused_run n e = rw e refl

  module _ (q : Refusal) (e : Err q ≡ gathered j) where
    run_unread : run ≡ wrote_nothing 25 o
    unfolding shrink_refusal first_of
    run_unread = refused_run 24 (rw (unread j q e).0 refl)

    pub shrink_unread : record { refusal = number_of q; length = 0 } ≡ run.answer
    shrink_unread = rw ((unread j q e).1, run_unread) refl

    pub out_unread : o ≡ run.out
    out_unread = rw run_unread refl

  module _ (f : Recovery) (e : Ok f ≡ gathered j) (held : Option (List SenderRecord)) (h : held ≡ within 64 (state_of j).senders) where
    unsorted : (table : Option (List SenderRecord)) → SortsHeld table None → table ≡ None
    unsorted None s = refl
    unsorted (Some ss) s = absurd s

    module _ (s : SortsHeld held None) where
      run_full : run ≡ wrote_nothing 24 o
      unfolding shrink_refusal first_of
      run_full =
          let more = more_held j 64 (state_of j).senders (sym (unsorted held s) ∙ h) in
          refused_run 23 (rw ((read_of j f e).known, lt-ltb 64 (length (state_of j).senders) more) refl)

      pub shrink_full : record { refusal = 24; length = 0 } ≡ run.answer
      shrink_full = rw run_full refl

      pub out_full : o ≡ run.out
      out_full = rw run_full refl

    module _ (ts : List SenderRecord) (s : SortsHeld held (Some ts)) (b : Below 256 j) where
      before_sort : (table : Option (List SenderRecord)) → SortsHeld table (Some ts) → table ≡ within 64 (state_of j).senders
          → (length (state_of j).senders ≤ 64) × (ts ≡ sorted (state_of j).senders)
      before_sort None s n = absurd s
      before_sort (Some ss) s n =
          let same = same_held j 64 (state_of j).senders ss n in
          (same.0, sorted_is (state_of j).senders ts (once_state j) (state_fits j b).senders (rw same.1 at s))

      few : length (state_of j).senders ≤ 64
      few = (before_sort held s h).0

      bytes_are : bytes_of (shrunk_of f ts) ≡ shrunk j
      unfolding shrunk
      bytes_are = rw ((read_of j f e).is, (before_sort held s h).1) refl

      module _ (k : length o < length (bytes_of (shrunk_of f ts))) where
        run_short : run ≡ wrote_nothing 18 o
        unfolding shrink_refusal first_of
        run_short =
            let short : length o < length (shrunk j) = rw bytes_are at k in
            refused_run 17 (rw ((read_of j f e).known, le-ltb 64 (length (state_of j).senders) few, lt-ltb (length o) (length (shrunk j)) short) refl)

        pub shrink_short : record { refusal = 18; length = 0 } ≡ run.answer
        shrink_short = rw run_short refl

        pub out_short : o ≡ run.out
        out_short = rw run_short refl

      module _ (k : length (bytes_of (shrunk_of f ts)) ≤ length o) where
        run_given : run ≡ wrote (bytes_of (shrunk_of f ts)) o
        unfolding shrink shrink_refusal first_of written unless
        run_given =
            let room : length (shrunk j) ≤ length o = rw bytes_are at k in
            rw ((read_of j f e).known, le-ltb 64 (length (state_of j).senders) few, le-ltb (length o) (length (shrunk j)) room, bytes_are) refl

        pub shrink_given : record { refusal = 0; length = length (bytes_of (shrunk_of f ts)) } ≡ run.answer
        shrink_given = rw run_given refl

        pub out_given : over o 0 (bytes_of (shrunk_of f ts)) ≡ run.out
        out_given = rw run_given refl
