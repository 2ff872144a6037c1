-- The claims about records behind the complete ones, about these, and about what the writer wrote and recovery gives. Assumes nothing.
use Rattle.std.specs.Prelude.{Option}
use mathlib.Core.Path.{◌≡◌, refl, sym, ap, subst, ◌∙◌}
use mathlib.Core.Bool.{true, false, not, true≢false}
use mathlib.Core.List.{List, [], ◌∷◌, ◌++◌, append-nil}
use mathlib.Core.Logic.{inl, inr}
use Prim.Native.Nat.{ℕ, zero, suc, ◌+◌, ◌≤◌}
use native.Mathlib.Omega.{arith}
use native.Mathlib.Nat.{zero-add, add-zero}
use lib.Dec.{leb}
use lib.ListN.{length, take, length-take}
use borrow.Author.Tests.{leb-true, leb-false, lt-ltb, le-ltb, not-true, not-false}
use borrow.Table.Steps.{cases}
use Rattle.octets.specs.Strings.{Below}
use Rattle.octets.specs.Writing.{Run, wrote}
use Rattle.octets.specs.Numbers.{le}
use Rattle.octets.proofs.Conditions.{accepted, none, or_false}
use Rattle.octets.proofs.Strings.{take_over}
use Rattle.octets.proofs.Writing.{written_number, write_accepted}
use Rattle.journal.specs.declared.format.JournalRecord.{JournalRecord}
use Rattle.journal.specs.Format.{is_kind, body_length, record_at, record_bytes, kinds_from, records_from, records, some_unknown, unknown_kind, total_length, bytes_of, complete_length}
use Rattle.journal.specs.Recovery.{State, blank, key_number_after, applied, applied_all, state_of, Recovered, recover_refusal, recover_given, recover_nothing, recover_answer, recovered_list}
use Rattle.journal.specs.Writing.{record_of_kind, write_refusal, write_record, some_ceiling}
use Rattle.journal.specs.Life.{complete_part, writes, given}
use Rattle.journal.specs.Claims.{Fits, RecordIsApplied, SameRecovery, PartChangesNothing, CompleteRecordsRecover, CompletePartIsRecords, length_of_kind, ReadsBack, LargestCeiling, NoKeyNumber, LastKeyNumberOrNone}
use Rattle.journal.proofs.Bodies.{by_kind}
use Rattle.journal.proofs.Whole.{length_at}
use Rattle.journal.proofs.Appending.{records_append, unknown_append, complete_within, applied_append}
use Rattle.journal.proofs.ReadBack.{one_record, record_known, part_of_record, record_bytes_lem}
use Rattle.journal.proofs.Gathered.{covered}

total_append : (rs qs : List JournalRecord) → total_length (rs ++ qs) ≡ total_length rs + total_length qs
unfolding total_length
total_append [] qs = sym (zero-add (total_length qs))
total_append (r ∷ rs) qs = omega (arith, total_append rs qs)

-- ---- 2: a record behind the complete ones

module _ (j t : List ℕ) (rs : List JournalRecord) (e : records t ≡ rs) where
  behind : records (complete_part j ++ t) ≡ records j ++ rs
  behind = records_append j t ∙ ap (λ (qs : List JournalRecord). records j ++ qs) e

  state_behind : state_of (complete_part j ++ t) ≡ applied_all rs (state_of j)
  unfolding state_of
  state_behind = ap (λ (qs : List JournalRecord). applied_all qs blank) behind ∙ applied_append (records j) rs blank

  length_behind : complete_length (complete_part j ++ t) ≡ complete_length j + total_length rs
  length_behind = ap total_length behind ∙ total_append (records j) rs

alone : (r : JournalRecord) → Fits r → records (record_bytes r) ≡ r ∷ []
unfolding records_from
alone r f = ap records (sym (append-nil (record_bytes r))) ∙ one_record r [] f

alone_known : (r : JournalRecord) → unknown_kind (record_bytes r) ≡ false
unfolding kinds_from some_unknown
alone_known r = ap unknown_kind (sym (append-nil (record_bytes r))) ∙ record_known r []

pub record_is_applied : RecordIsApplied
unfolding applied_all total_length
record_is_applied j r f =
    record {
      state = state_behind j (record_bytes r) (r ∷ []) (alone r f);
      known = unknown_append j (record_bytes r) ∙ alone_known r;
      complete = length_behind j (record_bytes r) (r ∷ []) (alone r f) ∙ ap (λ (n : ℕ). complete_length j + n) (add-zero (length (record_bytes r)));
    }

-- ---- the same recovery

same_recovery : (j k : List ℕ) → unknown_kind k ≡ unknown_kind j → state_of k ≡ state_of j → complete_length k ≡ complete_length j → SameRecovery j k
unfolding recover_answer recover_refusal recovered_list
same_recovery j k u s c l = (rw (u, s, c) refl, rw (u, s) refl)

-- bytes behind the complete records that have no record and no unknown kind
nothing_more : (j : List ℕ) → unknown_kind j ≡ false → (t : List ℕ) → records t ≡ [] → unknown_kind t ≡ false → SameRecovery j (complete_part j ++ t)
unfolding applied_all total_length
nothing_more j u t e v =
    same_recovery j (complete_part j ++ t) (unknown_append j t ∙ v ∙ sym u) (state_behind j t [] e)
    (length_behind j t [] e ∙ add-zero (complete_length j))

pub part_changes_nothing : PartChangesNothing
part_changes_nothing j r n u h =
    let p = part_of_record r n h in nothing_more j u (take n (record_bytes r)) p.0 p.1

-- ---- 3: the complete records

pub complete_records_recover : CompleteRecordsRecover
unfolding records_from kinds_from some_unknown
complete_records_recover j u = (
  subst (SameRecovery j) (append-nil (complete_part j)) (nothing_more j u [] refl refl),
  length-take (complete_length j) j ∙ omega (arith, complete_within j),
)

-- the first n bytes, of a body, and the bytes of the records behind it
records_end_to_end : (n : ℕ) (l : List ℕ) → n ≤ length l → Below 256 l
    → take (n + total_length (records_from n l)) l ≡ take n l ++ bytes_of (records_from n l)
unfolding records_from total_length
records_end_to_end zero [] h b = refl
records_end_to_end zero (k ∷ l) h b =
    cases (is_kind k)
    (λ w. cases (leb (body_length k) (length l))
    (λ e. let within = leb-true (body_length k) (length l) e in
    let x = total_length (records_from (body_length k) l) in
    let m : 0 + (length (record_bytes (record_at (k ∷ l) 0)) + x) ≡ suc (body_length k + x) = omega (arith, length_at (k ∷ l) 0 w) in
    rw (w, e, m, record_bytes_lem l k w within b) (ap (λ (y : List ℕ). k ∷ y) (records_end_to_end (body_length k) l within (λ i. b (suc i)))))
    (λ e. rw (w, e) refl))
    (λ w. rw w refl)
records_end_to_end (suc n) [] h b = absurd (omega (arith, h))
records_end_to_end (suc n) (c ∷ l) h b =
    let x = total_length (records_from n l) in
    let e : suc n + x ≡ suc (n + x) = omega arith in
    rw e (ap (λ (y : List ℕ). c ∷ y) (records_end_to_end n l (omega (arith, h)) (λ i. b (suc i))))

pub complete_part_is_records : CompletePartIsRecords
complete_part_is_records j b = ap (λ (n : ℕ). take n j) (sym (zero-add (complete_length j))) ∙ records_end_to_end 0 j (omega arith) b

-- ---- 4: what the writer wrote reads back

-- a record of a kind has the kind's length
kind_length : (kind s c k : ℕ) → is_kind kind ≡ true → length_of_kind kind (length (record_bytes (record_of_kind kind s c k)))
unfolding record_of_kind record_bytes le
kind_length kind s c k =
    by_kind (λ (n : ℕ). is_kind n ≡ true → length_of_kind n (length (record_bytes (record_of_kind n s c k))))
    (λ _. inl (refl, refl)) (λ _. inr (inl (refl, refl))) (λ _. inr (inr (refl, refl))) kind (λ e _ w. absurd (true≢false (sym w ∙ e)))

pub reads_back : ReadsBack
unfolding write_record write_refusal
reads_back j w z f =
    let r = record_of_kind w.kind w.sender w.counter w.key_number in
    let n = write_refusal j w.kind r (length w.out) in
    let accepted : n ≡ 0 = sym (written_number n (record_bytes r) w.out) ∙ z in
    let run : writes j w ≡ wrote (record_bytes r) w.out = sym (write_accepted n n (record_bytes r) w.out refl accepted) in
    let known = (or_false (unknown_kind j) (not (is_kind w.kind)) (none _ accepted).0).1 in (
      ap (λ (x : Run). records (given x)) run ∙ ap records (take_over w.out (record_bytes r)) ∙ alone r f,
      subst (λ (x : Run). length_of_kind w.kind x.answer.length) (sym run)
          (kind_length w.kind w.sender w.counter w.key_number (not-false (is_kind w.kind) known)),
    )

-- ---- the largest ceiling

pub largest_ceiling : LargestCeiling
largest_ceiling j n =
    let c = (state_of j).ceiling in
    let some = some_ceiling (suc n) (records j) in
    cases (leb c n) (λ e. not-true some (sym (covered j n) ∙ e) ∙ sym (le-ltb n c (leb-true c n e)))
    (λ e. not-false some (sym (covered j n) ∙ e) ∙ sym (lt-ltb n c (leb-false c n e)))

-- ---- the last key number

-- records of which none is a key number's leave it
key_number_stays : (rs : List JournalRecord) (g : State) → NoKeyNumber rs → (applied_all rs g).key_number ≡ g.key_number
unfolding applied_all key_number_after
key_number_stays [] g n = refl
key_number_stays (JournalRecord.Ceiling c ∷ rs) g n = key_number_stays rs (applied (JournalRecord.Ceiling c) g) n
key_number_stays (JournalRecord.Sender s c ∷ rs) g n = key_number_stays rs (applied (JournalRecord.Sender s c) g) n
key_number_stays (JournalRecord.KeyNumber k ∷ rs) g n = absurd n

pub last_key_number_or_none : LastKeyNumberOrNone
unfolding recover_answer state_of applied_all key_number_after
last_key_number_or_none j places z =
    let number : Recovered → Option ℕ = λ a. a.key_number in
    let given = ap number (accepted (recover_refusal j places) (recover_given j) (recover_nothing (recover_refusal j places)) z) in (
      λ before behind k e n. given ∙ ap (λ (rs : List JournalRecord). (applied_all rs blank).key_number) e
          ∙ ap (λ (g : State). g.key_number) (applied_append before (JournalRecord.KeyNumber k ∷ behind) blank) ∙ key_number_stays behind _ n,
      λ n. given ∙ key_number_stays (records j) blank n,
    )
