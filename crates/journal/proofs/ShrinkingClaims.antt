-- The claims about shrinking, from what a shrunk journal reads as. Assumes nothing.
use mathlib.Core.Path.{◌≡◌, refl, sym, ap, ◌∙◌}
use mathlib.Core.Bool.{false}
use mathlib.Core.List.{List}
use Prim.Native.Nat.{ℕ, zero, suc, ◌≤◌}
use native.Mathlib.Omega.{arith}
use lib.Dec.{leb}
use lib.ListN.{length}
use borrow.Author.Tests.{ltb-false, le-ltb}
use Rattle.octets.specs.Refusals.{unless, first_of}
use Rattle.octets.specs.Strings.{Below}
use Rattle.octets.specs.Writing.{Run, wrote, written}
use Rattle.octets.proofs.Conditions.{accepted, none}
use Rattle.octets.proofs.Strings.{take_over}
use Rattle.octets.proofs.Writing.{written_number, write_accepted}
use Rattle.senders.specs.declared.SenderRecord.{SenderRecord}
use Rattle.senders.specs.Senders.{stored}
use Rattle.journal.specs.Format.{records, unknown_kind, bytes_of}
use Rattle.journal.specs.Recovery.{state_of, Recovered, recover_refusal, recover_given, recover_nothing, recover_answer, recovered_list}
use Rattle.journal.specs.Writing.{record_of_kind, write_refusal, write_record, next_refusal, next_counter}
use Rattle.journal.specs.Shrinking.{shrunk_records, shrunk, shrink_refusal, shrink}
use Rattle.journal.specs.Life.{Writing, writes, given}
use Rattle.journal.specs.ShrinkingClaims.{SameState, RecoversTheSame, AnswersTheSame, RisingAddressBytes, NoneIsShorter, NeverLonger, SameStateSameBytes, ShrunkTwice}
use Rattle.journal.proofs.Appending.{complete_within}
use Rattle.journal.proofs.Gathered.{covered}
use Rattle.journal.proofs.SendersOnce.{once_state, stored_counter}
use Rattle.journal.proofs.Sorting.{rising_sorted}
use Rattle.journal.proofs.InRange.{state_fits}
use Rattle.journal.proofs.ShrunkBytes.{front_length, length_ceiling, length_key_number, length_shrunk}
use Rattle.journal.proofs.ShrunkState.{Alike, records_alike, number_alike, shrunk_read, shrunk_complete, shrunk_alike, shrunk_below, shrunk_within, length_after}

-- ---- shrinking that is not refused

module _ (j o : List ℕ) (z : (shrink j o).answer.refusal ≡ 0) where
  -- none of its conditions holds
  not_refused : shrink_refusal j (length o) ≡ 0
  unfolding shrink
  not_refused = sym (written_number (shrink_refusal j (length o)) (shrunk j) o) ∙ z

  wrote_shrunk : wrote (shrunk j) o ≡ shrink j o
  unfolding shrink
  wrote_shrunk = write_accepted (shrink_refusal j (length o)) 0 (shrunk j) o (sym not_refused) refl

  pub given_shrunk : given (shrink j o) ≡ shrunk j
  given_shrunk = ap given (sym wrote_shrunk) ∙ take_over o (shrunk j)

  length_given : (shrink j o).answer.length ≡ length (shrunk j)
  length_given = ap (λ (r : Run). r.answer.length) (sym wrote_shrunk)

  known : unknown_kind j ≡ false
  unfolding shrink_refusal
  known = (none _ not_refused).0

  few : length (state_of j).senders ≤ 64
  unfolding shrink_refusal
  few = ltb-false 64 (length (state_of j).senders) (none _ not_refused).1.0

-- ---- two journals with alike states, both known

module _ (j k : List ℕ) (a : Alike (state_of j) (state_of k)) (n : length (state_of k).senders ≡ length (state_of j).senders) (u : unknown_kind j ≡ false)
    (v : unknown_kind k ≡ false) where
  same_next : (last : ℕ) → next_counter k last ≡ next_counter j last
  unfolding next_counter next_refusal
  same_next last = let e = sym (covered k last) ∙ ap (λ (c : ℕ). leb c last) a.ceiling ∙ covered j last in rw (u, v, e) refl

  same_writes : (w : Writing) → writes k w ≡ writes j w
  unfolding write_record write_refusal
  same_writes w =
      let r = record_of_kind w.kind w.sender w.counter w.key_number in
      rw (u, v, length_after r (state_of k).senders (state_of j).senders n a.counters) refl

  -- recovered into a list
  module _ (l : List SenderRecord) where
    same-refusal : recover_refusal k (length l) ≡ recover_refusal j (length l)
    unfolding recover_refusal
    same-refusal = rw (u, v, n) refl

    -- a value of the answers
    same-value : {A : Type 0} (value : Recovered → A) → value (recover_given k) ≡ value (recover_given j)
        → value (recover_answer k (length l)) ≡ value (recover_answer j (length l))
    unfolding recover_answer unless
    same-value value e = rw same-refusal (by (recover_refusal j (length l)))
      where
        by : (m : ℕ) → value (unless m (recover_given k) (recover_nothing m)) ≡ value (unless m (recover_given j) (recover_nothing m))
        by zero = e
        by (suc m) = refl

    same-senders : (s : ℕ) → stored s (recovered_list k l) ≡ stored s (recovered_list j l)
    unfolding recovered_list unless
    same-senders s = by (recover_refusal j (length l)) refl
      where
        by : (m : ℕ) → recover_refusal j (length l) ≡ m → stored s (recovered_list k l) ≡ stored s (recovered_list j l)
        by zero e = stored_counter k l (same-refusal ∙ e) s ∙ a.counters s ∙ sym (stored_counter j l e s)
        by (suc m) e = rw (same-refusal, e) refl

    same-state : SameState j k l
    same-state =
        record {
          refusal = same-refusal;
          ceiling = same-value (λ (r : Recovered). r.ceiling) a.ceiling;
          key_number = same-value (λ (r : Recovered). r.key_number) a.key_number;
          senders = same-senders;
        }

-- and where two are recovered to the same, with room for it, their states are alike
module _ (j k : List ℕ) (l : List SenderRecord) (z : recover_refusal j (length l) ≡ 0) (s : SameState j k l) where
  both : recover_refusal k (length l) ≡ 0
  both = s.refusal ∙ z

  given_of : (i : List ℕ) → recover_refusal i (length l) ≡ 0 → recover_answer i (length l) ≡ recover_given i
  unfolding recover_answer
  given_of i e = accepted (recover_refusal i (length l)) _ _ e

  alike_states : Alike (state_of j) (state_of k)
  alike_states =
      record {
        ceiling = ap (λ (r : Recovered). r.ceiling) (sym (given_of k both)) ∙ s.ceiling ∙ ap (λ (r : Recovered). r.ceiling) (given_of j z);
        key_number = ap (λ (r : Recovered). r.key_number) (sym (given_of k both)) ∙ s.key_number ∙ ap (λ (r : Recovered). r.key_number) (given_of j z);
        counters = λ t. sym (stored_counter k l both t) ∙ s.senders t ∙ stored_counter j l z t;
      }

  known_of : (i : List ℕ) → recover_refusal i (length l) ≡ 0 → unknown_kind i ≡ false
  unfolding recover_refusal
  known_of i e = (none _ e).0

-- ---- journals with alike states

module _ (j k : List ℕ) (b : Below 256 j) (d : Below 256 k) (a : Alike (state_of j) (state_of k)) where
  same_records : shrunk_records (state_of k) ≡ shrunk_records (state_of j)
  same_records = records_alike (state_of j) (state_of k) a (once_state j) (once_state k) (state_fits j b) (state_fits k d)

  same_shrunk : shrunk k ≡ shrunk j
  unfolding shrunk
  same_shrunk = ap bytes_of same_records

  same_number : length (state_of k).senders ≡ length (state_of j).senders
  same_number = number_alike (state_of j) (state_of k) a (once_state j) (once_state k) (state_fits j b) (state_fits k d)

-- ---- the claims

pub recovers_the_same : RecoversTheSame
recovers_the_same j o l b z =
    rw (given_shrunk j o z)
    (let k = shrunk j in
    let a = shrunk_alike j b in
    let s = same-state j k a (same_number j k b (shrunk_below j) a) (known j o z) (shrunk_read j b).1 l in
    (s, λ e. ap (λ (r : Recovered). r.complete) (given_of j k l e s k (both j k l e s)) ∙ shrunk_complete j b))

pub answers_the_same : AnswersTheSame
answers_the_same j o b z =
    rw (given_shrunk j o z)
    (let k = shrunk j in
    let a = shrunk_alike j b in
    let n = same_number j k b (shrunk_below j) a in
    (same_next j k a n (known j o z) (shrunk_read j b).1, same_writes j k a n (known j o z) (shrunk_read j b).1))

pub rising_address_bytes : RisingAddressBytes
rising_address_bytes j o b z =
    (ap records (given_shrunk j o z) ∙ (shrunk_read j b).0, rising_sorted (state_of j).senders (once_state j) (state_fits j b).senders)

pub none_is_shorter : NoneIsShorter
none_is_shorter j k o l b d z e s =
    omega (
      arith,
      length_given j o z,
      ap length (same_shrunk j k b d (alike_states j k l e s)),
      shrunk_within k,
      complete_within k,
    )

pub never_longer : NeverLonger
unfolding shrunk front_length
never_longer j o z = (
  omega (arith, length_given j o z, shrunk_within j),
  omega (arith, length_given j o z, length_shrunk (state_of j), few j o z, length_ceiling (state_of j).ceiling, length_key_number (state_of j).key_number),
)

pub same_state_same_bytes : SameStateSameBytes
unfolding shrink shrink_refusal
same_state_same_bytes j k o l b d e s =
    let a = alike_states j k l e s in
    rw (known_of j k l e s j e, known_of j k l e s k (both j k l e s), same_number j k b d a, same_shrunk j k b d a) refl

pub shrunk_twice : ShrunkTwice
unfolding shrink shrink_refusal written first_of unless
shrunk_twice j o p b z =
    rw (given_shrunk j o z)
    (λ h. let k = shrunk j in
    let a = shrunk_alike j b in
    let same = same_shrunk j k b (shrunk_below j) a in
    rw (same, (shrunk_read j b).1, same_number j k b (shrunk_below j) a, le-ltb 64 (length (state_of j).senders) (few j o z), le-ltb (length p) (length k) h) refl)
