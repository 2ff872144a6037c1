-- A shrunk journal reads as the records that it was written from, and they make the state anew, with the senders in their new order.
-- States that are alike shrink to the same records. Assumes nothing.
use Rattle.std.specs.Prelude.{Option, Some, None}
use mathlib.Core.Path.{◌≡◌, refl, sym, ap, subst, ◌∙◌}
use mathlib.Core.Bool.{Bool, true, false, cond}
use mathlib.Core.List.{List, [], ◌∷◌, ◌++◌}
use Prim.Native.Nat.{ℕ, zero, suc, ◌+◌, ◌≤◌}
use native.Mathlib.Omega.{arith}
use lib.Dec.{eqb}
use lib.ListN.{length, length-append}
use borrow.Author.Tests.{eqb-true, eqb-false, ne_eqb, lt-ltb}
use borrow.Table.Steps.{cases}
use Rattle.octets.specs.Strings.{Below}
use Rattle.octets.specs.Numbers.{le}
use Rattle.octets.proofs.Numbers.{le_below}
use Rattle.octets.proofs.Strings.{append_below}
use Rattle.senders.specs.declared.SenderRecord.{SenderRecord}
use Rattle.journal.specs.declared.format.JournalRecord.{JournalRecord}
use Rattle.journal.specs.Format.{record_bytes, kinds_from, records_from, records, some_unknown, unknown_kind, total_length, bytes_of, complete_length}
use Rattle.journal.specs.Recovery.{State, blank, noted, ceiling_after, key_number_after, senders_after, applied, applied_all, state_of}
use Rattle.journal.specs.Shrinking.{sorted, key_number_records, ceiling_records, sender_records, shrunk_records, shrunk}
use Rattle.journal.specs.Claims.{last_of}
use Rattle.journal.proofs.Appending.{applied_append}
use Rattle.journal.proofs.ReadBack.{one_record, record_known}
use Rattle.journal.proofs.SendersOnce.{counter_of, Once, last_all, once_state}
use Rattle.journal.proofs.Sorting.{Marked, none_of, each_sorted, once_marked, counter_sorted, rising_sorted, once_rising, same_sorted}
use Rattle.journal.proofs.InRange.{AllFit, StateFits, state_fits, shrunk_fits}
use Rattle.journal.proofs.ShrunkBytes.{front_length, length_ceiling, length_key_number, length_sorted, length_shrunk}

-- ---- records end to end

read_all : (rs : List JournalRecord) → AllFit rs → (records (bytes_of rs) ≡ rs) × (unknown_kind (bytes_of rs) ≡ false)
unfolding records_from kinds_from some_unknown
read_all [] f = (refl, refl)
read_all (r ∷ rs) f =
    let b = read_all rs f.1 in (
      one_record r (bytes_of rs) f.0 ∙ ap (λ (qs : List JournalRecord). r ∷ qs) b.0,
      record_known r (bytes_of rs) ∙ b.1,
    )

total_bytes : (rs : List JournalRecord) → total_length rs ≡ length (bytes_of rs)
unfolding total_length
total_bytes [] = refl
total_bytes (r ∷ rs) = ap (λ (n : ℕ). length (record_bytes r) + n) (total_bytes rs) ∙ sym (length-append (record_bytes r) (bytes_of rs))

-- they are bytes
kind_below : (k : ℕ) (l : List ℕ) → k ≤ 3 → Below 256 l → Below 256 (k ∷ l)
kind_below k l h b zero = omega (arith, h)
kind_below k l h b (suc i) = b i

pub record_below : (r : JournalRecord) → Below 256 (record_bytes r)
unfolding record_bytes
record_below (JournalRecord.Ceiling c) = kind_below 1 (le 4 c) (omega arith) (le_below 4 c)
record_below (JournalRecord.Sender s c) = kind_below 2 (le 8 s ++ le 4 c) (omega arith) (append_below (le 8 s) (le 4 c) 256 (le_below 8 s) (le_below 4 c))
record_below (JournalRecord.KeyNumber k) = kind_below 3 (le 1 k) (omega arith) (le_below 1 k)

bytes_below : (rs : List JournalRecord) → Below 256 (bytes_of rs)
bytes_below [] i = omega arith
bytes_below (r ∷ rs) i = append_below (record_bytes r) (bytes_of rs) 256 (record_below r) (bytes_below rs) i

-- ---- the state that a shrunk journal's records make

abbrev front : ℕ → Option ℕ → State
front c o = record { ceiling = c; key_number = o; senders = [] }

key_number_made : (o : Option ℕ) → applied_all (key_number_records o) blank ≡ front 0 o
unfolding applied_all key_number_records ceiling_after key_number_after senders_after
key_number_made None = refl
key_number_made (Some k) = refl

ceiling_made : (c : ℕ) (o : Option ℕ) → applied_all (ceiling_records c) (front 0 o) ≡ front c o
unfolding applied_all ceiling_records ceiling_after key_number_after senders_after
ceiling_made c o =
    cases (eqb c 0) (λ e. rw e (ap (λ (x : ℕ). front x o) (sym (eqb-true c 0 e)))) (λ e. rw (e, lt-ltb 0 c (above (eqb-false c 0 e))) refl)
  where
    above : (c ≡ 0 → ⊥) → 1 ≤ c
    above d = omega (arith, d)

-- senders leave the ceiling and the key number
stay : (l : List SenderRecord) (g : State)
    → ((applied_all (sender_records l) g).ceiling ≡ g.ceiling) × ((applied_all (sender_records l) g).key_number ≡ g.key_number)
unfolding applied_all sender_records ceiling_after key_number_after
stay [] g = (refl, refl)
stay (r ∷ l) g = stay l (applied (JournalRecord.Sender r.address r.counter) g)

-- the last counter of a sender among records that name each once
last_step : (s : ℕ) (o : Option ℕ) (r : SenderRecord) (l : List SenderRecord) (b : Bool) → eqb r.address s ≡ b
    → last_of s o (sender_records (r ∷ l)) ≡ last_of s (cond b (Some r.counter) o) (sender_records l)
unfolding last_of sender_records
last_step s o r l b e = ap (λ (x : Bool). last_of s (cond x (Some r.counter) o) (sender_records l)) e

last_none : (s : ℕ) (o : Option ℕ) (l : List SenderRecord) → counter_of s l ≡ None → last_of s o (sender_records l) ≡ o
unfolding last_of sender_records
last_none s o [] a = refl
last_none s o (r ∷ l) a = let n = none_of s r l a in last_step s o r l false (ne_eqb r.address s n.0) ∙ last_none s o l n.1

last_once : (s : ℕ) (l : List SenderRecord) → Once l → last_of s None (sender_records l) ≡ counter_of s l
unfolding last_of sender_records
last_once s [] o = refl
last_once s (r ∷ l) o =
    cases (eqb r.address s)
    (λ e. last_step s None r l true e
    ∙ last_none s (Some r.counter) l
    (subst (λ (x : ℕ). counter_of x l ≡ None) (eqb-true r.address s e) o.1.0) ∙ sym (rw e refl))
    (λ e. last_step s None r l false e ∙ last_once s l o.1.1 ∙ sym (rw e refl))

-- ---- states that recover to the same

pub record Alike (g h : State) : Type 0 where
  pub ceiling : h.ceiling ≡ g.ceiling
  pub key_number : h.key_number ≡ g.key_number
  pub counters : (s : ℕ) → counter_of s h.senders ≡ counter_of s g.senders

module _ (g : State) (o : Once g.senders) (f : StateFits g) where
  made : applied_all (shrunk_records g) blank ≡ applied_all (sender_records (sorted g.senders)) (front g.ceiling g.key_number)
  made =
      let ss = sender_records (sorted g.senders) in
      applied_append (key_number_records g.key_number) (ceiling_records g.ceiling ++ ss) blank
      ∙ ap (applied_all (ceiling_records g.ceiling ++ ss)) (key_number_made g.key_number)
      ∙ applied_append (ceiling_records g.ceiling) ss (front 0 g.key_number) ∙ ap (applied_all ss) (ceiling_made g.ceiling g.key_number)

  once_sorted : Once (sorted g.senders)
  once_sorted = once_rising (sorted g.senders) (each_sorted Marked g.senders (once_marked g.senders o)) (rising_sorted g.senders o f.senders)

  made_alike : Alike g (applied_all (shrunk_records g) blank)
  made_alike =
      let l = sorted g.senders in
      let t = front g.ceiling g.key_number in
      record {
        ceiling = ap (λ (h : State). h.ceiling) made ∙ (stay l t).0;
        key_number = ap (λ (h : State). h.key_number) made ∙ (stay l t).1;
        counters = λ s. ap (λ (h : State). counter_of s h.senders) made ∙ last_all s (sender_records l) t ∙ last_once s l once_sorted ∙ counter_sorted s g.senders o;
      }

module _ (g h : State) (a : Alike g h) (o : Once g.senders) (p : Once h.senders) (f : StateFits g) (q : StateFits h) where
  sorted_alike : sorted h.senders ≡ sorted g.senders
  sorted_alike = same_sorted h.senders g.senders p o q.senders f.senders a.counters

  pub records_alike : shrunk_records h ≡ shrunk_records g
  records_alike =
      let k = a.key_number in
      let c = a.ceiling in
      λ i. key_number_records (k i) ++ (ceiling_records (c i) ++ sender_records (sorted_alike i))

  pub number_alike : length h.senders ≡ length g.senders
  number_alike = sym (length_sorted h.senders) ∙ ap length sorted_alike ∙ length_sorted g.senders

-- ---- how many senders there are with one more record

-- one more, where the sender was none of them
with_one : Option ℕ → ℕ → ℕ
with_one None n = suc n
with_one (Some c) n = n

with_one_suc : (o : Option ℕ) (n : ℕ) → suc (with_one o n) ≡ with_one o (suc n)
unfolding with_one
with_one_suc None n = refl
with_one_suc (Some c) n = refl

length_noted : (s c : ℕ) (l : List SenderRecord) → length (noted s c l) ≡ with_one (counter_of s l) (length l)
unfolding noted with_one
length_noted s c [] = refl
length_noted s c (r ∷ l) =
    cases (eqb r.address s) (λ e. rw e refl) (λ e. rw e (ap suc (length_noted s c l) ∙ with_one_suc (counter_of s l) (length l)))

pub length_after : (r : JournalRecord) (l m : List SenderRecord) → length l ≡ length m → ((s : ℕ) → counter_of s l ≡ counter_of s m)
    → length (senders_after r l) ≡ length (senders_after r m)
unfolding senders_after
length_after (JournalRecord.Ceiling c) l m n same = n
length_after (JournalRecord.Sender s c) l m n same =
    length_noted s c l ∙ (λ i. with_one (same s i) (n i)) ∙ sym (length_noted s c m)
length_after (JournalRecord.KeyNumber k) l m n same = n

-- ---- a journal and the shrunk one

module _ (j : List ℕ) (b : Below 256 j) where
  pub shrunk_read : (records (shrunk j) ≡ shrunk_records (state_of j)) × (unknown_kind (shrunk j) ≡ false)
  unfolding shrunk
  shrunk_read = read_all (shrunk_records (state_of j)) (shrunk_fits (state_of j) (state_fits j b))

  pub shrunk_complete : complete_length (shrunk j) ≡ length (shrunk j)
  unfolding shrunk
  shrunk_complete = ap total_length shrunk_read.0 ∙ total_bytes (shrunk_records (state_of j))

  pub shrunk_alike : Alike (state_of j) (state_of (shrunk j))
  unfolding state_of
  shrunk_alike =
      let e = ap (λ (rs : List JournalRecord). applied_all rs blank) shrunk_read.0 in
      subst (Alike (state_of j)) (sym e) (made_alike (state_of j) (once_state j) (state_fits j b))

pub shrunk_below : (j : List ℕ) → Below 256 (shrunk j)
unfolding shrunk
shrunk_below j = bytes_below (shrunk_records (state_of j))

-- ---- the length of a state's records is at most that of any records that make it

size : State → ℕ
size g = length (bytes_of (shrunk_records g))

noted_longest : (s c : ℕ) (l : List SenderRecord) → length (noted s c l) ≤ suc (length l)
unfolding noted
noted_longest s c [] = omega arith
noted_longest s c (r ∷ l) = cases (eqb r.address s) (λ e. rw e (omega arith)) (λ e. rw e (omega (arith, noted_longest s c l)))

one_more : (r : JournalRecord) (g : State) → size (applied r g) ≤ size g + length (record_bytes r)
unfolding size front_length ceiling_after key_number_after senders_after record_bytes le
one_more (JournalRecord.Ceiling c) g =
    let h = applied (JournalRecord.Ceiling c) g in omega (arith, length_shrunk g, length_shrunk h, length_ceiling h.ceiling)
one_more (JournalRecord.Sender s c) g =
    let h = applied (JournalRecord.Sender s c) g in omega (arith, length_shrunk g, length_shrunk h, noted_longest s c g.senders)
one_more (JournalRecord.KeyNumber k) g =
    let h = applied (JournalRecord.KeyNumber k) g in omega (arith, length_shrunk g, length_shrunk h, length_key_number h.key_number)

all_more : (rs : List JournalRecord) (g : State) → size (applied_all rs g) ≤ size g + total_length rs
unfolding applied_all total_length
all_more [] g = omega arith
all_more (r ∷ rs) g = omega (arith, all_more rs (applied r g), one_more r g)

pub shrunk_within : (j : List ℕ) → length (shrunk j) ≤ complete_length j
unfolding shrunk state_of size key_number_records ceiling_records sender_records sorted
shrunk_within j = omega (arith, all_more (records j) blank)
