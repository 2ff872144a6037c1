-- The bytes of a shrunk journal: their lengths, one sender's record behind the others, and all of them from what a pass gathered. Assumes
-- nothing.
use Rattle.std.specs.Prelude.{Option, Some, None}
use mathlib.Core.Path.{◌≡◌, refl, sym, ap, ◌∙◌}
use mathlib.Core.List.{List, [], ◌∷◌, ◌++◌, append_assoc, append-nil}
use Prim.Native.Nat.{ℕ, suc, ◌+◌, ◌*◌, ◌<◌, ◌≤◌}
use native.Mathlib.Omega.{arith}
use lib.Dec.{eqb}
use lib.ListN.{length, get_or, take, length-append, length-take}
use Rattle.std.proofs.lemmas.List.{take_more}
use borrow.Table.Steps.{cases}
use Rattle.octets.specs.Strings.{over}
use Rattle.octets.specs.Numbers.{le}
use Rattle.octets.proofs.Strings.{over_then}
use Rattle.senders.specs.declared.SenderRecord.{SenderRecord}
use Rattle.journal.specs.declared.{Recovery.Recovery, format.JournalRecord.JournalRecord}
use Rattle.journal.specs.Format.{record_bytes, bytes_of}
use Rattle.journal.specs.Recovery.{State}
use Rattle.journal.specs.Shrinking.{address_before, inserted, sorted, key_number_records, ceiling_records, sender_records, shrunk_records}
use Rattle.journal.specs.Scan.{shrunk_of}

-- ---- end to end

bytes_append : (rs qs : List JournalRecord) → bytes_of (rs ++ qs) ≡ bytes_of rs ++ bytes_of qs
bytes_append [] qs = refl
bytes_append (r ∷ rs) qs =
    ap (λ (l : List ℕ). record_bytes r ++ l) (bytes_append rs qs) ∙ sym (append_assoc (record_bytes r) (bytes_of rs) (bytes_of qs))

senders_append : (l m : List SenderRecord) → sender_records (l ++ m) ≡ sender_records l ++ sender_records m
unfolding sender_records
senders_append [] m = refl
senders_append (r ∷ l) m = ap (λ (rs : List JournalRecord). JournalRecord.Sender r.address r.counter ∷ rs) (senders_append l m)

-- ---- lengths

pub length_senders : (l : List SenderRecord) → length (bytes_of (sender_records l)) ≡ 13 * length l
unfolding sender_records record_bytes le
length_senders [] = refl
length_senders (r ∷ l) = omega (arith, length_senders l)

pub length_key_number : (o : Option ℕ) → length (bytes_of (key_number_records o)) ≤ 2
unfolding key_number_records record_bytes le
length_key_number None = omega arith
length_key_number (Some k) = omega arith

pub length_ceiling : (c : ℕ) → length (bytes_of (ceiling_records c)) ≤ 5
unfolding ceiling_records record_bytes le
length_ceiling c = cases (eqb c 0) (λ e. rw e (omega arith)) (λ e. rw e (omega arith))

length_inserted : (r : SenderRecord) (l : List SenderRecord) → length (inserted r l) ≡ suc (length l)
unfolding inserted
length_inserted r [] = refl
length_inserted r (q ∷ l) =
    cases (address_before r.address q.address) (λ e. rw e refl) (λ e. rw e (ap suc (length_inserted r l)))

pub length_sorted : (l : List SenderRecord) → length (sorted l) ≡ length l
unfolding sorted
length_sorted [] = refl
length_sorted (r ∷ l) = length_inserted r (sorted l) ∙ ap suc (length_sorted l)

-- ---- the whole journal

-- the length of the records before the senders
unfoldable pub front_length : Option ℕ → ℕ → ℕ
front_length o c = length (bytes_of (key_number_records o)) + length (bytes_of (ceiling_records c))

-- the three parts end to end
parts : (f : Recovery) (ss : List SenderRecord) → bytes_of (shrunk_of f ss)
    ≡ bytes_of (key_number_records f.key_number) ++ (bytes_of (ceiling_records f.ceiling) ++ bytes_of (sender_records ss))
parts f ss =
    bytes_append (key_number_records f.key_number) _
    ∙ ap (λ (l : List ℕ). bytes_of (key_number_records f.key_number) ++ l) (bytes_append (ceiling_records f.ceiling) (sender_records ss))

pub length_shrunk_of : (f : Recovery) (ss : List SenderRecord)
    → length (bytes_of (shrunk_of f ss)) ≡ length (bytes_of (key_number_records f.key_number)) + length (bytes_of (ceiling_records f.ceiling)) + 13 * length ss
length_shrunk_of f ss =
    let k = bytes_of (key_number_records f.key_number) in
    let c = bytes_of (ceiling_records f.ceiling) in
    ap length (parts f ss)
    ∙ omega (arith, length-append k (c ++ bytes_of (sender_records ss)), length-append c (bytes_of (sender_records ss)), length_senders ss)

pub length_shrunk : (g : State) → length (bytes_of (shrunk_records g)) ≡ front_length g.key_number g.ceiling + 13 * length g.senders
unfolding front_length
length_shrunk g =
    length_shrunk_of (record { ceiling = g.ceiling; key_number = g.key_number; complete = 0 }) (sorted g.senders) ∙ omega (arith, length_sorted g.senders)

-- ---- written one behind the other: the records before the senders, and those of the first i senders

module _ (f : Recovery) (ss : List SenderRecord) where
  abbrev pub first : ℕ → List ℕ
  first i = bytes_of (shrunk_of f (take i ss))

  first_none : first 0 ≡ bytes_of (key_number_records f.key_number) ++ bytes_of (ceiling_records f.ceiling)
  unfolding sender_records
  first_none = parts f [] ∙ ap (λ (l : List ℕ). bytes_of (key_number_records f.key_number) ++ l) (append-nil (bytes_of (ceiling_records f.ceiling)))

  -- the records before the senders, put one behind the other
  pub first_put : (o o₁ o₂ : List ℕ) (n m : ℕ) (rs qs : List JournalRecord) → rs ≡ key_number_records f.key_number → qs ≡ ceiling_records f.ceiling
      → n ≡ 0 + length (bytes_of rs) → o₁ ≡ over o 0 (bytes_of rs) → m ≡ n + length (bytes_of qs) → o₂ ≡ over o₁ n (bytes_of qs)
      → (m ≡ length (first 0)) × (o₂ ≡ over o 0 (first 0))
  first_put o o₁ o₂ n m rs qs e d p q p' q' =
      rw (first_none, ← e, ← d)
      (omega (arith, p, p', length-append (bytes_of rs) (bytes_of qs)), over_then o o₁ o₂ 0 n (bytes_of rs) (bytes_of qs) (omega arith) p q q')

  module _ (i : ℕ) (h : i < length ss) (d : SenderRecord) where
    abbrev sender : List ℕ
    sender = record_bytes (JournalRecord.Sender (get_or ss i d).address (get_or ss i d).counter)

    records_more : shrunk_of f (take (i + 1) ss) ≡ shrunk_of f (take i ss) ++ (JournalRecord.Sender (get_or ss i d).address (get_or ss i d).counter ∷ [])
    unfolding sender_records
    records_more =
        let k = key_number_records f.key_number in
        let c = ceiling_records f.ceiling in
        let s = sender_records (take i ss) in
        rw (take_more ss i d h, senders_append) (ap (λ (l : List JournalRecord). k ++ l) (sym (append_assoc c s _)) ∙ sym (append_assoc k (c ++ s) _))

    first_more : first (i + 1) ≡ first i ++ sender
    first_more =
        ap bytes_of records_more
        ∙ bytes_append (shrunk_of f (take i ss)) _
        ∙ ap (λ (l : List ℕ). first i ++ l) (append-nil sender)

    -- one sender's record put behind them
    pub first_next : (o o₁ o₂ : List ℕ) (n m : ℕ) → n ≡ length (first i) → o₁ ≡ over o 0 (first i) → m ≡ n + length sender → o₂ ≡ over o₁ n sender
        → (m ≡ length (first (i + 1))) × (o₂ ≡ over o 0 (first (i + 1)))
    first_next o o₁ o₂ n m p q p' q' =
        rw first_more
        (omega (arith, p, p', length-append (first i) sender), over_then o o₁ o₂ 0 n (first i) sender (omega arith) (omega (arith, p)) q q')

    pub first_within : length (first i) + length sender ≤ length (bytes_of (shrunk_of f ss))
    unfolding record_bytes le
    first_within = omega (arith, h, length_shrunk_of f (take i ss), length_shrunk_of f ss, length-take i ss)
