-- A record's bytes read back as the record, whatever stands behind them, and a part of them as none. The bytes of a complete record are the
-- record's. Assumes nothing.
use mathlib.Core.Path.{◌≡◌, refl, sym, ap, ◌∙◌}
use mathlib.Core.Bool.{true, false, true≢false}
use mathlib.Core.List.{List, [], ◌∷◌, ◌++◌}
use Prim.Native.Nat.{ℕ, zero, suc, ◌+◌, ◌%◌, ◌^◌, ◌<◌, ◌≤◌}
use native.Mathlib.Omega.{arith}
use lib.ListN.{length, get_or, take, length-append, length-take}
use lib.Seq.{drop_at, take-add}
use Rattle.octets.specs.Strings.{Below}
use Rattle.octets.specs.Numbers.{le, le_at}
use Rattle.octets.proofs.Numbers.{le_at_behind, le_at_le, le_le_at}
use Rattle.journal.specs.declared.format.JournalRecord.{JournalRecord}
use Rattle.journal.specs.Format.{is_kind, body_length, record_at, record_bytes, kinds_from, records_from, records, some_unknown, unknown_kind}
use Rattle.journal.specs.Claims.{Fits}
use Rattle.journal.proofs.Bodies.{by_kind}
use Rattle.journal.proofs.Whole.{records_whole, records_short, unknown_behind, unknown_short}

-- ---- a kind k with its body b

module _ (k : ℕ) (b : List ℕ) (w : is_kind k ≡ true) (e : length b ≡ body_length k) where
  -- and t behind it
  whole_by : (t : List ℕ) → (records (k ∷ (b ++ t)) ≡ record_at (k ∷ (b ++ t)) 0 ∷ records t) × (unknown_kind (k ∷ (b ++ t)) ≡ unknown_kind t)
  whole_by t =
      let rest = drop_at b t (body_length k) e in (
        records_whole k (b ++ t) w (rw (length-append b t) (omega (arith, e))) ∙ ap (λ (l : List ℕ). record_at (k ∷ (b ++ t)) 0 ∷ records l) rest,
        unknown_behind k (b ++ t) w ∙ ap unknown_kind rest,
      )

  part_by : (n : ℕ) → n < suc (length b) → (records (take n (k ∷ b)) ≡ []) × (unknown_kind (take n (k ∷ b)) ≡ false)
  unfolding kinds_from records_from some_unknown
  part_by zero h = (refl, refl)
  part_by (suc n) h =
      let s : length (take n b) < body_length k = rw (length-take n b) (omega (arith, h, e)) in (records_short k (take n b) w s, unknown_short k (take n b) w s)

-- ---- a record

pub part_of_record : (r : JournalRecord) (n : ℕ) → n < length (record_bytes r) → (records (take n (record_bytes r)) ≡ []) × (unknown_kind (take n (record_bytes r)) ≡ false)
unfolding record_bytes body_length le
part_of_record (JournalRecord.Ceiling c) n h = part_by 1 (le 4 c) refl refl n h
part_of_record (JournalRecord.Sender s c) n h = part_by 2 (le 8 s ++ le 4 c) refl refl n h
part_of_record (JournalRecord.KeyNumber k) n h = part_by 3 (le 1 k) refl refl n h

-- the number of n bytes behind the first bytes p
number : (n x : ℕ) (p t : List ℕ) (i : ℕ) → i ≡ length p + 0 → x < 256 ^ n → le_at n (p ++ (le n x ++ t)) i ≡ x
number n x p t i e h = rw e (le_at_behind n p (le n x ++ t) 0 ∙ le_at_le n x t h)

-- the record that its bytes give
read_record_lem : (r : JournalRecord) (t : List ℕ) → Fits r → record_at (record_bytes r ++ t) 0 ≡ r
unfolding record_at record_bytes le
read_record_lem (JournalRecord.Ceiling c) t h = ap JournalRecord.Ceiling (number 4 c (1 ∷ []) t 1 refl h)
read_record_lem (JournalRecord.Sender s c) t h =
    λ x. JournalRecord.Sender (number 8 s (2 ∷ []) (le 4 c ++ t) 1 refl h.0 x) (number 4 c (2 ∷ le 8 s) t 9 refl h.1 x)
read_record_lem (JournalRecord.KeyNumber k) t h = let e : k % 256 ≡ k = omega (arith, h) in ap JournalRecord.KeyNumber e

framed : (r : JournalRecord) (t : List ℕ) → (records (record_bytes r ++ t) ≡ record_at (record_bytes r ++ t) 0 ∷ records t) × (unknown_kind (record_bytes r ++ t) ≡ unknown_kind t)
unfolding record_bytes body_length le
framed (JournalRecord.Ceiling c) t = whole_by 1 (le 4 c) refl refl t
framed (JournalRecord.Sender s c) t = whole_by 2 (le 8 s ++ le 4 c) refl refl t
framed (JournalRecord.KeyNumber k) t = whole_by 3 (le 1 k) refl refl t

pub one_record : (r : JournalRecord) (t : List ℕ) → Fits r → records (record_bytes r ++ t) ≡ r ∷ records t
one_record r t h = (framed r t).0 ∙ ap (λ (x : JournalRecord). x ∷ records t) (read_record_lem r t h)

pub record_known : (r : JournalRecord) (t : List ℕ) → unknown_kind (record_bytes r ++ t) ≡ unknown_kind t
record_known r t = (framed r t).1

-- ---- the bytes of a complete record, read from a byte string

one_byte : (l : List ℕ) → 1 ≤ length l → Below 256 l → le 1 (get_or l 0 0) ≡ take 1 l
unfolding le
one_byte [] h b = absurd (omega (arith, h))
one_byte (x ∷ l) h b = let f = b 0 in let e : x % 256 ≡ x = omega (arith, f) in ap (λ (y : ℕ). y ∷ []) e

module _ (l : List ℕ) where
  abbrev Bytes : ℕ → Type 0
  Bytes k = is_kind k ≡ true → body_length k ≤ length l → Below 256 (k ∷ l) → record_bytes (record_at (k ∷ l) 0) ≡ k ∷ take (body_length k) l

  pub record_bytes_lem : (k : ℕ) → Bytes k
  unfolding record_at record_bytes body_length
  record_bytes_lem k =
      by_kind Bytes
      (λ _ h b. ap (λ (x : List ℕ). 1 ∷ x) (le_le_at 4 (1 ∷ l) 1 b (omega (arith, h))))
      (λ _ h b. ap (λ (x : List ℕ). 2 ∷ x)
      ((λ t. le_le_at 8 (2 ∷ l) 1 b (omega (arith, h)) t ++ le_le_at 4 (2 ∷ l) 9 b (omega (arith, h)) t) ∙ sym (take-add 8 4 l)))
      (λ _ h b. ap (λ (x : List ℕ). 3 ∷ x) (one_byte l h (λ i. b (suc i))))
      k (λ e _ w. absurd (true≢false (sym w ∙ e)))
