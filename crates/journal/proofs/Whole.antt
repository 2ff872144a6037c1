-- What stands at the front of a journal: a complete record, an incomplete one, a byte that is no kind, or its end. Assumes nothing.
use Rattle.std.specs.Prelude.{Option, Some, None, Result, Ok, Err}
use mathlib.Core.Path.{◌≡◌, refl, sym, ap, ◌∙◌}
use mathlib.Core.Bool.{Bool, true, false, true≢false}
use mathlib.Core.List.{List, [], ◌∷◌}
use Prim.Native.Nat.{ℕ, zero, suc, ◌<◌, ◌≤◌}
use native.Mathlib.Omega.{arith}
use lib.Dec.{eqb, leb}
use lib.ListN.{length, get_or, drop, length-drop}
use borrow.Author.Tests.{eqb-true, le-leb, lt-leb, leb-true, leb-false}
use borrow.Table.Steps.{cases}
use Rattle.octets.specs.Numbers.{le}
use Rattle.octets.specs.declared.refusals.Refusal.{Refusal}
use Rattle.journal.specs.declared.format.{Kind.Kind, JournalRecord.JournalRecord}
use Rattle.journal.specs.Format.{is_kind, body_length, record_at, record_bytes, kinds_from, records_from, records, some_unknown, unknown_kind}
use Rattle.journal.specs.Scan.{kind_of, byte_of, first_record}

-- ---- the bytes of a body are skipped

pub records_skip : (n : ℕ) (l : List ℕ) → records_from n l ≡ records (drop n l)
unfolding records_from
records_skip zero l = refl
records_skip (suc n) [] = refl
records_skip (suc n) (b ∷ l) = records_skip n l

pub kinds_skip : (n : ℕ) (l : List ℕ) → kinds_from n l ≡ kinds_from 0 (drop n l)
unfolding kinds_from
kinds_skip zero l = refl
kinds_skip (suc n) [] = refl
kinds_skip (suc n) (b ∷ l) = kinds_skip n l

-- a body that is not all there has no kind in it
pub kinds_short : (n : ℕ) (l : List ℕ) → length l ≤ n → kinds_from n l ≡ []
unfolding kinds_from
kinds_short zero [] h = refl
kinds_short zero (k ∷ l) h = absurd (omega (arith, h))
kinds_short (suc n) [] h = refl
kinds_short (suc n) (b ∷ l) h = kinds_short n l (omega (arith, h))

-- ---- a byte k with the bytes l behind it

module _ (k : ℕ) (l : List ℕ) where
  pub records_whole : is_kind k ≡ true → body_length k ≤ length l → records (k ∷ l) ≡ record_at (k ∷ l) 0 ∷ records (drop (body_length k) l)
  unfolding records_from
  records_whole w h = rw (w, le-leb _ _ h, records_skip (body_length k) l)

  pub records_short : is_kind k ≡ true → length l < body_length k → records (k ∷ l) ≡ []
  unfolding records_from
  records_short w h = rw (w, lt-leb _ _ h)

  pub unknown_behind : is_kind k ≡ true → unknown_kind (k ∷ l) ≡ unknown_kind (drop (body_length k) l)
  unfolding kinds_from some_unknown
  unknown_behind h = rw (h, kinds_skip (body_length k) l)

  pub unknown_short : is_kind k ≡ true → length l < body_length k → unknown_kind (k ∷ l) ≡ false
  unfolding kinds_from some_unknown
  unknown_short h s = rw (h, kinds_short (body_length k) l (omega (arith, s)))

  pub unknown_here : is_kind k ≡ false → unknown_kind (k ∷ l) ≡ true
  unfolding kinds_from some_unknown
  unknown_here h = rw h

-- ---- the record at place i of a journal

pub length_at : (j : List ℕ) (i : ℕ) → is_kind (get_or j i 0) ≡ true → length (record_bytes (record_at j i)) ≡ suc (body_length (get_or j i 0))
unfolding record_at record_bytes body_length le
length_at j i w =
    let k = get_or j i 0 in
    cases (eqb k 1) (λ e. rw e refl)
    (λ e. rw e (cases (eqb k 2) (λ f. rw f refl)
    (λ f. rw f (cases (eqb k 3) (λ g. rw g refl) (λ g. absurd (true≢false (sym w ∙ rw (e, f, g))))))))

pub record_length_pos : (r : JournalRecord) → 0 < length (record_bytes r)
unfolding record_bytes
record_length_pos (JournalRecord.Ceiling c) = omega arith
record_length_pos (JournalRecord.Sender s c) = omega arith
record_length_pos (JournalRecord.KeyNumber k) = omega arith

-- ---- the record at the front

-- r is the record at the front of l, and the rest stands behind it
pub record IsFront (l : List ℕ) (r : JournalRecord) : Type 0 where
  pub within : length (record_bytes r) ≤ length l
  pub records : records l ≡ r ∷ records (drop (length (record_bytes r)) l)
  pub known : unknown_kind l ≡ unknown_kind (drop (length (record_bytes r)) l)

pub front_given : (l : List ℕ) (r : JournalRecord) → first_record l ≡ Some r → IsFront l r
unfolding first_record
front_given [] r e = let f : ◌≡◌ {A = Option JournalRecord} None (Some r) = e in absurd (cc)
front_given (k ∷ l) r e =
    cases (is_kind k)
    (λ w. cases (leb (body_length k) (length l))
    (λ h. let f : Some (record_at (k ∷ l) 0) ≡ Some r = (rw (w, h) at e) in
    let q : record_at (k ∷ l) 0 ≡ r = (cc) in
    let n : length (record_bytes r) ≡ suc (body_length k) = ap (λ (x : JournalRecord). length (record_bytes x)) (sym q) ∙ length_at (k ∷ l) 0 w in
    record {
      within = omega (arith, n, leb-true (body_length k) (length l) h);
      records = rw n (records_whole k l w (leb-true (body_length k) (length l) h) ∙ ap (λ (x : JournalRecord). x ∷ records (drop (body_length k) l)) q);
      known = rw n (unknown_behind k l w);
    })
    (λ h. let f : ◌≡◌ {A = Option JournalRecord} None (Some r) = (rw (w, h) at e) in absurd (cc)))
    (λ w. let f : ◌≡◌ {A = Option JournalRecord} None (Some r) = (rw w at e) in absurd (cc))

pub front_shorter : (l : List ℕ) (r : JournalRecord) (m : List ℕ) → (first_record l ≡ Some r) × (m ≡ drop (length (record_bytes r)) l) → length m < length l
front_shorter l r m q =
    let f = front_given l r q.0 in
    omega (arith, ap length q.1, length-drop (length (record_bytes r)) l, f.within, record_length_pos r)

-- where there is none, a byte of a known kind begins an incomplete one
pub front_none : (l : List ℕ) → first_record l ≡ None → (0 < length l → is_kind (get_or l 0 0) ≡ true) → (unknown_kind l ≡ false) × (records l ≡ [])
unfolding first_record kinds_from some_unknown records_from
front_none [] e w = (refl, refl)
front_none (k ∷ l) e w =
    let known : is_kind k ≡ true = w (omega arith) in
    cases (leb (body_length k) (length l))
    (λ h. let f : Some (record_at (k ∷ l) 0) ≡ None = (rw (known, h) at e) in absurd (cc))
    (λ h. let s = leb-false (body_length k) (length l) h in (unknown_short k l known s, records_short k l known s))

pub front_unknown : (l : List ℕ) → 0 < length l → is_kind (get_or l 0 0) ≡ false → unknown_kind l ≡ true
front_unknown [] h w = absurd (omega (arith, h))
front_unknown (k ∷ l) h w = unknown_here k l w

-- ---- the kind of a byte

module _ (k : ℕ) where
  either_kind : (P : ℕ → Result Kind Refusal → Bool → Type 0) → P 1 (Ok Kind.Ceiling) true → P 2 (Ok Kind.Sender) true → P 3 (Ok Kind.KeyNumber) true
      → P k (Err Refusal.JournalKind) false → P k (kind_of k) (is_kind k)
  either_kind P a b c d =
      cases (eqb k 1) (λ e. rw (eqb-true k 1 e) a)
      (λ e. cases (eqb k 2) (λ f. rw (eqb-true k 2 f) b)
      (λ f. cases (eqb k 3) (λ g. rw (eqb-true k 3 g) c) (λ g. rw (e, f, g) d)))

  -- it is known, and the kind's byte
  pub kind_known : (x : Kind) → kind_of k ≡ Ok x → (is_kind k ≡ true) × (byte_of x ≡ k)
  kind_known x =
      either_kind (λ n r b. r ≡ Ok x → (b ≡ true) × (byte_of x ≡ n))
      (λ e. let f : Kind.Ceiling ≡ x = (cc) in (refl, rw (← f) refl))
      (λ e. let f : Kind.Sender ≡ x = (cc) in (refl, rw (← f) refl))
      (λ e. let f : Kind.KeyNumber ≡ x = (cc) in (refl, rw (← f) refl))
      (λ e. absurd (cc))

  pub kind_unknown : (r : Refusal) → kind_of k ≡ Err r → (is_kind k ≡ false) × (Refusal.JournalKind ≡ r)
  kind_unknown r =
      either_kind (λ n q b. q ≡ Err r → (b ≡ false) × (Refusal.JournalKind ≡ r))
      (λ e. absurd (cc)) (λ e. absurd (cc)) (λ e. absurd (cc)) (λ e. (refl, (cc)))
