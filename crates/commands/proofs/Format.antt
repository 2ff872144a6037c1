-- The one inverse law of all formats: the values that were written are read back, whatever follows them; and values
-- that were read fit their fields. Fields go by induction on their list, entries by induction on theirs.
-- Assumes nothing.
use mathlib.Core.Path.{◌≡◌, refl, sym, ap, ◌∙◌}
use mathlib.Core.Bool.{Bool, true, false, ◌&&◌, and-eq-true_iff, and-true, true≢false}
use mathlib.Core.Logic.{⊎_elim, ◌⊎◌, inl, inr}
use native.Mathlib.Decide.{dec_lt}
use mathlib.Core.List.{List, [], ◌∷◌, ◌++◌, append_assoc, append-nil}
use Prim.Native.Nat.{ℕ, zero, suc, ◌+◌, ◌*◌, ◌^◌, ◌≤◌, ◌<◌}
use native.Mathlib.Nat.{add_assoc, add-zero, add_comm, suc-mul, zero-mul}
use native.Mathlib.Numerals.{add-one, one-add}
use native.Mathlib.Omega.{arith}
use borrow.Author.Tests.{ltb-true, lt-ltb}
use lib.ListN.{length, get_or, take, drop, length-append, take-append-drop, length-drop}
use lib.Seq.{get_or-append_seam, drop_at, take_all}
use lib.Dec.{ltb}
use lib.Pow.{pow_pos}
use Rattle.octets.specs.Strings.{tab, Below}
use Rattle.octets.specs.Numbers.{le, le_at}
use Rattle.octets.specs.Fields.{fields, packed, Held}
use Rattle.octets.proofs.Strings.{length_tab, tab_ext, tab_get_or}
use Rattle.octets.proofs.Numbers.{length_le, le_at_lt, le_at_behind, le_at_le}
use Rattle.octets.proofs.Fields.{fields_held, fields_packed}
use Rattle.commands.specs.Format.{Part, Field, Format, Values, part_sizes, kept_count, kept, filled, held_parts, size, width, read_field, write_field, held_field, sizes, widths, read_fields, write_fields, held_fields, summed, head_end, announced, body_end, values, write_entries, body_bytes, held_entries, held_values}
use Rattle.commands.specs.Format.Part.{keep, skip}
use Rattle.commands.specs.Format.Field.{byte, number, bits}

-- ---- truth values

pub both : {a b : Bool} → a ≡ true → b ≡ true → (a && b) ≡ true
both {a} {b} p q = (and-eq-true_iff a b).1 (p, q)

pub first : (a b : Bool) → (a && b) ≡ true → a ≡ true
first a b e = ((and-eq-true_iff a b).0 e).0

pub second : (a b : Bool) → (a && b) ≡ true → b ≡ true
second a b e = ((and-eq-true_iff a b).0 e).1

-- ---- each value below what its field holds, as a product that computes

infixr 4 ◌&◌
-- one fact and the rest of such a product
pub ◌&◌ : {A B : Type 0} → A → B → A × B
a & b = (a, b)

abbrev HoldParts : List Part → List ℕ → Type 0
HoldParts [] vs = Unit {0}
HoldParts (keep k ∷ ps) vs = (get_or vs 0 0 < 2 ^ k) × HoldParts ps (drop 1 vs)
HoldParts (skip k ∷ ps) vs = HoldParts ps vs

abbrev HoldField : Field → List ℕ → Type 0
HoldField byte vs = get_or vs 0 0 < 256
HoldField (number n) vs = get_or vs 0 0 < 256 ^ n
HoldField (bits ps) vs = HoldParts ps vs

abbrev pub HoldFields : List Field → List ℕ → Type 0
HoldFields [] vs = Unit {0}
HoldFields (f ∷ fs) vs = HoldField f vs × HoldFields fs (drop (width f) vs)

parts_hold : (ps : List Part) (vs : List ℕ) → HoldParts ps vs → held_parts ps vs ≡ true
unfolding held_parts
parts_hold [] vs h = refl
parts_hold (keep k ∷ ps) vs h = both (lt-ltb _ _ h.0) (parts_hold ps (drop 1 vs) h.1)
parts_hold (skip k ∷ ps) vs h = parts_hold ps vs h

field_holds : (f : Field) (vs : List ℕ) → HoldField f vs → held_field f vs ≡ true
unfolding held_field
field_holds byte vs h = lt-ltb _ _ h
field_holds (number n) vs h = lt-ltb _ _ h
field_holds (bits ps) vs h = parts_hold ps vs h

pub fields_hold : (fs : List Field) (vs : List ℕ) → HoldFields fs vs → held_fields fs vs ≡ true
unfolding held_fields
fields_hold [] vs h = refl
fields_hold (f ∷ fs) vs h = both (field_holds f vs h.0) (fields_hold fs (drop (width f) vs) h.1)

-- ---- the parts of a byte

filled_held : (ps : List Part) (vs : List ℕ) → held_parts ps vs ≡ true → Held (part_sizes ps) (filled ps vs)
unfolding held_parts part_sizes filled
filled_held [] vs e = tt
filled_held (keep k ∷ ps) vs e =
    (ltb-true _ _ (first (ltb (get_or vs 0 0) (2 ^ k)) _ e), filled_held ps (drop 1 vs) (second (ltb (get_or vs 0 0) (2 ^ k)) _ e))
filled_held (skip k ∷ ps) vs e = (pow_pos k, filled_held ps vs e)

kept_filled : (ps : List Part) (vs : List ℕ) → kept_count ps ≤ length vs → kept ps (filled ps vs) ≡ take (kept_count ps) vs
unfolding kept filled kept_count
kept_filled [] vs h = refl
kept_filled (keep k ∷ ps) [] h = absurd (omega arith)
kept_filled (keep k ∷ ps) (v ∷ vs) h = rw (one-add (kept_count ps)) (ap (λ (l : List ℕ). v ∷ l) (kept_filled ps vs (omega arith)))
kept_filled (skip k ∷ ps) vs h = kept_filled ps vs h

length_kept : (ps : List Part) (ws : List ℕ) → length (kept ps ws) ≡ kept_count ps
unfolding kept kept_count
length_kept [] ws = refl
length_kept (keep k ∷ ps) ws = rw (one-add (kept_count ps)) (ap suc (length_kept ps (drop 1 ws)))
length_kept (skip k ∷ ps) ws = length_kept ps (drop 1 ws)

kept_held : (ps : List Part) (ws xs : List ℕ) → Held (part_sizes ps) ws → held_parts ps (kept ps ws ++ xs) ≡ true
unfolding kept held_parts part_sizes
kept_held [] ws xs h = refl
kept_held (keep k ∷ ps) [] xs h = absurd h
kept_held (keep k ∷ ps) (w ∷ ws) xs h = both (lt-ltb w (2 ^ k) h.0) (kept_held ps ws xs h.1)
kept_held (skip k ∷ ps) [] xs h = absurd h
kept_held (skip k ∷ ps) (w ∷ ws) xs h = kept_held ps ws xs h.1

-- ---- a field

length_write_field : (f : Field) (vs : List ℕ) → length (write_field f vs) ≡ size f
unfolding write_field size
length_write_field byte vs = refl
length_write_field (number n) vs = length_le n (get_or vs 0 0)
length_write_field (bits ps) vs = refl

length_read_field : (f : Field) (s : List ℕ) (i : ℕ) → length (read_field f s i) ≡ width f
unfolding read_field width
length_read_field byte s i = refl
length_read_field (number n) s i = refl
length_read_field (bits ps) s i = length_kept ps (fields (part_sizes ps) (get_or s i 0))

take_one : (vs : List ℕ) → 1 ≤ length vs → get_or vs 0 0 ∷ [] ≡ take 1 vs
take_one [] h = absurd (omega arith)
take_one (v ∷ vs) h = refl

field_back : (f : Field) (vs p rest : List ℕ) → width f ≤ length vs → held_field f vs ≡ true
    → read_field f (p ++ (write_field f vs ++ rest)) (length p) ≡ take (width f) vs
unfolding read_field write_field width held_field
field_back byte vs p rest h e = ap (λ (x : ℕ). x ∷ []) (get_or-append_seam p (get_or vs 0 0) rest 0) ∙ take_one vs h
field_back (number n) vs p rest h e =
    ap (λ (x : ℕ). x ∷ [])
    (ap (le_at n (p ++ (le n (get_or vs 0 0) ++ rest))) (sym (add-zero (length p)))
    ∙ le_at_behind n p (le n (get_or vs 0 0) ++ rest) 0 ∙ le_at_le n (get_or vs 0 0) rest (ltb-true _ _ e))
    ∙ take_one vs h
field_back (bits ps) vs p rest h e =
    ap (λ (x : ℕ). kept ps (fields (part_sizes ps) x)) (get_or-append_seam p (packed (part_sizes ps) (filled ps vs)) rest 0)
    ∙ ap (kept ps) (fields_packed (part_sizes ps) (filled ps vs) (filled_held ps vs e))
    ∙ kept_filled ps vs h

field_held : (f : Field) (s : List ℕ) (i : ℕ) (xs : List ℕ) → Below 256 s → held_field f (read_field f s i ++ xs) ≡ true
unfolding read_field held_field
field_held byte s i xs b = lt-ltb _ _ (b i)
field_held (number n) s i xs b = lt-ltb _ _ (le_at_lt n s i b)
field_held (bits ps) s i xs b = kept_held ps _ xs (fields_held (part_sizes ps) (get_or s i 0))

-- ---- a list of fields

pub length_write_fields : (fs : List Field) (vs : List ℕ) → length (write_fields fs vs) ≡ sizes fs
unfolding write_fields sizes
length_write_fields [] vs = refl
length_write_fields (f ∷ fs) vs =
    length-append (write_field f vs) _ ∙ rw (length_write_field f vs, length_write_fields fs (drop (width f) vs)) refl

pub length_read_fields : (fs : List Field) (s : List ℕ) (i : ℕ) → length (read_fields fs s i) ≡ widths fs
unfolding read_fields widths
length_read_fields [] s i = refl
length_read_fields (f ∷ fs) s i =
    length-append (read_field f s i) _ ∙ rw (length_read_field f s i, length_read_fields fs s (i + size f)) refl

pub fields_back : (fs : List Field) (vs p rest : List ℕ) → length vs ≡ widths fs → held_fields fs vs ≡ true
    → read_fields fs (p ++ (write_fields fs vs ++ rest)) (length p) ≡ vs
unfolding read_fields write_fields widths held_fields
fields_back [] [] p rest l e = refl
fields_back [] (v ∷ vs) p rest l e = absurd (omega arith)
fields_back (f ∷ fs) vs p rest l e =
    let w = write_field f vs in
    let more = drop (width f) vs in
    let tail = write_fields fs more in
    let n : length (p ++ w) ≡ length p + size f = length-append p w ∙ ap (λ (x : ℕ). length p + x) (length_write_field f vs) in
    let one : read_field f (p ++ ((w ++ tail) ++ rest)) (length p) ≡ take (width f) vs =
    rw (append_assoc w tail rest) (field_back f vs p (tail ++ rest) (omega arith) (first (held_field f vs) _ e)) in
    let shape : p ++ ((w ++ tail) ++ rest) ≡ (p ++ w) ++ (tail ++ rest) =
    rw (append_assoc w tail rest) (sym (append_assoc p w (tail ++ rest))) in
    let two : read_fields fs (p ++ ((w ++ tail) ++ rest)) (length p + size f) ≡ more =
    ap (λ (s : List ℕ). read_fields fs s (length p + size f)) shape
    ∙ ap (read_fields fs ((p ++ w) ++ (tail ++ rest))) (sym n)
    ∙ fields_back fs more (p ++ w) rest (length-drop (width f) vs ∙ omega arith) (second (held_field f vs) _ e) in
    (λ i. one i ++ two i) ∙ take-append-drop (width f) vs

pub fields_held_read : (fs : List Field) (s : List ℕ) (i : ℕ) → Below 256 s → held_fields fs (read_fields fs s i) ≡ true
unfolding read_fields held_fields
fields_held_read [] s i b = refl
fields_held_read (f ∷ fs) s i b =
    both (field_held f s i (read_fields fs s (i + size f)) b)
    (rw (drop_at (read_field f s i) (read_fields fs s (i + size f)) (width f) (length_read_field f s i))
    (fields_held_read fs s (i + size f) b))

-- ---- entries

-- each entry has a value for each part of its fields
abbrev pub Shaped : List Field → List (List ℕ) → Type 0
Shaped fs es = (k : ℕ) → k < length es → length (get_or es k []) ≡ widths fs

pub length_write_entries : (fs : List Field) (es : List (List ℕ)) → length (write_entries fs es) ≡ length es * sizes fs
unfolding write_entries
length_write_entries fs [] = sym (zero-mul (sizes fs))
length_write_entries fs (e ∷ es) =
    length-append (write_fields fs e) _
    ∙ rw (length_write_fields fs e, length_write_entries fs es, suc-mul (length es) (sizes fs)) (add_comm (sizes fs) (length es * sizes fs))

pub entry_back : (fs : List Field) (es : List (List ℕ)) (k : ℕ) (p rest : List ℕ) → k < length es → Shaped fs es → held_entries fs es ≡ true
    → read_fields fs (p ++ (write_entries fs es ++ rest)) (length p + k * sizes fs) ≡ get_or es k []
unfolding write_entries held_entries
entry_back fs [] k p rest h sh e = absurd (omega arith)
entry_back fs (v ∷ es) zero p rest h sh e =
    rw (zero-mul (sizes fs), add-zero (length p), append_assoc (write_fields fs v) (write_entries fs es) rest)
    (fields_back fs v p (write_entries fs es ++ rest) (sh 0 h) (first (held_fields fs v) _ e))
entry_back fs (v ∷ es) (suc k) p rest h sh e =
    let w = write_fields fs v in
    let place : length p + suc k * sizes fs ≡ length (p ++ w) + k * sizes fs =
    rw (length-append p w, length_write_fields fs v, suc-mul k (sizes fs), add_assoc (length p) (sizes fs) (k * sizes fs), add_comm (k * sizes fs) (sizes fs)) refl in
    let shape : p ++ ((w ++ write_entries fs es) ++ rest) ≡ (p ++ w) ++ (write_entries fs es ++ rest) =
    rw (append_assoc w (write_entries fs es) rest) (sym (append_assoc p w (write_entries fs es ++ rest))) in
    ap (λ (s : List ℕ). read_fields fs s (length p + suc k * sizes fs)) shape
    ∙ ap (read_fields fs ((p ++ w) ++ (write_entries fs es ++ rest))) place
    ∙ entry_back fs es k (p ++ w) rest (omega arith) (λ j l. sh (suc j) (omega arith)) (second (held_fields fs v) _ e)

pub entries_append : (fs : List Field) (es ds : List (List ℕ)) → write_entries fs (es ++ ds) ≡ write_entries fs es ++ write_entries fs ds
unfolding write_entries
entries_append fs [] ds = refl
entries_append fs (e ∷ es) ds =
    ap (λ (l : List ℕ). write_fields fs e ++ l) (entries_append fs es ds)
    ∙ sym (append_assoc (write_fields fs e) (write_entries fs es) (write_entries fs ds))

-- one more entry at the end
pub entries_more : (fs : List Field) (g : ℕ → List ℕ) (n : ℕ)
    → write_entries fs (tab g (n + 1)) ≡ write_entries fs (tab g n) ++ write_fields fs (g n)
unfolding tab write_entries
entries_more fs g n =
    rw (add-one n) (entries_append fs (tab g n) (g n ∷ []) ∙ ap (λ (l : List ℕ). write_entries fs (tab g n) ++ l) (append-nil (write_fields fs (g n))))

held_append : (fs : List Field) (es ds : List (List ℕ)) → held_entries fs (es ++ ds) ≡ (held_entries fs es && held_entries fs ds)
unfolding held_entries
held_append fs [] ds = refl
held_append fs (e ∷ es) ds = and_cases (held_fields fs e) (held_entries fs es) (held_entries fs ds) (held_append fs es ds)
  where
    and_cases : (a b c : Bool) {x : Bool} → x ≡ (b && c) → (a && x) ≡ ((a && b) && c)
    and_cases true b c q = q
    and_cases false b c q = refl

held_suc : (fs : List Field) (g : ℕ → List ℕ) (n : ℕ)
    → held_entries fs (tab g (suc n)) ≡ (held_entries fs (tab g n) && held_fields fs (g n))
unfolding tab held_entries
held_suc fs g n =
    held_append fs (tab g n) (g n ∷ []) ∙ ap (λ (b : Bool). held_entries fs (tab g n) && b) (and-true (held_fields fs (g n)))

pub held_all : (fs : List Field) (g : ℕ → List ℕ) (n : ℕ) → ((k : ℕ) → k < n → held_fields fs (g k) ≡ true) → held_entries fs (tab g n) ≡ true
unfolding tab held_entries
held_all fs g zero h = refl
held_all fs g (suc n) h = held_suc fs g n ∙ both (held_all fs g n (λ k l. h k (omega arith))) (h n (omega arith))

not_both : (a b : Bool) → (a ≡ false) ⊎ (b ≡ false) → (a && b) ≡ false
not_both false b o = refl
not_both true b o = ⊎_elim (λ p. absurd (true≢false p)) (λ p. p) o

-- an entry that does not fit
pub held_not : (fs : List Field) (g : ℕ → List ℕ) (n k : ℕ) → k < n → held_fields fs (g k) ≡ false → held_entries fs (tab g n) ≡ false
held_not fs g zero k h e = absurd (omega arith)
held_not fs g (suc n) k h e =
    held_suc fs g n ∙ not_both (held_entries fs (tab g n)) (held_fields fs (g n)) (at-end (dec_lt k n) (λ l. held_not fs g n k l e))
  where
    at-end : Dec (k < n) → (k < n → held_entries fs (tab g n) ≡ false) → (held_entries fs (tab g n) ≡ false) ⊎ (held_fields fs (g n) ≡ false)
    at-end (yes l) ih = inl (ih l)
    at-end (no l) ih = let same : n ≡ k = omega arith in inr (ap (λ (j : ℕ). held_fields fs (g j)) same ∙ e)

-- ---- a body behind its identifier

-- the values are one for each part of the format, and the head counts the entries
pub record Fit (f : Format) (v : Values) : Type 0 where
  pub head : length v.head ≡ widths f.head
  pub count : summed f.counts v.head ≡ length v.entries
  pub entries : Shaped f.entry v.entries

module _ (f : Format) (v : Values) (id : ℕ) (rest : List ℕ) (fit : Fit f v) (ok : held_values f v ≡ true) where
  bytes : List ℕ
  bytes = id ∷ (body_bytes f v ++ rest)

  head_back : read_fields f.head bytes 1 ≡ v.head
  unfolding bytes body_bytes held_values
  head_back =
      ap (λ (l : List ℕ). read_fields f.head (id ∷ l) 1) (append_assoc (write_fields f.head v.head) (write_entries f.entry v.entries) rest)
      ∙ fields_back f.head v.head (id ∷ []) (write_entries f.entry v.entries ++ rest) fit.head (first (held_fields f.head v.head) _ ok)

  announced_back : announced f bytes ≡ length v.entries
  unfolding announced
  announced_back = ap (summed f.counts) head_back ∙ fit.count

  entries_back : (k : ℕ) → k < length v.entries → read_fields f.entry bytes (head_end f + k * sizes f.entry) ≡ get_or v.entries k []
  unfolding bytes body_bytes held_values head_end
  entries_back k h =
      let p = id ∷ write_fields f.head v.head in
      let l : 1 + sizes f.head ≡ length p = rw (length_write_fields f.head v.head) (one-add (sizes f.head)) in
      ap (λ (s : List ℕ). read_fields f.entry (id ∷ s) (1 + sizes f.head + k * sizes f.entry))
      (append_assoc (write_fields f.head v.head) (write_entries f.entry v.entries) rest)
      ∙ ap (λ (n : ℕ). read_fields f.entry (p ++ (write_entries f.entry v.entries ++ rest)) (n + k * sizes f.entry)) l
      ∙ entry_back f.entry v.entries k p rest h fit.entries (second (held_fields f.head v.head) _ ok)

  -- what was written is read back
  pub values_back : values f (id ∷ (body_bytes f v ++ rest)) ≡ v
  unfolding values bytes
  values_back =
      let n = length v.entries in
      let es : tab (λ (k : ℕ). read_fields f.entry bytes (head_end f + k * sizes f.entry)) (announced f bytes) ≡ v.entries =
      rw announced_back
      (tab_ext _ (λ (k : ℕ). get_or v.entries k []) n entries_back ∙ tab_get_or v.entries [] n (omega arith) ∙ take_all n v.entries (omega arith)) in
      λ i. record { head = head_back i; entries = es i }

  -- the body is whole
  pub end_back : body_end f (id ∷ (body_bytes f v ++ rest)) ≤ length (id ∷ (body_bytes f v ++ rest))
  unfolding body_end head_end body_bytes bytes
  end_back =
      let a : announced f bytes ≡ length v.entries = announced_back in
      let n : ℕ = length v.entries * sizes f.entry in
      rw (
        a,
        length-append (body_bytes f v) rest,
        length-append (write_fields f.head v.head) (write_entries f.entry v.entries),
        length_write_fields f.head v.head,
        length_write_entries f.entry v.entries,
      )
      (omega arith)

-- how long a body is
pub length_body_bytes : (f : Format) (v : Values) → length (body_bytes f v) ≡ sizes f.head + length v.entries * sizes f.entry
unfolding body_bytes
length_body_bytes f v =
    length-append (write_fields f.head v.head) (write_entries f.entry v.entries)
    ∙ rw (length_write_fields f.head v.head, length_write_entries f.entry v.entries) refl

-- ---- what was read

-- values that were read fit their fields
pub values_held : (f : Format) (s : List ℕ) → Below 256 s → held_values f (values f s) ≡ true
unfolding held_values values
values_held f s b =
    both (fields_held_read f.head s 1 b)
    (held_all f.entry (λ (k : ℕ). read_fields f.entry s (head_end f + k * sizes f.entry)) (announced f s)
    (λ k l. fields_held_read f.entry s (head_end f + k * sizes f.entry) b))

-- as many entries as the head announces
pub length_entries : (f : Format) (s : List ℕ) → length (values f s).entries ≡ announced f s
unfolding values
length_entries f s = length_tab (λ (k : ℕ). read_fields f.entry s (head_end f + k * sizes f.entry)) (announced f s)
