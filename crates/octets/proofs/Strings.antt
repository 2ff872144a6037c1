-- Laws of lists given by their entries and of lists with a part overwritten. Each goes by induction on the number of
-- entries or by the kit's laws of `take` and `drop` at a seam.
-- Assumes nothing.
use mathlib.Core.Path.{◌≡◌, refl, sym, ap, ◌∙◌}
use mathlib.Core.List.{List, [], ◌∷◌, ◌++◌, append_assoc, append-nil}
use mathlib.Core.Logic.{⊎_elim, ◌⊎◌, inl, inr}
use Prim.Native.Nat.{ℕ, zero, suc, ◌+◌, ◌-◌, ◌≤◌, ◌<◌}
use native.Mathlib.Nat.{add-zero, zero-add, add_assoc}
use native.Mathlib.Numerals.{add-one}
use native.Mathlib.Decide.{dec_lt}
use native.Mathlib.Omega.{arith}
use lib.ListN.{length, get_or, take, drop, set, length-append, length-drop, take-append-drop, get_or-append, drop_of_length-le}
use lib.Seq.{length-take-le, take_all, take-nil, drop-length, take-suc, take_at, set_at, get_or_at, drop-cons, set_split, drop-append-add, drop-drop, take-add, get_or-drop}
use Rattle.octets.specs.Strings.{tab, over, Below}

-- ---- a list given by its entries

pub length_tab : {A : Type 0} (f : ℕ → A) (n : ℕ) → length (tab f n) ≡ n
unfolding tab
length_tab f zero = refl
length_tab f (suc n) = simp (length-append, length_tab f n, add-one)

-- an index below suc n is below n, or it is n
pub below_or_last : (i n : ℕ) → i < suc n → (i < n) ⊎ (i ≡ n)
below_or_last i n h = elim (dec_lt i n) [ yes l ↦ inl l | no l ↦ inr (omega arith) ]

pub get_or_tab : {A : Type 0} (f : ℕ → A) (n i : ℕ) (d : A) → i < n → get_or (tab f n) i d ≡ f i
unfolding tab
get_or_tab f zero i d h = absurd (omega arith)
get_or_tab f (suc n) i d h =
    ⊎_elim
    (λ l. get_or-append (tab f n) (f n ∷ []) d i (rw (length_tab f n) l) ∙ get_or_tab f n i d l)
    (λ e. rw e (get_or_at (tab f n) (f n) [] d n (length_tab f n)))
    (below_or_last i n h)

pub tab_ext : {A : Type 0} (f g : ℕ → A) (n : ℕ) → ((i : ℕ) → i < n → f i ≡ g i) → tab f n ≡ tab g n
unfolding tab
tab_ext f g zero h = refl
tab_ext f g (suc n) h = λ i. tab_ext f g n (λ k l. h k (omega arith)) i ++ (h n (omega arith) i ∷ [])

-- a list's entries, given by index, are the list
pub tab_get_or : {A : Type 0} (s : List A) (d : A) (n : ℕ) → n ≤ length s → tab (λ (i : ℕ). get_or s i d) n ≡ take n s
unfolding tab
tab_get_or s d zero h = refl
tab_get_or s d (suc n) h = rw (tab_get_or s d n (omega arith)) (sym (take-suc s n d h))

-- its first entry and the rest
pub tab_cons : {A : Type 0} (f : ℕ → A) (n : ℕ) → tab f (suc n) ≡ f 0 ∷ tab (λ (i : ℕ). f (suc i)) n
unfolding tab
tab_cons f zero = refl
tab_cons f (suc n) = ap (λ (l : List _). l ++ (f (suc n) ∷ [])) (tab_cons f n)

-- a loop that fills from the front: one more entry stored
pub fill_more : {A : Type 0} (f : ℕ → A) (n : ℕ) (b : List A) → n < length b
    → set (tab f n ++ drop n b) n (f n) ≡ tab f (n + 1) ++ drop (n + 1) b
unfolding tab
fill_more f n b h =
    rw (drop-cons b n (f n) h, add-one)
    (set_at (tab f n) (get_or b n (f n)) (drop (suc n) b) (f n) n (length_tab f n)
    ∙ sym (append_assoc (tab f n) (f n ∷ []) (drop (suc n) b)))

-- the same of any list and value that are equal to these
pub fill_turn : {A : Type 0} (f : ℕ → A) (n : ℕ) (b l : List A) (x : A) → n < length b → x ≡ f n → l ≡ tab f n ++ drop n b
    → set l n x ≡ tab f (n + 1) ++ drop (n + 1) b
fill_turn f n b l x h e p = (λ i. set (p i) n (e i)) ∙ fill_more f n b h

-- the loop's end: every place is filled
pub filled : {A : Type 0} (f : ℕ → A) (n : ℕ) (b l : List A) → length b ≤ n → l ≡ tab f n ++ drop n b → l ≡ tab f n
filled f n b l h p = p ∙ ap (λ (r : List _). tab f n ++ r) (drop_of_length-le b h) ∙ append-nil (tab f n)

-- ---- a part overwritten

pub length_over : {A : Type 0} (o : List A) (i : ℕ) (bs : List A) → i + length bs ≤ length o → length (over o i bs) ≡ length o
unfolding over
length_over o i bs h =
    let l : length (take i o) ≡ i = length-take-le i o (omega arith) in
    simp (length-append, length-drop, l) (omega arith)

pub over_nil : {A : Type 0} (o : List A) (i : ℕ) → over o i [] ≡ o
unfolding over
over_nil o i = rw add-zero (take-append-drop i o)

-- at the front: the bytes, and the rest as it was
pub over_front : {A : Type 0} (o bs : List A) → over o 0 bs ≡ bs ++ drop (length bs) o
unfolding over
over_front o bs = rw native.Mathlib.Nat.zero-add

-- one part right behind another
pub over_over : {A : Type 0} (o : List A) (i j : ℕ) (xs bs : List A) → i ≤ length o → j ≡ i + length xs
    → over (over o i xs) j bs ≡ over o i (xs ++ bs)
unfolding over
over_over {A} o i j xs bs h e =
    let l : length (take i o ++ xs) ≡ j = simp (length-append, length-take-le i o h) (sym e) in
    let whole : over o i xs ≡ (take i o ++ xs) ++ drop j o = rw (e) (sym (append_assoc (take i o) xs (drop (i + length xs) o))) in
    let front : take j (over o i xs) ≡ take i o ++ xs = rw (whole) (take_at (take i o ++ xs) (drop j o) j l) in
    let back : drop (j + length bs) (over o i xs) ≡ drop (j + length bs) o =
    rw (whole, ← l) (drop-append-add (take i o ++ xs) (drop (length (take i o ++ xs)) o) (length bs) ∙ drop-drop (length bs) (length (take i o ++ xs)) o) in
    rw (front, back, length-append, e, add_assoc, append_assoc, append_assoc) refl

-- two writes, the second right behind the first
pub over_then : {A : Type 0} (o o₁ o₂ : List A) (i j : ℕ) (xs ys : List A) → i ≤ length o → j ≡ i + length xs
    → o₁ ≡ over o i xs → o₂ ≡ over o₁ j ys → o₂ ≡ over o i (xs ++ ys)
over_then o o₁ o₂ i j xs ys h e p q = q ∙ ap (λ (l : List _). over l j ys) p ∙ over_over o i j xs ys h e

-- the same at the front
pub behind : {A : Type 0} {o₁ o₂ : List A} (o xs ys : List A) → o₁ ≡ over o 0 xs → o₂ ≡ over o₁ (length xs) ys → o₂ ≡ over o 0 (xs ++ ys)
behind o xs ys p q = over_then o _ _ 0 (length xs) xs ys (omega arith) (sym (zero-add (length xs))) p q

-- three writes, each right behind the one before
pub over_three : {A : Type 0} (o o₁ o₂ o₃ : List A) (i j k : ℕ) (xs ys zs : List A) → i ≤ length o
    → j ≡ i + length xs → k ≡ j + length ys → o₁ ≡ over o i xs → o₂ ≡ over o₁ j ys → o₃ ≡ over o₂ k zs
    → o₃ ≡ over o i (xs ++ (ys ++ zs))
over_three o o₁ o₂ o₃ i j k xs ys zs h e e' p q r =
    over_then o o₂ o₃ i k (xs ++ ys) zs h (rw (e', e, length-append xs ys, add_assoc) refl)
    (over_then o o₁ o₂ i j xs ys h e p q) r
    ∙ ap (over o i) (append_assoc xs ys zs)

-- a part of a part: what is overwritten behind place h
pub over_part : {A : Type 0} (o : List A) (h i : ℕ) (bs : List A) → h ≤ length o
    → take h o ++ over (drop h o) i bs ≡ over o (h + i) bs
unfolding over
over_part o h i bs l =
    rw (drop-drop (i + length bs) h o, take-add h i o, add_assoc, append_assoc) refl

-- a part of a slice that starts at place n and goes to the end
pub part_behind : {A : Type 0} (f : List A) (n : ℕ) → take (length f - n) (drop n f) ≡ drop n f
part_behind f n = take_all (length f - n) (drop n f) (rw (length-drop n f) (omega arith))

pub nothing_behind : {A : Type 0} (f : List A) (n : ℕ) → length f ≤ n → take (length f - length f) (drop (length f) f) ≡ drop n f
nothing_behind f n h = part_behind f (length f) ∙ drop-length f ∙ sym (drop_of_length-le f h)

-- a part lent from place s on, and overwritten at its front
pub part_over : {A : Type 0} (o m bs : List A) (s : ℕ) → s ≤ length o → m ≡ over (take (length o - s) (drop s o)) 0 bs
    → take s o ++ (m ++ drop (length o - s) (drop s o)) ≡ over o s bs
part_over {A} o m bs s h e =
    let rest : drop (length o - s) (drop s o) ≡ [] = drop_of_length-le (drop s o) {i = length o - s} (rw (length-drop s o) (omega arith)) in
    let inner : m ≡ over (drop s o) 0 bs = e ∙ ap (λ (l : List A). over l 0 bs) (part_behind o s) in
    (λ i. take s o ++ (inner i ++ rest i))
    ∙ ap (λ (l : List A). take s o ++ l) (append-nil (over (drop s o) 0 bs))
    ∙ over_part o s 0 bs h ∙ ap (λ (k : ℕ). over o k bs) (add-zero s)

-- a stored byte is a part of length one
pub set_over : {A : Type 0} (o : List A) (i : ℕ) (x : A) → i < length o → set o i x ≡ over o i (x ∷ [])
unfolding over
set_over o i x h = rw (add-one) (set_split o i x h)

-- what stands in the part that was overwritten
pub take_over : {A : Type 0} (o bs : List A) → take (length bs) (over o 0 bs) ≡ bs
take_over o bs = rw over_front (lib.Seq.take-append_seam bs (drop (length bs) o))

-- the whole overwritten
pub over_all : {A : Type 0} (o bs : List A) → length o ≡ length bs → over o 0 bs ≡ bs
over_all o bs e = rw (over_front, ← e, drop-length) (append-nil bs)

-- ---- bytes

-- what is behind the first n entries has no larger ones
pub drop_below : (f : List ℕ) (n m : ℕ) → Below m f → Below m (drop n f)
drop_below f n m b i = rw (get_or-drop n f i 0) (b (n + i))

-- nor have the first n (m above 0, since past the end an entry counts 0)
pub take_below : (f : List ℕ) (n m : ℕ) → 0 < m → Below m f → Below m (take n f)
take_below [] n m z b i = rw (take-nil n) (b i)
take_below (x ∷ f) zero m z b i = z
take_below (x ∷ f) (suc n) m z b zero = b 0
take_below (x ∷ f) (suc n) m z b (suc i) = take_below f n m z (λ j. b (suc j)) i

-- nor have two lists end to end
pub append_below : (f g : List ℕ) (m : ℕ) → Below m f → Below m g → Below m (f ++ g)
append_below [] g m p q i = q i
append_below (x ∷ f) g m p q zero = p 0
append_below (x ∷ f) g m p q (suc i) = append_below f g m (λ k. p (suc k)) q i
