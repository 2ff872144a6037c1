-- The definitions on texts, step by step along a list. In order: the same text; the next byte; the filler; a text and then
-- the filler.
-- Assumes nothing.
use mathlib.Core.Bool.{Bool, true, false, false≢true, ◌&&◌}
use mathlib.Core.Path.{◌≡◌, refl, sym, ap, ◌∙◌}
use mathlib.Core.List.{List, [], ◌∷◌}
use Prim.Native.Nat.{ℕ, ◌+◌, ◌-◌, ◌≤◌, ◌<◌, min}
use native.Mathlib.Numerals.{add-one}
use native.Mathlib.Omega.{arith}
use borrow.Author.Tests.{eq-eqb, ne_eqb, eqb-true}
use lib.Dec.{eqb}
use lib.ListN.{length, get_or, take, drop, length-take, length-drop, drop_of_length-le}
use lib.Seq.{drop-cons, take_all}
use Rattle.casefile.specs.Texts.{same_text, before}
use Rattle.casefile.specs.Outputs.{all_filler, text_then_filler}

-- the list from place i on is its byte there and the list from i + 1 on
pub from_here : (s : List ℕ) (i : ℕ) → i < length s → drop i s ≡ get_or s i 0 ∷ drop (i + 1) s
from_here s i h = rw (add-one, drop-cons s i 0)

-- ---- the same text

-- where the second is false if the first is true, they are not both true
both_not : (a b : Bool) → (a ≡ true → b ≡ false) → (a && b) ≡ false
both_not true b h = h refl
both_not false b h = refl

same_self : (s : List ℕ) → same_text s s ≡ true
unfolding same_text
same_self [] = refl
same_self (x ∷ s) = rw (eq-eqb x x refl) (same_self s)

not_same : (s t : List ℕ) → (s ≡ t → ⊥) → same_text s t ≡ false
unfolding same_text
not_same [] [] n = absurd (n refl)
not_same [] (y ∷ t) n = refl
not_same (x ∷ s) [] n = refl
not_same (x ∷ s) (y ∷ t) n = both_not (eqb x y) (same_text s t) (λ e. not_same s t (λ r. n (cc (eqb-true x y e))))

-- a test that is true just where two texts are equal is the definition's
pub same_text_lem : (r : Bool) (s t : List ℕ) → (r ≡ true → s ≡ t) → (s ≡ t → r ≡ true) → r ≡ same_text s t
same_text_lem true s t h k = rw (h refl) (sym (same_self t))
same_text_lem false s t h k = sym (not_same s t (λ e. false≢true (k e)))

-- ---- the next byte b

pub before_here : (s : List ℕ) (i b : ℕ) → i < length s → get_or s i 0 ≡ b → i + before b (drop i s) ≡ i
unfolding before
before_here s i b h e = rw (from_here s i h, eq-eqb (get_or s i 0) b e) (omega arith)

pub before_more : (s : List ℕ) (i b : ℕ) → i < length s → (get_or s i 0 ≡ b → ⊥) → i + before b (drop i s) ≡ i + 1 + before b (drop (i + 1) s)
unfolding before
before_more s i b h n = rw (from_here s i h, ne_eqb (get_or s i 0) b n) (omega arith)

pub before_end : (s : List ℕ) (i b : ℕ) → length s ≤ i → i + before b (drop i s) ≡ i
unfolding before
before_end s i b h = rw (drop_of_length-le s h) (omega arith)

-- ---- the filler

pub filler_more : (s : List ℕ) (i : ℕ) → i < length s → get_or s i 0 ≡ 0xa5 → all_filler (drop i s) ≡ all_filler (drop (i + 1) s)
unfolding all_filler
filler_more s i h e = rw (from_here s i h, eq-eqb (get_or s i 0) 0xa5 e)

pub filler_not : (s : List ℕ) (i : ℕ) → i < length s → (get_or s i 0 ≡ 0xa5 → ⊥) → all_filler (drop i s) ≡ false
unfolding all_filler
filler_not s i h n = rw (from_here s i h, ne_eqb (get_or s i 0) 0xa5 n)

pub filler_end : (s : List ℕ) (i : ℕ) → length s ≤ i → all_filler (drop i s) ≡ true
unfolding all_filler
filler_end s i h = rw (drop_of_length-le s h)

-- ---- a text and then the filler, compared over the first n bytes of the output, n as many as the text has or the output

pub holds_not : (n : ℕ) (text out : List ℕ) → n ≡ min (length text) (length out) → (take n out ≡ text → ⊥) → text_then_filler text out ≡ false
unfolding text_then_filler
holds_not n text out l h = rw (not_same (take (length text) out) text (λ e. h (same_count e ∙ e)))
  where
    same_count : take (length text) out ≡ text → take n out ≡ take (length text) out
    same_count e =
        let k : n ≡ length text = omega (arith, simp length-take at (ap length e)) in
        rw k

pub holds_rest : (n : ℕ) (text out : List ℕ) → n ≡ min (length text) (length out) → take n out ≡ text
    → text_then_filler text out ≡ all_filler (take (length out - n) (drop n out))
unfolding text_then_filler
holds_rest n text out l e =
    let k : n ≡ length text = omega (arith, simp length-take at (ap length e)) in
    let f : take (length text) out ≡ text = rw (← k) e in
    rw (take_all (length out - n) (drop n out) (omega (arith, length-drop n out)), f, same_self text, k)
