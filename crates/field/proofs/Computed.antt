-- A fact of every number below n, by one test that antt computes at each of them; and a list of values by its index.
-- Assumes nothing.
use mathlib.Core.Path.{◌≡◌, ap, ◌∙◌, subst, sym}
use mathlib.Core.Bool.{Bool, true, false, ◌&&◌}
use mathlib.Core.Logic.{⊎_elim}
use Prim.Native.Nat.{ℕ, zero, suc, ◌+◌, ◌<◌}
use native.Mathlib.Nat.{le_of_suc-le-suc, not-suc-le-zero, eq-or-lt_of_le, add-zero, zero-add, add-suc, suc-add}
use lib.Dec.{T, eqb, eqb→eq, ltb, ltb→lt}
use lib.ListN.{get_or}
use Rattle.field.specs.SBox.{values_from}

and_left : (a b : Bool) → T (a && b) → T a
and_left true b t = tt
and_left false b t = t

and_right : (a b : Bool) → T (a && b) → T b
and_right true b t = t
and_right false b t = absurd t

-- the test p passes at every number below n
abbrev pub all_below : (ℕ → Bool) → ℕ → Bool
all_below p zero = true
all_below p (suc n) = p n && all_below p n

pub each_below : (p : ℕ → Bool) (n : ℕ) → T (all_below p n) → (x : ℕ) → x < n → T (p x)
each_below p zero t x h = absurd (not-suc-le-zero h)
each_below p (suc n) t x h =
    ⊎_elim (λ e. subst (λ (y : ℕ). T (p y)) (sym e) (and_left (p n) (all_below p n) t)) (λ l. each_below p n (and_right (p n) (all_below p n) t) x l)
    (eq-or-lt_of_le (le_of_suc-le-suc h))

-- two functions that the test finds equal below n
pub same_below : (f g : ℕ → ℕ) (n : ℕ) → T (all_below (λ (x : ℕ). eqb (f x) (g x)) n) → (x : ℕ) → x < n → f x ≡ g x
same_below f g n t x h = eqb→eq (f x) (g x) (each_below (λ (y : ℕ). eqb (f y) (g y)) n t x h)

-- a function whose values the test finds below m
pub bounded_below : (f : ℕ → ℕ) (m n : ℕ) → T (all_below (λ (x : ℕ). ltb (f x) m) n) → (x : ℕ) → x < n → f x < m
bounded_below f m n t x h = ltb→lt (f x) m (each_below (λ (y : ℕ). ltb (f y) m) n t x h)

get_or_values_from : (f : ℕ → ℕ) (k n i : ℕ) → i < n → get_or (values_from f k n) i 0 ≡ f (k + i)
unfolding values_from
get_or_values_from f k zero i h = absurd (not-suc-le-zero h)
get_or_values_from f k (suc n) zero h = ap f (sym (add-zero k))
get_or_values_from f k (suc n) (suc i) h = get_or_values_from f (suc k) n i (le_of_suc-le-suc h) ∙ ap f (suc-add k i ∙ sym (add-suc k i))

pub get_or_values : (f : ℕ → ℕ) (n i : ℕ) → i < n → get_or (values_from f 0 n) i 0 ≡ f i
get_or_values f n i h = get_or_values_from f 0 n i h ∙ ap f (zero-add i)
