-- Laws of an ordered list of refusals: there is none exactly where no condition holds.
-- Assumes nothing.
use mathlib.Core.Path.{◌≡◌, refl, sym, ap, ◌∙◌}
use mathlib.Core.Bool.{Bool, true, false, true≢false, ◌||◌}
use mathlib.Core.List.{List, [], ◌∷◌, ◌++◌}
use Prim.Native.Nat.{ℕ, zero, suc, ◌<◌}
use native.Mathlib.Omega.{arith}
use mathlib.Core.Logic.{◌⊎◌, inl, inr}
use borrow.Author.Tests.{eq-eqb, ltb-true}
use lib.Dec.{eqb, ltb}
use Rattle.octets.specs.Refusals.{unless, Condition, on, by, first_of}

-- ---- by the refusal's number

pub accepted : {A : Type 0} (n : ℕ) (a r : A) → n ≡ 0 → unless n a r ≡ a
unfolding unless
accepted zero a r e = refl
accepted (suc n) a r e = absurd (omega arith)

pub refused : {A : Type 0} (n : ℕ) (a r : A) → (n ≡ 0 → ⊥) → unless n a r ≡ r
unfolding unless
refused zero a r h = absurd (h refl)
refused (suc n) a r h = refl

-- the same at a return of the code, where the number n is known to be the definition's k
pub accepted_by : {A : Type 0} (k n : ℕ) (a r : A) → n ≡ k → n ≡ 0 → a ≡ unless k a r
accepted_by k n a r e z = sym (accepted k a r (sym e ∙ z))

pub refused_by : {A : Type 0} (k n : ℕ) (a : A) (r : ℕ → A) → n ≡ k → (n ≡ 0 → ⊥) → r n ≡ unless k a (r k)
refused_by k n a r e h = ap r e ∙ sym (refused k a (r k) (λ z. h (e ∙ z)))

-- what holds of both answers holds of the answer; of what is accepted it is shown knowing that nothing is refused
pub unless_either : {A : Type 0} (P : A → Type 0) (n : ℕ) (a r : A) → (n ≡ 0 → P a) → P r → P (unless n a r)
unfolding unless
unless_either P zero a r pa pr = pa refl
unless_either P (suc n) a r pa pr = pr

pub unless_number : (n : ℕ) → unless n 0 n ≡ n
unfolding unless
unless_number zero = refl
unless_number (suc n) = refl

-- an answer bears the refusal's number
pub answer_number : {A : Type 0} (number : A → ℕ) (n : ℕ) (a : A) (r : ℕ → A) → number a ≡ 0 → number (r n) ≡ n → number (unless n a (r n)) ≡ n
unfolding unless
answer_number number zero a r e f = e
answer_number number (suc n) a r e f = f

-- ---- none of the conditions holds

-- each condition is false, and each number given before is 0
abbrev pub None : List Condition → Type 0
None [] = Unit {0}
None (on zero b ∷ cs) = b ≡ false → None cs
None (on (suc n) b ∷ cs) = (b ≡ false) × None cs
None (by n ∷ cs) = (n ≡ 0) × None cs

pub none : (cs : List Condition) → first_of cs ≡ 0 → None cs
unfolding first_of unless
none [] e = tt
none (on zero true ∷ cs) e = λ f. absurd (true≢false f)
none (on zero false ∷ cs) e = λ f. none cs e
none (on (suc n) true ∷ cs) e = absurd (omega arith)
none (on (suc n) false ∷ cs) e = (refl, none cs e)
none (by zero ∷ cs) e = (refl, none cs e)
none (by (suc n) ∷ cs) e = absurd (omega arith)

pub none_refuse : (cs : List Condition) → None cs → first_of cs ≡ 0
unfolding first_of unless
none_refuse [] h = refl
none_refuse (on zero true ∷ cs) h = refl
none_refuse (on zero false ∷ cs) h = none_refuse cs (h refl)
none_refuse (on (suc n) b ∷ cs) h = rw h.0 (none_refuse cs h.1)
none_refuse (by n ∷ cs) h = rw h.0 (none_refuse cs h.1)

-- ---- the first that holds

pub stop : (n : ℕ) (b : Bool) (cs : List Condition) → b ≡ true → first_of (on n b ∷ cs) ≡ n
unfolding first_of
stop n b cs e = rw e refl

pub skip : (n : ℕ) (b : Bool) (cs : List Condition) → b ≡ false → first_of (on n b ∷ cs) ≡ first_of cs
unfolding first_of
skip n b cs e = rw e refl

pub stop_by : (n : ℕ) (cs : List Condition) → (n ≡ 0 → ⊥) → first_of (by n ∷ cs) ≡ n
unfolding first_of
stop_by n cs h = refused n (first_of cs) n h

pub skip_by : (n : ℕ) (cs : List Condition) → n ≡ 0 → first_of (by n ∷ cs) ≡ first_of cs
unfolding first_of
skip_by n cs e = accepted n (first_of cs) n e

pub empty : first_of [] ≡ 0
unfolding first_of
empty = refl

-- a number alone
pub last_by : (n : ℕ) → first_of (by n ∷ []) ≡ n
unfolding first_of unless
last_by zero = refl
last_by (suc n) = refl

-- ---- a list gone down step by step

-- what is left of the list cs behind the number n, each step looking at what the one before gave
abbrev pub in_turn : ℕ → List Condition → ℕ
in_turn n [] = n
in_turn n (on k b ∷ cs) = in_turn (first_of (by n ∷ on k b ∷ [])) cs
in_turn n (by k ∷ cs) = in_turn (first_of (by n ∷ by k ∷ [])) cs

-- no entry has the number 0, which would refuse nothing
abbrev pub Numbered : List Condition → Type 0
Numbered [] = Unit {0}
Numbered (on zero b ∷ cs) = ⊥
Numbered (on (suc k) b ∷ cs) = Numbered cs
Numbered (by k ∷ cs) = Numbered cs

-- the steps give the first number of the list
pub in_turn_lem : (n : ℕ) (cs : List Condition) → Numbered cs → in_turn n cs ≡ first_of (by n ∷ cs)
unfolding first_of unless
in_turn_lem zero [] k = refl
in_turn_lem (suc n) [] k = refl
in_turn_lem zero (on zero b ∷ cs) k = absurd k
in_turn_lem zero (on (suc m) true ∷ cs) k = in_turn_lem (suc m) cs k
in_turn_lem zero (on (suc m) false ∷ cs) k = in_turn_lem zero cs k
in_turn_lem zero (by zero ∷ cs) k = in_turn_lem zero cs k
in_turn_lem zero (by (suc m) ∷ cs) k = in_turn_lem (suc m) cs k
in_turn_lem (suc n) (on zero b ∷ cs) k = absurd k
in_turn_lem (suc n) (on (suc m) b ∷ cs) k = in_turn_lem (suc n) cs k
in_turn_lem (suc n) (by m ∷ cs) k = in_turn_lem (suc n) cs k

-- a list in two parts, the first one's number handed on, is one list
pub in_parts : (cs ds : List Condition) → Numbered cs → first_of (by (first_of cs) ∷ ds) ≡ first_of (cs ++ ds)
unfolding first_of unless
in_parts [] ds k = refl
in_parts (on zero b ∷ cs) ds k = absurd k
in_parts (on (suc m) true ∷ cs) ds k = refl
in_parts (on (suc m) false ∷ cs) ds k = in_parts cs ds k
in_parts (by zero ∷ cs) ds k = in_parts cs ds k
in_parts (by (suc m) ∷ cs) ds k = refl

-- the same with one entry in the first part
pub in_two : (n k : ℕ) (b : Bool) (ds : List Condition) → first_of (by (first_of (by n ∷ on (suc k) b ∷ [])) ∷ ds) ≡ first_of (by n ∷ on (suc k) b ∷ ds)
in_two n k b ds = in_parts (by n ∷ on (suc k) b ∷ []) ds tt

pub in_order : (cs : List Condition) → Numbered cs → in_turn 0 cs ≡ first_of cs
unfolding first_of unless
in_order cs k = in_turn_lem 0 cs k

-- ---- a number that the list gives

-- one of two types, by a bit
abbrev pick : Bool → Type 0 → Type 0 → Type 0
pick true A B = A
pick false A B = B

-- an entry of the list gives the number m: it is the number given before, or its condition holds
abbrev pub Gives : ℕ → List Condition → Type 0
Gives m [] = ⊥
Gives m (on n b ∷ cs) = pick (eqb n m) ((b ≡ true) ⊎ Gives m cs) (Gives m cs)
Gives m (by n ∷ cs) = (n ≡ m) ⊎ Gives m cs

pub gives : (m : ℕ) (cs : List Condition) → (m ≡ 0 → ⊥) → first_of cs ≡ m → Gives m cs
unfolding first_of unless
gives m [] h e = h (sym e)
gives m (on n true ∷ cs) h e = rw (eq-eqb n m e) (inl refl)
gives m (on n false ∷ cs) h e = either_way (eqb n m) (gives m cs h e)
  where
    either_way : (b : Bool) → Gives m cs → pick b ((false ≡ true) ⊎ Gives m cs) (Gives m cs)
    either_way true g = inr g
    either_way false g = g
gives m (by zero ∷ cs) h e = inr (gives m cs h e)
gives m (by (suc n) ∷ cs) h e = inl e

-- ---- the numbers of the list are below a limit

abbrev pub NumbersBelow : ℕ → List Condition → Type 0
NumbersBelow m [] = Unit {0}
NumbersBelow m (on n b ∷ cs) = (ltb n m ≡ true) × NumbersBelow m cs
NumbersBelow m (by n ∷ cs) = (n < m) × NumbersBelow m cs

pub number_below : (m : ℕ) (cs : List Condition) → 0 < m → NumbersBelow m cs → first_of cs < m
unfolding first_of unless
number_below m [] h k = h
number_below m (on n true ∷ cs) h k = ltb-true n m k.0
number_below m (on n false ∷ cs) h k = number_below m cs h k.1
number_below m (by zero ∷ cs) h k = number_below m cs h k.1
number_below m (by (suc n) ∷ cs) h k = k.0

-- ---- two conditions under one number

pub or_false : (a b : Bool) → (a || b) ≡ false → (a ≡ false) × (b ≡ false)
or_false true b e = absurd (true≢false e)
or_false false b e = (refl, e)
