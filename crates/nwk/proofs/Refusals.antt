-- The refusals of the C functions in their order, at each return of the code, over plain numbers.
-- Assumes nothing.
use mathlib.Core.Path.{◌≡◌, sym, ◌∙◌}
use mathlib.Core.Bool.{Bool, false}
use mathlib.Core.List.{List, [], ◌∷◌}
use Prim.Native.Nat.{ℕ, ◌≤◌, ◌<◌}
use borrow.Author.Tests.{lt-ltb, le-ltb}
use lib.Dec.{ltb}
use Rattle.octets.specs.Refusals.{Condition, on, by, first_of}
use Rattle.octets.proofs.Conditions.{unless_number, stop, skip, stop_by, skip_by, empty}

-- ---- reading: the reader's own number n, then 18 for a record with too little room

-- the number of the code, known to be the definition's
pub read_number : (n k : ℕ) (cs : List Condition) → n ≡ k → (n ≡ 0 → ⊥) → n ≡ first_of (by k ∷ cs)
read_number n k cs e h = e ∙ sym (stop_by k cs (λ z. h (e ∙ z)))

pub read_short : (n size room : ℕ) → n ≡ 0 → room < size → 18 ≡ first_of (by n ∷ on 18 (ltb room size) ∷ [])
read_short n size room e h = sym (skip_by n _ e ∙ stop 18 (ltb room size) [] (lt-ltb room size h))

pub read_none : (n size room : ℕ) → n ≡ 0 → size ≤ room → first_of (by n ∷ on 18 (ltb room size) ∷ []) ≡ 0
read_none n size room e h = skip_by n _ e ∙ skip 18 (ltb room size) [] (le-ltb room size h) ∙ empty

-- ---- writing: 13 for the record, then the writer's own number n

pub single : (n : ℕ) → n ≡ first_of (by n ∷ [])
unfolding first_of
single n = sym (unless_number n)

pub write_good : (bad : Bool) (n : ℕ) → bad ≡ false → n ≡ first_of (on 13 bad ∷ by n ∷ [])
write_good bad n e = single n ∙ sym (skip 13 bad (by n ∷ []) e)
