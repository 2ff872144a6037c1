-- Limits of bytes: some place meets a test where one is found, and the same with one place more. By induction on the number of
-- places.
-- Assumes nothing.
use mathlib.Core.Path.{◌≡◌, refl}
use mathlib.Core.Bool.{Bool, true, or-true, ◌||◌}
use mathlib.Core.Logic.{⊎_elim}
use Prim.Native.Nat.{ℕ, zero, suc, ◌+◌, ◌<◌}
use native.Mathlib.Numerals.{add-one}
use native.Mathlib.Omega.{arith}
use Rattle.octets.proofs.Strings.{below_or_last}
use Rattle.records.specs.Limits.{any_below}

pub any_found : (p : ℕ → Bool) (n i : ℕ) → i < n → p i ≡ true → any_below p n ≡ true
unfolding any_below
any_found p zero i h e = absurd (omega arith)
any_found p (suc n) i h e =
    ⊎_elim
    (λ l. rw (any_found p n i l e) refl)
    (λ (q : i ≡ n). rw (← q, e) (or-true (any_below p i)))
    (below_or_last i n h)

-- one place more
pub any_more : (p : ℕ → Bool) (n : ℕ) → any_below p n || p n ≡ any_below p (n + 1)
unfolding any_below
any_more p n = rw (add-one n) refl
