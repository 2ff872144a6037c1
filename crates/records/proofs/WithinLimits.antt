-- Bytes within their limits: where every byte keeps to the limit of its place, none exceeds it.
-- Assumes nothing.
use mathlib.Core.Path.{◌≡◌, refl}
use mathlib.Core.Bool.{Bool, false}
use mathlib.Core.List.{List, [], ◌∷◌, ◌++◌}
use Prim.Native.Nat.{ℕ, zero, suc, ◌≤◌, ◌<◌}
use native.Mathlib.Numerals.{one-add}
use native.Mathlib.Omega.{arith}
use borrow.Author.Tests.{le-ltb}
use lib.ListN.{length, get_or, drop}
use lib.Seq.{get_or-drop, drop-drop}
use Rattle.records.specs.Limits.{any_below, exceeds}

-- each byte of r from the first on keeps to its limit
abbrev pub Within : List ℕ → List ℕ → Type 0
Within [] r = Unit {0}
Within (l ∷ ls) r = (get_or r 0 0 ≤ l) × Within ls (drop 1 r)

-- the first limits and those behind them
pub within_append : (ls ms r : List ℕ) → Within ls r → Within ms (drop (length ls) r) → Within (ls ++ ms) r
within_append [] ms r v w = w
within_append (l ∷ ls) ms r v w =
    (v.0, within_append ls ms (drop 1 r) v.1 (rw (drop-drop (length ls) 1 r, one-add) w))

each_within : (ls r : List ℕ) → Within ls r → (i : ℕ) → i < length ls → get_or r i 0 ≤ get_or ls i 0
each_within [] r w i h = absurd (omega arith)
each_within (l ∷ ls) r w zero h = w.0
each_within (l ∷ ls) r w (suc i) h = rw (get_or-drop 1 r i 0, one-add) at (each_within ls (drop 1 r) w.1 i (omega arith))

none_below : (p : ℕ → Bool) (n : ℕ) → ((i : ℕ) → i < n → p i ≡ false) → any_below p n ≡ false
unfolding any_below
none_below p zero h = refl
none_below p (suc n) h = rw (none_below p n (λ i l. h i (omega arith)), h n (omega arith)) refl

pub within_limits : (ls r : List ℕ) → Within ls r → exceeds ls r ≡ false
unfolding exceeds
within_limits ls r w = none_below _ (length ls) (λ i l. le-ltb (get_or ls i 0) (get_or r i 0) (each_within ls r w i l))
