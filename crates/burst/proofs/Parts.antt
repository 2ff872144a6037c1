-- The parts of the output: parts of one length, one behind the other.
-- Assumes nothing.
use mathlib.Core.Path.{◌≡◌, refl, sym, ap, ◌∙◌}
use mathlib.Core.Logic.{⊎_elim}
use mathlib.Core.List.{List, ◌++◌, append_assoc}
use Prim.Native.Nat.{ℕ, zero, suc, ◌+◌, ◌*◌, ◌≤◌, ◌<◌}
use native.Mathlib.Omega.{arith}
use lib.ListN.{length, take, drop, length-append, length-drop}
use lib.Seq.{length-take-le, take_at, drop_at}
use Rattle.octets.proofs.Strings.{below_or_last}
use Rattle.burst.specs.Burst.{part_at, joined}

-- a part that ends within the output
pub length_part : (o : List ℕ) (k : ℕ) → 108 * (k + 1) ≤ length o → length (part_at o k) ≡ 108
unfolding part_at
length_part o k h = length-take-le 108 (drop (108 * k) o) (rw (length-drop (108 * k) o) (omega arith))

module _ (f : ℕ → List ℕ) where
  -- each of the first n has 108 bytes
  abbrev pub Sized : ℕ → Type 0
  Sized n = (k : ℕ) → k < n → length (f k) ≡ 108

  pub length_joined : (n : ℕ) → Sized n → length (joined f n) ≡ 108 * n
  unfolding joined
  length_joined zero s = refl
  length_joined (suc n) s =
      rw (length-append (joined f n) (f n), length_joined n (λ k h. s k (omega arith)), s n (omega arith)) (omega arith)

  -- the part k of what is joined, with anything behind
  pub part_joined : (n k : ℕ) (rest : List ℕ) → Sized n → k < n → part_at (joined f n ++ rest) k ≡ f k
  unfolding joined part_at
  part_joined zero k rest s h = absurd (omega arith)
  part_joined (suc n) k rest s h =
      let before : Sized n = λ i l. s i (omega arith) in
      rw (append_assoc (joined f n) (f n) rest)
      (⊎_elim (λ l. part_joined n k (f n ++ rest) before l)
      (λ e. ap (λ (i : ℕ). take 108 (drop (108 * i) (joined f n ++ (f n ++ rest)))) e
      ∙ ap (take 108) (drop_at (joined f n) (f n ++ rest) (108 * n) (length_joined n before))
      ∙ take_at (f n) rest 108 (s n (omega arith)) ∙ ap f (sym e))
      (below_or_last k n h))
