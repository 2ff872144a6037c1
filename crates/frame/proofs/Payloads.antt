-- A payload copied byte by byte to its place.
-- Assumes nothing.
use mathlib.Core.Path.{◌≡◌, refl, sym, ap, ◌∙◌}
use mathlib.Core.List.{List, [], ◌∷◌}
use Prim.Native.Nat.{ℕ, ◌+◌, ◌<◌, ◌≤◌}
use native.Mathlib.Omega.{arith}
use native.Mathlib.Numerals.{add-one}
use lib.ListN.{length, get_or, take, set}
use lib.Seq.{length-take-le, take_all, take-suc}
use Rattle.octets.specs.Strings.{over}
use Rattle.octets.proofs.Strings.{set_over, length_over, over_over}

-- one more byte stored
pub copy_more : (o s : List ℕ) (i j : ℕ) → i + length s ≤ length o → j < length s
    → set (over o i (take j s)) (i + j) (get_or s j 0) ≡ over o i (take (j + 1) s)
copy_more o s i j ho hs =
    let l : length (take j s) ≡ j = length-take-le j s (omega arith) in
    set_over (over o i (take j s)) (i + j) (get_or s j 0) (rw (length_over o i (take j s) (rw l (omega arith))) (omega arith))
    ∙ over_over o i (i + j) (take j s) (get_or s j 0 ∷ []) (omega arith) (rw l refl)
    ∙ ap (over o i) (rw (add-one) (sym (take-suc s j 0 hs)))

-- all are stored
pub copied : (o s : List ℕ) (i j : ℕ) → length s ≤ j → over o i (take j s) ≡ over o i s
copied o s i j h = ap (over o i) (take_all j s h)
