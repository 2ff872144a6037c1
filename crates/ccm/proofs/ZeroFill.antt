-- Block i by index is the standard's: the sixteen bytes from place 16 · i on of the data filled with zeros to whole blocks.
-- Assumes nothing.
use mathlib.Core.Path.{◌≡◌, refl, sym, ◌∙◌}
use mathlib.Core.List.{List, [], ◌∷◌, ◌++◌}
use Prim.Native.Nat.{ℕ, zero, suc, ◌+◌, ◌-◌, ◌*◌, ◌≤◌, ◌<◌}
use native.Mathlib.Omega.{arith}
use lib.ListN.{length, get_or, take, drop, replicate, length-append, length-drop, length-replicate}
use lib.Seq.{get_or-drop}
use Rattle.octets.proofs.Strings.{tab_ext, tab_get_or}
use Rattle.ccm.specs.Formatting.{blocks_of, block_at}
use Rattle.ccm.proofs.Streams.{blocks_hold}

-- the data, filled with zeros to whole blocks
unfoldable pub zero_filled : List ℕ → List ℕ
zero_filled d = d ++ replicate (blocks_of (length d) * 16 - length d) 0

pub length_zero_filled : (d : List ℕ) → length (zero_filled d) ≡ blocks_of (length d) * 16
unfolding zero_filled
length_zero_filled d = simp (length-append, length-replicate) (omega (arith, blocks_hold (length d)))

pub zero_at : (n i : ℕ) → ◌≡◌ {A = ℕ} (get_or (replicate n 0) i 0) 0
zero_at zero i = refl
zero_at (suc n) zero = refl
zero_at (suc n) (suc i) = zero_at n i

-- zeros at the end change no byte
filled_at : (d : List ℕ) (n i : ℕ) → get_or (d ++ replicate n 0) i 0 ≡ get_or d i 0
filled_at [] n i = zero_at n i
filled_at (x ∷ d) n zero = refl
filled_at (x ∷ d) n (suc i) = filled_at d n i

pub block_at_filled : (d : List ℕ) (i : ℕ) → i < blocks_of (length d) → block_at d i ≡ take 16 (drop (i * 16) (zero_filled d))
unfolding block_at zero_filled
block_at_filled d i h =
    let n : ℕ = blocks_of (length d) * 16 - length d in
    let l : 16 ≤ length (drop (i * 16) (d ++ replicate n 0)) =
    simp (length-drop, length-append, length-replicate) (omega (arith, blocks_hold (length d))) in
    tab_ext _ _ 16 (λ j k. sym (get_or-drop (i * 16) (d ++ replicate n 0) j 0 ∙ filled_at d n (i * 16 + j)))
    ∙ tab_get_or (drop (i * 16) (d ++ replicate n 0)) 0 16 l
