-- The chain's next block, as a turn of the code's loop makes it; and the chain goes by its blocks alone.
-- Assumes nothing.
use mathlib.Core.Path.{◌≡◌, refl, ap}
use mathlib.Core.List.{List}
use Prim.Native.Nat.{ℕ, zero, suc, ◌+◌, ◌≤◌}
use native.Mathlib.Numerals.{add-one}
use native.Mathlib.Omega.{arith}
use Rattle.octets.specs.Strings.{xored}
use Rattle.ccm.specs.Mac.{chain}

pub chain_next : (ciph : List ℕ → List ℕ) (b : ℕ → List ℕ) (i : ℕ) → ciph (xored 16 (b (i + 1)) (chain ciph b i).block) ≡ (chain ciph b (i + 1)).block
unfolding chain
chain_next ciph b i = rw add-one refl

pub chain_same : (ciph : List ℕ → List ℕ) (b d : ℕ → List ℕ) (n : ℕ) → ((i : ℕ) → i ≤ n → b i ≡ d i) → (chain ciph b n).block ≡ (chain ciph d n).block
unfolding chain
chain_same ciph b d zero h = ap ciph (h 0 (omega arith))
chain_same ciph b d (suc n) h =
    λ i. ciph (xored 16 (h (suc n) (omega arith) i) (chain_same ciph b d n (λ k l. h k (omega arith)) i))
