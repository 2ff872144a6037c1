-- The entries that hold optional IEEE addresses: where a presence bit is set its address stands in entry k, which is one
-- of the n that are counted, and where it is not the entry does not matter.
-- Assumes nothing.
use mathlib.Core.Path.{◌≡◌, refl}
use mathlib.Core.List.{List, [], ◌∷◌}
use Prim.Native.Nat.{ℕ, zero, suc, ◌+◌, ◌*◌, ◌<◌}
use native.Mathlib.Omega.{arith}
use borrow.Author.Tests.{ne_eqb}
use lib.ListN.{get_or}
use Rattle.octets.specs.Strings.{tab}
use Rattle.octets.specs.Numbers.{le_at}
use Rattle.octets.proofs.Strings.{get_or_tab}
use Rattle.commands.specs.Commands.{address_of}

pub address_entry_lem : (s : List ℕ) (p b n k : ℕ) → (b ≡ 1 → k < n)
    → address_of b (get_or (get_or (tab (λ (j : ℕ). le_at 8 s (p + j * 8) ∷ []) n) k []) 0 0) ≡ address_of b (le_at 8 s (p + k * 8))
unfolding address_of
address_entry_lem s p zero n k h = refl
address_entry_lem s p (suc zero) n k h = rw (get_or_tab (λ (j : ℕ). le_at 8 s (p + j * 8) ∷ []) n k [] (h refl))
address_entry_lem s p (suc (suc b)) n k h = rw (ne_eqb (suc (suc b)) 1 (λ e. omega arith))
