-- The loop's invariant: the flag says whether a place passed exceeds its limit. The measure is what is left. Assumes nothing.
use mathlib.Core.Path.{◌≡◌}
use Prim.Native.Nat.{ℕ}
use lib.ListN.{get_or}
use lib.Dec.{ltb}
use Rattle.records.specs.Limits.{any_below}
use Rattle.records.proofs.limits.exceeds.Given as goal

abbrev pub invariant-loop-i : goal.invariant-loop-i
invariant-loop-i l = l.beyond ≡ any_below (λ (k : ℕ). ltb (get_or l.limits k 0) (get_or l.bytes k 0)) l.i
