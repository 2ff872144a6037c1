-- The loop's invariant: the sum is that of the first lengths, and no addition exceeds a word. Assumes nothing.
use mathlib.Core.Path.{◌≡◌}
use Prim.Native.Nat.{◌*◌, ◌≤◌}
use lib.ListN.{take}
use Rattle.burst.specs.Burst.{total}
use Rattle.burst.proofs.total.Given as goal

abbrev pub invariant-loop-length : goal.invariant-loop-length
invariant-loop-length l = (l.sum ≤ l.length-index * 65535) × (l.sum ≡ total (take l.length-index l.lengths))
