-- The loop's invariant: `at` is where frame k begins, and output and list are those after the first k frames. Assumes nothing.
use mathlib.Core.Path.{◌≡◌}
use Prim.Native.Nat.{◌*◌, ◌≤◌}
use lib.ListN.{take}
use Rattle.ccm.specs.Operations.{ciph_under}
use Rattle.burst.specs.Burst.{total, out_after, answers_after}
use Rattle.burst.proofs.open_each.Given as goal

abbrev pub invariant-loop-k : goal.invariant-loop-k
invariant-loop-k l = (l.at ≤ l.k * 65535) × (l.at ≡ total (take l.k l.lengths))
    × (l.out ≡ out_after l.level (ciph_under l.keys) l.frames l.lengths l.initial.out l.k)
    × (l.answers ≡ answers_after l.level (ciph_under l.keys) l.frames l.lengths l.initial.out l.initial.answers l.k)
