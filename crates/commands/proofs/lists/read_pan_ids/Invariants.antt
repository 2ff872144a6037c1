-- The loop's invariant: the first k places are filled. Assumes nothing.
use Prim.Native.Nat.{ℕ, ◌+◌, ◌-◌, ◌*◌}
use Rattle.commands.proofs.Filling.{Filled}
use Rattle.commands.specs.Commands.{pan_id_at, no_pan_id}
use Rattle.commands.proofs.lists.read_pan_ids.Given as goal

abbrev pub invariant-loop-k : goal.invariant-loop-k
invariant-loop-k l = Filled (λ (j : ℕ). pan_id_at l.s (l.i + j * 2)) 31 no_pan_id l.n l.k l.pan_ids

abbrev pub decreases-loop-k : goal.decreases-loop-k
decreases-loop-k l = l.n - l.k
