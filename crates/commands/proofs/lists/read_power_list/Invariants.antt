-- The loop's invariant: the first k places are filled. Assumes nothing.
use Prim.Native.Nat.{ℕ, ◌+◌, ◌-◌, ◌*◌}
use Rattle.commands.proofs.Filling.{Filled}
use Rattle.commands.specs.Commands.{power_at, no_power}
use Rattle.commands.proofs.lists.read_power_list.Given as goal

abbrev pub invariant-loop-k : goal.invariant-loop-k
invariant-loop-k l = Filled (λ (j : ℕ). power_at l.s (l.i + j * 3)) 35 no_power l.n l.k l.powers

abbrev pub decreases-loop-k : goal.decreases-loop-k
decreases-loop-k l = l.n - l.k
