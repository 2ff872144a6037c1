-- The loop's invariant: the first k places are filled. Assumes nothing.
use Prim.Native.Nat.{ℕ, ◌+◌, ◌-◌, ◌*◌}
use Rattle.commands.proofs.Filling.{Filled}
use Rattle.commands.specs.Commands.{link_at, no_link}
use Rattle.command_reader.proofs.lists.read_link_statuses.Given as goal

abbrev pub invariant-loop-k : goal.invariant-loop-k
invariant-loop-k l = Filled (λ (j : ℕ). link_at l.s (2 + j * 3)) 31 no_link l.n l.k l.links

abbrev pub decreases-loop-k : goal.decreases-loop-k
decreases-loop-k l = l.n - l.k
