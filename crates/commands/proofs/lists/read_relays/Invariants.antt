-- The loop's invariant: the first k places are filled. Assumes nothing.
use Prim.Native.Nat.{ℕ, ◌+◌, ◌-◌, ◌*◌}
use Rattle.commands.proofs.Filling.{Filled}
use Rattle.types.specs.Addresses.{no_nwk}
use Rattle.commands.specs.Commands.{relay_at}
use Rattle.commands.proofs.lists.read_relays.Given as goal

abbrev pub invariant-loop-k : goal.invariant-loop-k
invariant-loop-k l = Filled (λ (j : ℕ). relay_at l.s (l.i + j * 2)) 53 no_nwk l.n l.k l.relays

abbrev pub decreases-loop-k : goal.decreases-loop-k
decreases-loop-k l = l.n - l.k
