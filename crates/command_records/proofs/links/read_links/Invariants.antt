-- The loop's invariant: the first k places are filled. Assumes nothing.
use Prim.Native.Nat.{ℕ, ◌+◌, ◌-◌, ◌*◌}
use Rattle.commands.specs.Commands.{no_link}
use Rattle.command_records.specs.Lists.{link_record_at}
use Rattle.commands.proofs.Filling.{Filled}
use Rattle.command_records.proofs.links.read_links.Given as goal

abbrev pub invariant-loop-k : goal.invariant-loop-k
invariant-loop-k l = Filled (λ (j : ℕ). link_record_at l.bytes (l.i + j * 4)) 31 no_link l.n l.k l.links

abbrev pub decreases-loop-k : goal.decreases-loop-k
decreases-loop-k l = l.n - l.k
