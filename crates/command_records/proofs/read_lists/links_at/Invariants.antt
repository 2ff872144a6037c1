-- The loop's invariant: the first i places are filled. Assumes nothing.
use Prim.Native.Nat.{ℕ, ◌+◌, ◌-◌, ◌*◌}
use Rattle.commands.specs.Commands.{no_link}
use Rattle.command_records.specs.Lists.{link_record_at}
use Rattle.commands.proofs.Filling.{Filled}
use Rattle.command_records.proofs.read_lists.links_at.Given as goal

abbrev pub invariant-loop-i : goal.invariant-loop-i
invariant-loop-i l = Filled (λ (k : ℕ). link_record_at l.bytes (133 + k * 4)) 31 no_link 31 l.i l.links

abbrev pub decreases-loop-i : goal.decreases-loop-i
decreases-loop-i l = 31 - l.i
