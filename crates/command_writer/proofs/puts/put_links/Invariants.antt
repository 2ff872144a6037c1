-- The loop's invariant: the first k entries stand one behind the other. Assumes nothing.
use Prim.Native.Nat.{ℕ, ◌-◌}
use lib.ListN.{get_or}
use Rattle.commands.specs.Commands.{link_status_format, link_entry, no_link}
use Rattle.commands.proofs.EntriesWritten.{Put}
use Rattle.command_writer.proofs.puts.put_links.Given as goal

abbrev pub invariant-loop-k : goal.invariant-loop-k
invariant-loop-k l = Put link_status_format.entry (λ (j : ℕ). link_entry (get_or l.links j no_link)) l.n l.k l.initial.out l.i l.out

abbrev pub decreases-loop-k : goal.decreases-loop-k
decreases-loop-k l = l.n - l.k
