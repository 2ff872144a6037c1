-- The loop's invariant: the first k entries stand one behind the other. Assumes nothing.
use Prim.Native.Nat.{ℕ, ◌-◌}
use lib.ListN.{get_or}
use Rattle.commands.specs.Commands.{link_entry, no_link}
use Rattle.commands.proofs.EntriesWritten.{Put}
use Rattle.command_records.specs.Lists.{link_record_entry}
use Rattle.command_records.proofs.lists.put_links.Given as goal

abbrev pub invariant-loop-k : goal.invariant-loop-k
invariant-loop-k l = Put link_record_entry (λ (j : ℕ). link_entry (get_or l.links j no_link)) 31 l.k l.initial.out l.i l.out

abbrev pub decreases-loop-k : goal.decreases-loop-k
decreases-loop-k l = 31 - l.k
