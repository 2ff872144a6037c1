-- The loop's invariant: the first k entries stand one behind the other. Assumes nothing.
use Prim.Native.Nat.{ℕ, ◌-◌}
use lib.ListN.{get_or}
use Rattle.commands.proofs.EntriesWritten.{Put}
use Rattle.commands.specs.Commands.{network_report_format, pan_id_entry, no_pan_id}
use Rattle.commands.proofs.lists.put_pan_ids.Given as goal

abbrev pub invariant-loop-k : goal.invariant-loop-k
invariant-loop-k l = Put network_report_format.entry (λ (j : ℕ). pan_id_entry (get_or l.pan_ids j no_pan_id)) l.n l.k l.initial.out l.i l.out

abbrev pub decreases-loop-k : goal.decreases-loop-k
decreases-loop-k l = l.n - l.k
