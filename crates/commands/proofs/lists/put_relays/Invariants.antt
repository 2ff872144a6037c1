-- The loop's invariant: the first k entries stand one behind the other. Assumes nothing.
use Prim.Native.Nat.{ℕ, ◌-◌}
use lib.ListN.{get_or}
use Rattle.types.specs.Addresses.{no_nwk}
use Rattle.commands.proofs.EntriesWritten.{Put}
use Rattle.commands.specs.Commands.{route_record_format, relay_entry}
use Rattle.commands.proofs.lists.put_relays.Given as goal

abbrev pub invariant-loop-k : goal.invariant-loop-k
invariant-loop-k l = Put route_record_format.entry (λ (j : ℕ). relay_entry (get_or l.relays j no_nwk)) l.n l.k l.initial.out l.i l.out

abbrev pub decreases-loop-k : goal.decreases-loop-k
decreases-loop-k l = l.n - l.k
