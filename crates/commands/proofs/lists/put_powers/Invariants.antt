-- The loop's invariant: the first k entries stand one behind the other. Assumes nothing.
use Prim.Native.Nat.{ℕ, ◌-◌}
use lib.ListN.{get_or}
use Rattle.commands.proofs.EntriesWritten.{Put}
use Rattle.commands.specs.Commands.{link_power_delta_format, power_entry, no_power}
use Rattle.commands.proofs.lists.put_powers.Given as goal

abbrev pub invariant-loop-k : goal.invariant-loop-k
invariant-loop-k l = Put link_power_delta_format.entry (λ (j : ℕ). power_entry (get_or l.powers j no_power)) l.n l.k l.initial.out l.i l.out

abbrev pub decreases-loop-k : goal.decreases-loop-k
decreases-loop-k l = l.n - l.k
