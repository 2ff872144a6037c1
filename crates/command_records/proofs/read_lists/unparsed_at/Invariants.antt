-- The loop's invariant: the first i places are filled. Assumes nothing.
use Prim.Native.Nat.{ℕ, ◌+◌, ◌-◌}
use lib.ListN.{get_or}
use Rattle.commands.proofs.Filling.{Filled}
use Rattle.command_records.proofs.read_lists.unparsed_at.Given as goal

abbrev pub invariant-loop-i : goal.invariant-loop-i
invariant-loop-i l = Filled (λ (k : ℕ). get_or l.bytes (427 + k) 0) 108 0 108 l.i l.unparsed

abbrev pub decreases-loop-i : goal.decreases-loop-i
decreases-loop-i l = 108 - l.i
