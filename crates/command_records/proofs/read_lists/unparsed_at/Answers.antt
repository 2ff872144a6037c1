-- `unparsed_at` meets its contract. Assumes nothing.
use native.Mathlib.Omega.{arith}
use Rattle.commands.proofs.Filling.{fill_none, fill_next}
use Rattle.command_records.proofs.read_lists.unparsed_at.Goals as goal

pub loop-i-init : goal.loop-i-init
loop-i-init c = fill_none _ 108 0 108

pub loop-i-preserved : goal.loop-i-preserved
loop-i-preserved c = fill_next c.loop-i.invariant (omega arith) (omega arith) c.byte_at.ensures
