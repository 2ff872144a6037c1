-- `commands::lists::read_pan_ids` meets its contract. Assumes nothing.
use native.Mathlib.Omega.{arith}
use Rattle.commands.proofs.Filling.{fill_none, fill_next, fill_all}
use mathlib.Core.Path.{ap}
use Rattle.types.specs.Addresses.{pan_id}
use Rattle.commands.specs.Commands.{no_pan_id}
use Rattle.commands.proofs.lists.read_pan_ids.Goals as goal

pub loop-k-init : goal.loop-k-init
loop-k-init c = fill_none _ 31 no_pan_id _

pub loop-k-preserved : goal.loop-k-preserved
loop-k-preserved c = fill_next c.loop-k.invariant (omega arith) (omega arith) (ap pan_id c.read_u16.ensures)

pub returns : goal.returns
returns c = fill_all c.loop-k.invariant c.loop-k-test.false
