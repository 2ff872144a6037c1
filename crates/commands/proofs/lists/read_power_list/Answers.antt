-- `commands::lists::read_power_list` meets its contract. Assumes nothing.
use native.Mathlib.Omega.{arith}
use Rattle.commands.proofs.Filling.{fill_none, fill_next, fill_all}
use Rattle.commands.specs.Commands.{no_power}
use Rattle.commands.proofs.lists.read_power_list.Goals as goal

pub loop-k-init : goal.loop-k-init
loop-k-init c = fill_none _ 35 no_power _

pub loop-k-preserved : goal.loop-k-preserved
loop-k-preserved c = fill_next c.loop-k.invariant (omega arith) (omega arith) c.power_at.ensures

pub returns : goal.returns
returns c = fill_all c.loop-k.invariant c.loop-k-test.false
