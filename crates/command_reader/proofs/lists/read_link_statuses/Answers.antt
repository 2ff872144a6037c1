-- `command_reader::lists::read_link_statuses` meets its contract. Assumes nothing.
use native.Mathlib.Omega.{arith}
use Rattle.commands.proofs.Filling.{fill_none, fill_next, fill_all}
use Rattle.commands.specs.Commands.{no_link}
use Rattle.command_reader.proofs.lists.read_link_statuses.Goals as goal

pub loop-k-init : goal.loop-k-init
loop-k-init c = fill_none _ 31 no_link _

pub loop-k-preserved : goal.loop-k-preserved
loop-k-preserved c = fill_next c.loop-k.invariant (omega arith) (omega arith) c.link_at.ensures

pub returns : goal.returns
returns c = fill_all c.loop-k.invariant c.loop-k-test.false
