-- `commands::lists::read_relays` meets its contract. Assumes nothing.
use native.Mathlib.Omega.{arith}
use Rattle.commands.proofs.Filling.{fill_none, fill_next, fill_all}
use mathlib.Core.Path.{ap}
use Rattle.types.specs.Addresses.{nwk, no_nwk}
use Rattle.commands.proofs.lists.read_relays.Goals as goal

pub loop-k-init : goal.loop-k-init
loop-k-init c = fill_none _ 53 no_nwk _

pub loop-k-preserved : goal.loop-k-preserved
loop-k-preserved c = fill_next c.loop-k.invariant (omega arith) (omega arith) (ap nwk c.read_u16.ensures)

pub returns : goal.returns
returns c = fill_all c.loop-k.invariant c.loop-k-test.false
