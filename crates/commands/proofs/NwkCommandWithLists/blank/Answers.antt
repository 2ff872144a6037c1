-- `NwkCommandWithLists::blank` meets its contract by computation. Assumes nothing.
use mathlib.Core.Path.{refl}
use Rattle.commands.specs.Reading.{with_lists, places}
use Rattle.commands.proofs.NwkCommandWithLists.blank.Goals as goal

pub returns : goal.returns
unfolding with_lists places
returns c = refl
