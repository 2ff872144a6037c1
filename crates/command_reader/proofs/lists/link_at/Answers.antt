-- `command_reader::lists::link_at` meets its contract: the fields stand at the places of the format. Assumes nothing.
use Rattle.commands.specs.Commands.{link_of, link_at}
use Rattle.command_reader.proofs.Layouts.{layouts}
use Rattle.command_reader.proofs.lists.link_at.Goals as goal

pub returns : goal.returns
unfolding layouts link_of link_at
returns c = rw (c.read_u16.ensures, c.byte_at-costs.ensures)
