-- `command_reader::lists::with_pan_ids` meets its contract: the count and the entries that the format reads, in a blank command.
-- Assumes nothing.
use Rattle.octets.proofs.Strings.{length_tab}
use Rattle.commands.specs.Commands.{pan_id_of}
use Rattle.commands.specs.Reading.{with_lists, listed}
use Rattle.commands.proofs.Commands.{map_tab}
use Rattle.command_reader.proofs.Layouts.{layouts}
use Rattle.command_reader.proofs.lists.with_pan_ids.Goals as goal

pub returns : goal.returns
unfolding layouts with_lists listed pan_id_of
returns c = rw (c.blank-filled.ensures, map_tab, length_tab, c.read_pan_ids-pan_ids.ensures, c.from.ensures, c.byte_at-n.ensures)
