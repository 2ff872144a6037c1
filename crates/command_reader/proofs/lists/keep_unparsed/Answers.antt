-- `command_reader::lists::keep_unparsed` meets its contract: the bytes and their number in a blank command. Assumes nothing.
use Rattle.commands.specs.Reading.{with_lists, unparsed, places}
use Rattle.command_reader.proofs.lists.keep_unparsed.Goals as goal

pub returns : goal.returns
unfolding with_lists unparsed places
returns c = rw (c.blank.ensures, c.copy_from_slice.ensures.after)
