-- What the bytes of a command compute by: to unfold this name is to unfold its values, its format and how they are written.
-- Assumes nothing.
use Rattle.octets.specs.Numbers.{le}
use Rattle.commands.specs.Format.{filled, write_field, write_fields, write_entries, body_bytes}
use Rattle.commands.specs.Commands.{link_entry, capability_values}
use Rattle.commands.specs.Writing.{wire_bytes}
use Rattle.commands.proofs.Layouts.{formats, contents, shapes}
use Rattle.command_writer.specs.Options.{capability_byte}

unfoldable pub layouts : Unit {0}
unfolding formats contents shapes wire_bytes body_bytes filled write_field write_fields write_entries le link_entry capability_values
    capability_byte
layouts = tt
