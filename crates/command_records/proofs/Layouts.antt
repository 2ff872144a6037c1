-- What the command of a record computes by: to unfold this name is to unfold the values at their places and what they mean.
-- Assumes nothing.
use Rattle.commands.proofs.Layouts.{meanings, codings}
use Rattle.command_records.specs.Fields.{record_values}

unfoldable pub layouts : Unit {0}
unfolding meanings codings record_values
layouts = tt
