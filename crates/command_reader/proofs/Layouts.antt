-- What the command of bytes computes by: to unfold this name is to unfold the values at their places and what they mean.
-- Assumes nothing.
use Rattle.commands.specs.Reading.{body_of}
use Rattle.commands.proofs.Layouts.{meanings, codings, readings}
use Rattle.command_reader.specs.Capability.{capability_of_byte}

unfoldable pub layouts : Unit {0}
unfolding meanings codings readings body_of capability_of_byte
layouts = tt
