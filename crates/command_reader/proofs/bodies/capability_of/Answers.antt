-- `command_reader::bodies::capability_of` meets its contract, bit by bit. Assumes nothing.
use native.Mathlib.Nat.{div-one, div-div-eq-div-mul}
use Rattle.octets.specs.Fields.{fields}
use Rattle.commands.specs.Commands.{capability_of}
use Rattle.command_reader.specs.Capability.{capability_of_byte}
use Rattle.command_reader.proofs.bodies.capability_of.Goals as goal

pub returns : goal.returns
unfolding capability_of_byte capability_of fields
returns c =
    rw (c.into.ensures, c.into-2.ensures, c.bit.ensures, c.bit-2.ensures, c.bit-3.ensures, c.bit-4.ensures, c.bit-5.ensures, c.bit-6.ensures, c.bit-7.ensures, c.bit-8.ensures)
    (simp (div-one, div-div-eq-div-mul))
