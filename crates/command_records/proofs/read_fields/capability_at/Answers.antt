-- `command_records::read_fields::capability_at` meets its contract, bit by bit. Assumes nothing.
use native.Mathlib.Nat.{add-zero}
use lib.Seq.{get_or-drop}
use Rattle.commands.specs.Commands.{capability_of}
use Rattle.command_records.proofs.read_fields.capability_at.Goals as goal

pub returns : goal.returns
unfolding capability_of
returns c =
    rw (c.into.ensures, c.into-2.ensures, c.flag.ensures, c.flag-2.ensures, c.flag-3.ensures, c.flag-4.ensures, c.flag-5.ensures, c.flag-6.ensures, c.flag-7.ensures, c.flag-8.ensures)
    (simp (get_or-drop, add-zero))
