-- `command_reader::bodies::read_route_request` meets its contract: the fields stand at the places of the format, the address in
-- the one entry that its bit counts. Assumes nothing.
use Rattle.std.specs.Prelude.{Some}
use Rattle.std.proofs.lemmas.Grind.{common_steps}
use mathlib.Core.Path.{◌≡◌}
use native.Mathlib.Omega.{arith}
use borrow.Author.Tests.{le-leb}
use lib.ListN.{length}
use Prim.Native.Nat.{◌+◌, ◌*◌, ◌/◌, ◌%◌, ◌≤◌}
use Rattle.commands.specs.Codes.{many_to_one_of}
use Rattle.command_reader.proofs.Entries.{address_entry_lem}
use Rattle.command_reader.proofs.Layouts.{layouts}
use Rattle.command_reader.proofs.bodies.read_route_request.Goals as goal

pub returns : goal.returns
unfolding layouts
returns c =
    let s = c.args.s.now in
    let options = c.byte_at-options.result in
    let has = options / 8 / 4 % 2 in
    let whole : 6 + has * 8 ≤ length s = grind (arith, common_steps) in
    let code : many_to_one_of (options / 8 % 4) ≡ Some c.in_ok-many_to_one.many_to_one = grind (arith, common_steps) in
    rw (← c.byte_at-options.ensures, le-leb _ _ whole, code, address_entry_lem s 6 has has 0 (λ e. omega arith)) (grind (arith, common_steps))
