-- `command_reader::bodies::read_route_reply` meets its contract: the fields stand at the places of the format, the addresses in
-- the entries that their bits count. Assumes nothing.
use Rattle.std.proofs.lemmas.Grind.{common_steps}
use native.Mathlib.Omega.{arith}
use borrow.Author.Tests.{le-leb}
use lib.ListN.{length}
use Prim.Native.Nat.{◌+◌, ◌*◌, ◌/◌, ◌%◌, ◌≤◌}
use Rattle.command_reader.proofs.Entries.{address_entry_lem}
use Rattle.command_reader.proofs.Layouts.{layouts}
use Rattle.command_reader.proofs.bodies.read_route_reply.Goals as goal

pub returns : goal.returns
unfolding layouts
returns c =
    let s = c.args.s.now in
    let options = c.byte_at-options.result in
    let has = options / 16 % 2 in
    let has2 = options / 16 / 2 % 2 in
    let whole : 8 + (has + has2) * 8 ≤ length s = grind (arith, common_steps) in
    rw (← c.byte_at-options.ensures, le-leb _ _ whole, address_entry_lem s 8 has (has + has2) 0 (λ e. omega arith), address_entry_lem s 8 has2 (has + has2) has (λ e. omega arith))
    (grind (arith, common_steps))
