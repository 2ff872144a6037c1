-- `command_writer::encoders::write_network_update` meets its contract: one field behind the other. Assumes nothing.
use mathlib.Core.Path.{◌≡◌}
use native.Mathlib.Omega.{arith}
use Prim.Native.Nat.{◌%◌}
use Rattle.octets.proofs.Strings.{behind}
use Rattle.command_writer.proofs.Layouts.{layouts}
use Rattle.command_writer.proofs.encoders.write_network_update.Goals as goal

pub returns : goal.returns
unfolding layouts
returns c =
    let byte : c.args.c.update_id % 256 ≡ c.args.c.update_id = omega arith in
    rw (← c.code.ensures, ← c.count_and_identifier-flags.ensures)
    (rw byte at (behind _ _ _ (behind _ _ _ (behind _ _ _ c.copy_at.ensures c.put_u64.ensures) c.put_u8.ensures) c.put_u16.ensures))
