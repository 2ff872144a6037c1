-- `command_records::fields::put_network_update` meets its contract: one part behind the other. Assumes nothing.
use mathlib.Core.Path.{◌≡◌}
use native.Mathlib.Omega.{arith}
use Prim.Native.Nat.{◌%◌}
use Rattle.octets.specs.Numbers.{le}
use Rattle.octets.proofs.Strings.{behind}
use Rattle.command_records.specs.Fields.{field_bytes}
use Rattle.command_records.proofs.fields.put_network_update.Goals as goal

pub returns : goal.returns
unfolding field_bytes le
returns c =
    let byte : c.args.c.update_id % 256 ≡ c.args.c.update_id = omega arith in
    rw (← c.code-identifier.ensures)
    (rw byte at (behind _ _ _ (behind _ _ _ (behind _ _ _ c.copy_at.ensures c.put_u64.ensures) c.put_u8.ensures) c.put_u16.ensures))
