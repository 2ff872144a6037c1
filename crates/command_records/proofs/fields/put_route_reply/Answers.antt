-- `command_records::fields::put_route_reply` meets its contract: one part behind the other. Assumes nothing.
use mathlib.Core.Path.{◌≡◌}
use native.Mathlib.Omega.{arith}
use Prim.Native.Nat.{◌%◌}
use Rattle.octets.specs.Numbers.{le}
use Rattle.octets.proofs.Strings.{behind}
use Rattle.command_records.specs.Fields.{address_record, field_bytes}
use Rattle.command_records.proofs.fields.put_route_reply.Goals as goal

pub returns : goal.returns
unfolding field_bytes address_record le
returns c =
    let byte : c.args.c.path_cost % 256 ≡ c.args.c.path_cost = omega arith in
    rw byte at
    (behind _ _ _
    (behind _ _ _
    (behind _ _ _ (behind _ _ _ (behind _ _ _ c.copy_at.ensures c.put_u16.ensures) c.put_u16-2.ensures) c.put_u8.ensures)
    c.put_address.ensures)
    c.put_address-2.ensures)
