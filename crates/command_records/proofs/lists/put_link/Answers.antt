-- `put_link` meets its contract: three parts, each right behind the one before. Assumes nothing.
use mathlib.Core.Path.{refl}
use native.Mathlib.Omega.{arith}
use Rattle.octets.specs.Numbers.{le}
use Rattle.octets.proofs.Strings.{over_three}
use Rattle.commands.specs.Format.{width, write_field, write_fields}
use Rattle.commands.specs.Commands.{link_entry}
use Rattle.command_records.specs.Lists.{link_record_entry}
use Rattle.command_records.proofs.lists.put_link.Goals as goal

pub returns : goal.returns
unfolding link_record_entry link_entry write_fields write_field width le
returns c =
    over_three _ _ _ _ _ _ _ _ _ _ (omega arith) refl (omega arith) c.put_u16.ensures c.put_byte.ensures c.put_byte-2.ensures
