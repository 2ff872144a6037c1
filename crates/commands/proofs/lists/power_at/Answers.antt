-- `commands::lists::power_at` meets its contract: the fields stand at the places of the format. Assumes nothing.
use Rattle.types.specs.Addresses.{nwk}
use Rattle.commands.specs.Format.{read_fields, read_field, size}
use Rattle.commands.specs.Commands.{link_power_delta_format, power_of, power_at}
use Rattle.commands.proofs.lists.power_at.Goals as goal

pub returns : goal.returns
unfolding power_at power_of link_power_delta_format read_fields read_field size
returns c =
    λ i. record { device_address = nwk (c.read_u16.ensures i); power_delta = c.byte_at.ensures i }
