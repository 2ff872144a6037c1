-- `commands::lists::put_power` meets its contract: the address and the delta, one behind the other. Assumes nothing.
use native.Mathlib.Omega.{arith}
use mathlib.Core.Path.{refl}
use Rattle.octets.proofs.Strings.{over_then}
use Rattle.octets.specs.Numbers.{le}
use Rattle.commands.specs.Format.{width, write_field, write_fields}
use Rattle.commands.specs.Commands.{link_power_delta_format, power_entry}
use Rattle.commands.proofs.lists.put_power.Goals as goal

pub returns : goal.returns
unfolding le width write_field write_fields link_power_delta_format power_entry
returns c =
    over_then _ _ _ _ _ _ _ (omega arith) refl c.put_u16.ensures c.put_byte.ensures
