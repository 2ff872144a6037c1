-- `put_relays` meets its contract: the count, and the relays behind it. Assumes nothing.
use mathlib.Core.Path.{refl}
use native.Mathlib.Omega.{arith}
use Rattle.octets.proofs.Strings.{over_then}
use Rattle.command_records.specs.Lists.{list_record}
use Rattle.command_records.proofs.lists.put_relays.Goals as goal

pub returns : goal.returns
unfolding list_record
returns c =
    over_then _ _ _ 25 26 _ _ (omega arith) refl c.put_byte.ensures c.put_relays.ensures
