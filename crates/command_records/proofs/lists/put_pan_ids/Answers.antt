-- `put_pan_ids` meets its contract: the count, and the PAN ids behind it. Assumes nothing.
use mathlib.Core.Path.{refl}
use native.Mathlib.Omega.{arith}
use Rattle.octets.proofs.Strings.{over_then}
use Rattle.command_records.specs.Lists.{list_record}
use Rattle.command_records.proofs.lists.put_pan_ids.Goals as goal

pub returns : goal.returns
unfolding list_record
returns c =
    over_then _ _ _ 257 258 _ _ (omega arith) refl c.put_byte.ensures c.put_pan_ids.ensures
