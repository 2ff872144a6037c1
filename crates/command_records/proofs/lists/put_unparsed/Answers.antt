-- `put_unparsed` meets its contract: the length, and the places behind it. Assumes nothing.
use mathlib.Core.Path.{refl}
use native.Mathlib.Omega.{arith}
use Rattle.octets.proofs.Strings.{over_then}
use Rattle.command_records.proofs.lists.put_unparsed.Goals as goal

pub returns : goal.returns
returns c =
    over_then _ _ _ 426 427 _ _ (omega arith) refl c.put_byte.ensures c.copy_at.ensures
