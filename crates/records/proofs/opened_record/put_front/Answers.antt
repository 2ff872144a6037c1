-- `put_front` meets its contract: three parts, each right behind the one before. Assumes nothing.
use mathlib.Core.Path.{refl}
use native.Mathlib.Omega.{arith}
use Rattle.octets.specs.Numbers.{le}
use Rattle.octets.proofs.Strings.{over_three}
use Rattle.records.specs.OpenedRecord.{opened_front}
use Rattle.records.proofs.Sizes.{length_ieee}
use Rattle.records.proofs.opened_record.put_front.Goals as goal

pub returns : goal.returns
unfolding opened_front le
returns c =
    over_three _ _ _ _ 0 5 14 _ _ _ (omega arith) refl (rw length_ieee refl)
    c.copy_at.ensures c.put_ieee.ensures c.put_u16.ensures
