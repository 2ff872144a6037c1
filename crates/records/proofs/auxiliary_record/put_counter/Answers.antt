-- `put_counter` meets its contract: three parts, each right behind the one before. Assumes nothing.
use Rattle.records.specs.AuxiliaryRecord.{counter_record}
use mathlib.Core.Path.{refl}
use native.Mathlib.Omega.{arith}
use Rattle.octets.proofs.Strings.{over_three}
use Rattle.octets.proofs.Numbers.{length_le}
use Rattle.records.proofs.Sizes.{length_ieee}
use Rattle.records.proofs.auxiliary_record.put_counter.Goals as goal

pub returns : goal.returns
unfolding counter_record
returns c =
    over_three _ _ _ _ 5 9 18 _ _ _ (omega (arith, c.requires)) (rw (length_le 4) refl) (rw length_ieee refl)
    c.put_u32.ensures c.put_ieee.ensures c.put_u8.ensures
