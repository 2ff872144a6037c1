-- `put_optional` meets its contract: three parts, each right behind the one before. Assumes nothing.
use Rattle.records.specs.HeaderRecord.{optional_record}
use mathlib.Core.Path.{refl}
use native.Mathlib.Omega.{arith}
use Rattle.octets.proofs.Strings.{over_three}
use Rattle.records.proofs.Sizes.{length_ieee}
use Rattle.records.proofs.header_record.put_optional.Goals as goal

pub returns : goal.returns
unfolding optional_record
returns c =
    over_three _ _ _ _ 16 25 34 _ _ _ (omega (arith, c.requires)) (rw length_ieee refl) (rw length_ieee refl)
    c.put_ieee.ensures c.put_ieee-2.ensures c.put_multicast.ensures
