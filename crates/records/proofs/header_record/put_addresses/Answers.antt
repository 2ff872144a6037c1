-- `put_addresses` meets its contract: four parts, each right behind the one before. Assumes nothing.
use mathlib.Core.Path.{refl}
use native.Mathlib.Omega.{arith}
use Rattle.octets.proofs.Numbers.{length_le}
use Rattle.records.specs.HeaderRecord.{address_record}
use Rattle.records.proofs.Writes.{over_four}
use Rattle.records.proofs.header_record.put_addresses.Goals as goal

pub returns : goal.returns
unfolding address_record
returns c =
    over_four _ _ _ _ _ 10 12 14 15 _ _ _ _ (omega (arith, c.requires))
    (rw (length_le 2) refl) (rw (length_le 2) refl) (rw (length_le 1) refl)
    c.put_u16.ensures c.put_u16-2.ensures c.put_u8.ensures c.put_u8-2.ensures
