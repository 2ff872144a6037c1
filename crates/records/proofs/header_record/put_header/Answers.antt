-- `put_header` meets its contract: four parts, each right behind the one before. Assumes nothing.
use Rattle.octets.proofs.Strings.{over_then}
use Rattle.records.proofs.Sizes.{length_route}
use Rattle.records.specs.Optional.{route_record}
use mathlib.Core.Path.{refl}
use native.Mathlib.Omega.{arith}
use Rattle.records.specs.HeaderRecord.{optional_record, header_record}
use Rattle.records.proofs.Sizes.{length_address, length_optional}
use Rattle.records.proofs.Writes.{over_four}
use Rattle.records.proofs.header_record.put_header.Goals as goal

pub returns : goal.returns
unfolding header_record optional_record
returns c =
    let route = over_then _ _ _ 36 39 (route_record c.args.h.source_route) _ (omega arith) (rw (length_route c.args.h.source_route) refl)
    c.put_route.ensures c.put_relays.ensures in
    over_four _ _ _ _ _ 0 10 16 36 _ _ _ _ (omega arith) refl (rw length_address refl) (rw length_optional refl)
    c.put_control.ensures c.put_addresses.ensures c.put_optional.ensures route
