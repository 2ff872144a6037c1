-- `records::opened_record::put_headers` meets its contract: each part at its place. Assumes nothing.
use mathlib.Core.Path.{refl}
use native.Mathlib.Omega.{arith}
use Rattle.octets.proofs.Strings.{over_then, part_over}
use Rattle.records.proofs.Sizes.{length_header}
use Rattle.records.proofs.opened_record.put_headers.Goals as goal

pub returns : goal.returns
returns c =
    let h = c.args.header in
    over_then c.args.out.now _ _ 16 163 _ _ (omega arith) (rw (length_header h) refl)
    (part_over _ _ _ 16 (omega arith) c.put_header.ensures) (part_over _ _ _ 163 (omega arith) c.put_option.ensures)
