-- `number_at` meets its contract: a lower and an upper byte. Assumes nothing.
use native.Mathlib.Omega.{arith}
use Rattle.octets.specs.Numbers.{le_at}
use Rattle.octets.proofs.Conversions.{from_two}
use Rattle.records.proofs.header_record.number_at.Goals as goal

pub returns : goal.returns
unfolding le_at
returns c = rw (c.from_le_bytes.ensures, from_two _ _) (omega arith)
