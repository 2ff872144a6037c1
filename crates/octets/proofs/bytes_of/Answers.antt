-- `octets::bytes_of` meets its contract. Assumes nothing.
use mathlib.Core.Path.{◌∙◌}
use Rattle.octets.proofs.Conversions.{library_bytes}
use Rattle.octets.proofs.bytes_of.Goals as goal

pub returns : goal.returns
returns c = c.to_le_bytes.ensures ∙ library_bytes 4 c.args.w
