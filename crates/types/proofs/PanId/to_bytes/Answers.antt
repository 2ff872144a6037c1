-- `types::PanId::to_bytes` meets its contract: the library's bytes are the definition's. Assumes nothing.
use mathlib.Core.Path.{◌∙◌}
use Rattle.octets.proofs.Conversions.{library_bytes}
use Rattle.types.proofs.PanId.to_bytes.Goals as goal

pub returns : goal.returns
returns c = c.to_le_bytes.ensures ∙ library_bytes 2 c.args.self.0
