-- `types::Eui64::from_be_bytes` meets its contract: eight bytes the other way round. Assumes nothing.
use Rattle.std.proofs.Common.{rules}
use mathlib.Core.Path.{◌∙◌}
use Rattle.types.proofs.Addresses.{reverse_eight}
use Rattle.types.proofs.Eui64.from_be_bytes.Goals as goal

pub returns : goal.returns
returns c = c.reverse.ensures.after ∙ reverse_eight c.args.bytes (search rules)
