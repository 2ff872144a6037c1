-- `octets::put_u64` meets its contract: the number's bytes are copied. Assumes nothing.
use mathlib.Core.Path.{ap, ◌∙◌}
use mathlib.Core.List.{List}
use Rattle.octets.specs.Strings.{over}
use Rattle.octets.proofs.Conversions.{library_bytes}
use Prim.Native.Nat.{ℕ}
use Rattle.octets.proofs.put_u64.Goals as goal

pub returns : goal.returns
returns c = c.copy_at.ensures ∙ ap (λ (l : List ℕ). over c.args.out.now c.args.i l) (c.to_le_bytes.ensures ∙ library_bytes 8 c.args.x)
