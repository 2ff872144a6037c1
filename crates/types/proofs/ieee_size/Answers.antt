-- `ieee_size` meets its contract: a field that is present has 8 bytes. Assumes nothing.
use Rattle.std.specs.Prelude.{ℕ, Option}
use mathlib.Core.Path.{sym, ap, ◌∙◌}
use native.Mathlib.Omega.{arith}
use lib.ListN.{length}
use Rattle.types.specs.Optional.{ieee_bytes}
use Rattle.octets.proofs.Numbers.{length_le}
use Rattle.types.proofs.ieee_size.Goals as goal

pub returns-in-Some : goal.returns-in-Some
returns-in-Some c =
    (sym (ap (λ (o : Option ℕ). length (ieee_bytes o)) c.in-Some.is ∙ length_le 8 _), omega arith)
