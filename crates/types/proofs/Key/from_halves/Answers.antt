-- `types::Key::from_halves` meets its contract: one number's eight bytes behind the other's. Assumes nothing.
use mathlib.Core.Path.{ap, ◌∙◌}
use mathlib.Core.List.{◌++◌}
use lib.ListN.{length-append}
use native.Mathlib.Omega.{arith}
use Rattle.octets.specs.Strings.{over}
use Rattle.octets.specs.Numbers.{le}
use Rattle.octets.proofs.Numbers.{length_le}
use Rattle.octets.proofs.Strings.{over_over, over_all}
use Rattle.types.specs.Keys.{key_bytes}
use Rattle.types.proofs.Key.from_halves.Goals as goal

pub returns : goal.returns
unfolding key_bytes
returns c =
    let a = c.args in
    let x = le 8 a.first in
    let y = le 8 a.second in
    c.put_u64-2.ensures
    ∙ ap (λ o. over o 8 y) c.put_u64.ensures
    ∙ over_over _ 0 8 x y (omega arith) (rw (length_le 8 a.first))
    ∙ over_all _ (x ++ y) (simp (length-append, length_le))
