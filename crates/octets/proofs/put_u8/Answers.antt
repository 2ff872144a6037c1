-- `octets::put_u8` meets its contract: a stored byte is a part of length one. Assumes nothing.
use mathlib.Core.Path.{ap, ◌∙◌, sym}
use mathlib.Core.List.{[], ◌∷◌}
use native.Mathlib.Omega.{arith}
use native.Mathlib.Nat.{mod-eq_of_lt}
use Prim.Native.Nat.{ℕ}
use Rattle.octets.specs.Strings.{over}
use Rattle.octets.specs.Numbers.{le}
use Rattle.octets.proofs.Strings.{set_over}
use Rattle.octets.proofs.put_u8.Goals as goal

pub returns : goal.returns
unfolding le
returns c =
    let o = c.args.out.now in
    set_over o c.args.i c.args.x (omega arith)
    ∙ ap (λ (x : ℕ). over o c.args.i (x ∷ [])) (sym (mod-eq_of_lt c.ranges.x.fits))
