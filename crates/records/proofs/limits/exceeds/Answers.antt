-- `exceeds` meets its contract. Assumes nothing.
use mathlib.Core.Path.{◌≡◌, refl, ap, ◌∙◌}
use native.Mathlib.Omega.{arith}
use lib.ListN.{length}
use Rattle.records.specs.Limits.{any_below, exceeds}
use Rattle.records.proofs.AnyPlace.{any_more}
use Rattle.records.proofs.limits.exceeds.Goals as goal

pub loop-i-init : goal.loop-i-init
unfolding any_below
loop-i-init c = refl

pub loop-i-preserved : goal.loop-i-preserved
loop-i-preserved c =
    let l = c.loop-i in
    rw l.invariant (any_more _ l.i)

pub returns : goal.returns
unfolding exceeds
returns c =
    let l = c.loop-i in
    let done : l.i ≡ length c.args.limits.now = omega arith in
    l.invariant ∙ ap (any_below _) done
