-- `burst::total` meets its contract. Assumes nothing.
use mathlib.Core.Path.{refl, sym, ◌∙◌}
use native.Mathlib.Omega.{arith}
use Rattle.burst.specs.Burst.{total}
use Rattle.burst.proofs.Sums.{total_more, total_all}
use Rattle.burst.proofs.total.Goals as goal

pub loop-length-init : goal.loop-length-init
unfolding total
loop-length-init c = (omega arith, refl)

pub overflow_add-sum : goal.overflow_add-sum
overflow_add-sum c = omega (arith, c.type_inv.lengths c.loop-length.length-index)

pub loop-length-preserved : goal.loop-length-preserved
loop-length-preserved c =
    let l = c.loop-length in
    let more = total_more c.args.lengths.now l.length-index c.loop-length-test.true in
    (omega (arith, c.type_inv.lengths l.length-index), rw (c.from-sum.ensures, l.invariant.1) (sym more))

pub returns : goal.returns
returns c = c.loop-length.invariant.1 ∙ total_all _ _ c.loop-length-test.false
