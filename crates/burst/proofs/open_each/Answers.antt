-- `burst::open_each` meets its contract. Assumes nothing.
use mathlib.Core.Path.{◌≡◌, refl, sym, ◌∙◌}
use Prim.Native.Nat.{◌+◌, ◌*◌, ◌-◌}
use native.Mathlib.Omega.{arith}
use lib.ListN.{length}
use Rattle.octets.specs.Strings.{tab}
use Rattle.burst.specs.Burst.{total, joined, out_after, answers_after}
use Rattle.burst.proofs.Sums.{total_more, within}
use Rattle.burst.proofs.Accepted.{ready}
use Rattle.burst.proofs.Turns.{out_more, answers_more}
use Rattle.burst.proofs.open_each.Goals as goal

pub loop-k-init : goal.loop-k-init
unfolding joined total tab out_after answers_after
loop-k-init c = (omega arith, refl, refl, refl)

pub offset_bounds-lengths-k : goal.offset_bounds-lengths-k
offset_bounds-lengths-k c = omega (arith, (ready _ _ _ _ c.requires).few)

pub bounds-lengths-k : goal.bounds-lengths-k
bounds-lengths-k c = c.loop-k-test.true

pub overflow_add-end : goal.overflow_add-end
overflow_add-end c = omega (arith, (c.type_inv.lengths c.loop-k.k), (ready _ _ _ _ c.requires).few)

pub overflow_mul-part : goal.overflow_mul-part
overflow_mul-part c = omega (arith, (ready _ _ _ _ c.requires).few)

pub slice_bounds-open_one-end : goal.slice_bounds-open_one-end
slice_bounds-open_one-end c = omega (arith, within _ _ c.loop-k-test.true, (ready _ _ _ _ c.requires).sum, c.loop-k.invariant.1)

pub overflow_add-part : goal.overflow_add-part
overflow_add-part c = omega (arith, (ready _ _ _ _ c.requires).few)

pub slice_bounds-open_one-end-in-loop-k : goal.slice_bounds-open_one-end-in-loop-k
slice_bounds-open_one-end-in-loop-k c = omega (arith, (ready _ _ _ _ c.requires).fits, c.loop-k.auto.out)

pub offset_bounds-answers-k : goal.offset_bounds-answers-k
offset_bounds-answers-k c = omega (arith, (ready _ _ _ _ c.requires).few)

pub bounds-answers-k : goal.bounds-answers-k
bounds-answers-k c = omega (arith, (ready _ _ _ _ c.requires).listed, c.loop-k.auto.answers)

pub loop-k-preserved : goal.loop-k-preserved
loop-k-preserved c =
    let burst = ready _ _ _ _ c.requires in
    let l = c.loop-k in
    let below = c.loop-k-test.true in
    let size : 108 * l.k + 108 - 108 * l.k ≡ 108 = omega arith in
    let part = rw c.from.ensures at c.open_one.ensures.part in
    let place = rw c.from.ensures at c.open_one.ensures.place in (
      omega (arith, c.type_inv.lengths c.loop-k.k),
      rw (c.from.ensures, l.invariant.1) (sym (total_more c.args.lengths.now l.k below)),
      out_more _ _ _ _ _ l.k l.at _ l.out burst.fits below l.invariant.1 size l.invariant.2 _ part,
      answers_more _ _ _ _ _ l.k l.at _ l.out burst.fits below l.invariant.1 size l.invariant.2 c.args.answers.now _ _
          burst.listed l.invariant.3 place,
    )

pub returns : goal.returns
returns c =
    let l = c.loop-k in
    let all : l.k ≡ length c.args.lengths.now = omega (arith, c.loop-k-test.false) in
    record {
      out = l.invariant.2 ∙ rw all refl;
      answers = l.invariant.3 ∙ rw all refl;
    }
