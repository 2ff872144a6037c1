-- `casefile::file::next` meets its contract: the bytes passed are not the mark. Assumes nothing.
use mathlib.Core.Path.{sym, ◌∙◌}
use native.Mathlib.Omega.{arith}
use mathlib.Core.Path.{◌≡◌}
use lib.ListN.{length}
use Rattle.casefile.proofs.Texts.{before_here, before_more, before_end}
use Rattle.casefile.proofs.file.next.Goals as goal

pub returns-then-text-end-clause-value : goal.returns-then-text-end-clause-value
returns-then-text-end-clause-value c = sym (c.loop-end.invariant ∙ before_here _ _ _ c.loop-end-test.true c.if-text-end.true)

pub loop-end-preserved : goal.loop-end-preserved
loop-end-preserved c = c.loop-end.invariant ∙ before_more _ _ _ c.loop-end-test.true c.if-text-end.false

pub returns-clause-value : goal.returns-clause-value
returns-clause-value c =
    let loop = c.loop-end in
    let past : loop.end ≡ length c.args.text.now = omega arith in
    sym (rw past at (loop.invariant ∙ before_end _ _ _ c.loop-end-test.false))
