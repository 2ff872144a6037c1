-- `casefile::outputs::untouched` meets its contract. Assumes nothing.
use mathlib.Core.Path.{sym, ◌∙◌}
use Rattle.casefile.proofs.Texts.{filler_more, filler_not, filler_end}
use Rattle.casefile.proofs.outputs.untouched.Goals as goal

pub returns-then-byte : goal.returns-then-byte
returns-then-byte c = sym (c.loop-byte.invariant ∙ filler_not _ _ c.loop-byte-test.true c.if-byte.true)

pub loop-byte-preserved : goal.loop-byte-preserved
loop-byte-preserved c = c.loop-byte.invariant ∙ filler_more _ _ c.loop-byte-test.true c.if-byte.false

pub returns : goal.returns
returns c = sym (c.loop-byte.invariant ∙ filler_end _ _ c.loop-byte-test.false)
