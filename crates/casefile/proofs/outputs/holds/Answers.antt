-- `casefile::outputs::holds` meets its contract: the front compared is as long as the text, or the output is too short for it.
-- Assumes nothing.
use mathlib.Core.Bool.{false≢true}
use mathlib.Core.Path.{sym, ◌∙◌}
use Rattle.casefile.proofs.Texts.{holds_not, holds_rest}
use Rattle.casefile.proofs.outputs.holds.Goals as goal

pub returns-else-same : goal.returns-else-same
returns-else-same c =
    let w = c.within-n in
    let s = c.same in
    c.if-same.false ∙ sym (holds_not w.result _ _ w.ensures.value (λ e. false≢true (sym c.if-same.false ∙ s.ensures.1 e)))

pub returns-then-same : goal.returns-then-same
returns-then-same c =
    let w = c.within-n in
    let s = c.same in
    c.untouched.ensures ∙ sym (holds_rest w.result _ _ w.ensures.value (s.ensures.0 c.if-same.true))
