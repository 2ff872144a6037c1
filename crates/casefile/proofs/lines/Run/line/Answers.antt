-- `casefile::lines::Run::line` meets its contract, by its tests. Assumes nothing.
use borrow.Author.Tests.{eq-eqb, ne_eqb}
use Rattle.casefile.specs.Lines.{line_of}
use Rattle.casefile.proofs.lines.Run.line.Goals as goal

pub returns-then-self-text : goal.returns-then-self-text
unfolding line_of
returns-then-self-text c = rw (eq-eqb _ _ c.if-self-text.true)

pub returns-then-text-at-eq35 : goal.returns-then-text-at-eq35
unfolding line_of
returns-then-text-at-eq35 c = rw (ne_eqb _ _ c.if-self-text.false, eq-eqb _ _ c.if-text-at-eq35.true)

pub returns-else-text-at-eq35 : goal.returns-else-text-at-eq35
unfolding line_of
returns-else-text-at-eq35 c = rw (ne_eqb _ _ c.if-self-text.false, ne_eqb _ _ c.if-text-at-eq35.false)
