-- `casefile::lines::Run::counted` meets its contract: the line is counted as what it is, and the next one starts behind it.
-- Assumes nothing.
use Rattle.casefile.specs.Lines.{counted_run, line_end}
use Rattle.casefile.proofs.lines.Run.counted.Goals as goal

pub returns-clause-value : goal.returns-clause-value
unfolding counted_run line_end
returns-clause-value g c = rw (c.next.ensures.value, c.min-at.ensures, c.agreed_by.ensures.0, c.tried_by.ensures.0, c.line-line.ensures)
