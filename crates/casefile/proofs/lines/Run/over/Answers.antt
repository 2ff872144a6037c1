-- `casefile::lines::Run::over` meets its contract, by that of `next`. Assumes nothing.
use Rattle.casefile.specs.Lines.{run_over, line_end}
use Rattle.casefile.proofs.lines.Run.over.Goals as goal

pub returns-clause-value : goal.returns-clause-value
unfolding run_over line_end
returns-clause-value c = rw c.next.ensures.value
