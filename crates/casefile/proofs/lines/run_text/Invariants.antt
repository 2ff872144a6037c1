-- The run stands within the text, and each line takes it nearer to the end. Assumes nothing.
use Prim.Native.Nat.{◌-◌}
use lib.ListN.{length}
use Rattle.casefile.specs.Lines.{Stands}
use Rattle.casefile.proofs.lines.run_text.Given as goal

abbrev pub invariant-loop-run : goal.invariant-loop-run
invariant-loop-run g l = Stands l.text l.run

abbrev pub decreases-loop-run : goal.decreases-loop-run
decreases-loop-run g l = length l.text - l.run.at
