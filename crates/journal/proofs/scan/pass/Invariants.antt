-- What was gathered, with the records still to come applied, is the journal's state. The measure is what is left of the journal.
-- Assumes nothing.
use Rattle.std.proofs.Common.{length}
use Rattle.journal.proofs.Passing.{Reached}
use Rattle.journal.proofs.scan.pass.Given as goal

abbrev pub invariant-loop-record : goal.invariant-loop-record
invariant-loop-record g l = Reached l.journal l.room l.rest l.ceiling l.key_number l.table

abbrev pub decreases-loop-record : goal.decreases-loop-record
decreases-loop-record g l = length l.rest
