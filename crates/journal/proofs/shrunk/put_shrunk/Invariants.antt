-- The records of the first senders are written, and the place is behind them. Assumes nothing.
use Rattle.std.proofs.Common.{◌≡◌, length}
use Rattle.octets.specs.Strings.{over}
use Rattle.journal.proofs.ShrunkBytes.{first}
use Rattle.journal.proofs.shrunk.put_shrunk.Given as goal

abbrev pub invariant-loop-r : goal.invariant-loop-r
invariant-loop-r l = record {
  place : l.at ≡ length (first l.fn.found l.senders l.r-index);
  out : l.out ≡ over l.fn.out 0 (first l.fn.found l.senders l.r-index);
}
