-- Before place i, the list is the one with the sender forgotten in its first i places.
-- Assumes nothing.
use Rattle.std.proofs.Common.{◌≡◌}
use Rattle.senders.specs.Senders.{forgotten_in}
use Rattle.senders.proofs.forget.Given as goal

abbrev pub invariant-loop-r : goal.invariant-loop-r
invariant-loop-r l = l.r-items ≡ forgotten_in l.sender l.r-index l.initial.r-items
