-- `fill` meets its contract: the front, the zeros behind it, and the rest. Assumes nothing.
use Rattle.std.proofs.Common.{arith, rules}
use Rattle.journal.proofs.Filling.{filled}
use Rattle.journal.proofs.fill.Goals as goal

pub returns : goal.returns
returns c =
    rw c.copy_from_slice.ensures.after
    (filled c.counted-places.result c.args.senders.now c.args.list.now _ c.counted-places.ensures.least (omega (arith, c.requires, c.counted-places.ensures.counted)) (search rules))
