-- The loop's invariant: the first j relays stand at their places. Assumes nothing.
use mathlib.Core.Path.{◌≡◌}
use lib.ListN.{length}
use Rattle.octets.specs.Strings.{over}
use Rattle.header.specs.Optional.{relay_bytes}
use Rattle.header.proofs.optional.put_relays.Given as goal

abbrev pub invariant-loop-j : goal.invariant-loop-j
invariant-loop-j l = (length l.out ≡ length l.initial.out) × (l.out ≡ over l.initial.out l.i (relay_bytes l.j l.fn.relays))
