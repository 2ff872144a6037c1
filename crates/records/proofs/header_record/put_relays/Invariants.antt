-- The loop's invariant: the first j relays stand at their place. Assumes nothing.
use mathlib.Core.Path.{◌≡◌}
use Rattle.octets.specs.Strings.{over}
use Rattle.header.specs.Optional.{relay_bytes}
use Rattle.records.proofs.header_record.put_relays.Given as goal

abbrev pub invariant-loop-j : goal.invariant-loop-j
invariant-loop-j l = l.out ≡ over l.initial.out 39 (relay_bytes l.j l.fn.relays)
