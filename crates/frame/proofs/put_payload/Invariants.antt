-- Before byte k, the first k bytes of the payload stand at their place. Assumes nothing.
use mathlib.Core.Path.{◌≡◌}
use lib.ListN.{length, take}
use Rattle.octets.specs.Strings.{over}
use Rattle.frame.proofs.put_payload.Given as goal

abbrev pub invariant-loop-k : goal.invariant-loop-k
invariant-loop-k l = (length l.out ≡ length l.initial.out) × (l.out ≡ over l.initial.out l.i (take l.k l.payload))
