-- `relays_fit`: the relays that the loop has read are within their range. Assumes nothing.
use Rattle.std.proofs.Common.{ℕ, ◌<◌, get_or}
use Rattle.types.specs.Addresses.{no_nwk}
use Rattle.header.proofs.ranges.relays_fit.Given as goal

abbrev pub invariant-loop-i : goal.invariant-loop-i
invariant-loop-i l = (k : ℕ) → k < l.i → (get_or l.relays k no_nwk).0 < 65536
