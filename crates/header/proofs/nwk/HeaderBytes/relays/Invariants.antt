-- The loop's invariant: the first i places hold their relays, and the others none. Assumes nothing.
use Rattle.std.proofs.Common.{◌≡◌, ℕ, ◌+◌, ◌*◌, ◌<◌, ◌≤◌, length, get_or}
use Rattle.octets.specs.Numbers.{le_at}
use Rattle.types.specs.Addresses.{nwk, no_nwk}
use Rattle.header.proofs.nwk.HeaderBytes.relays.Given as goal

abbrev pub invariant-loop-i : goal.invariant-loop-i
invariant-loop-i l = (length l.relays ≡ 54)
    × ((k : ℕ) → k < l.i → get_or l.relays k no_nwk ≡ nwk (le_at 2 l.self.bytes.now (l.first + 2 * k)))
    × ((k : ℕ) → l.i ≤ k → get_or l.relays k no_nwk ≡ no_nwk)
