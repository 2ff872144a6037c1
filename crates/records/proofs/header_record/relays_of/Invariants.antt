-- The loop's invariant: the first i relays stand at their places. The measure is what is left of the 54 places. Assumes nothing.
use mathlib.Core.Path.{◌≡◌}
use mathlib.Core.List.{◌++◌}
use Prim.Native.Nat.{ℕ, ◌+◌, ◌*◌}
use lib.ListN.{length, drop}
use Rattle.octets.specs.Strings.{tab}
use Rattle.octets.specs.Numbers.{le_at}
use Rattle.types.specs.Addresses.{nwk}
use Rattle.records.proofs.header_record.relays_of.Given as goal

abbrev pub invariant-loop-i : goal.invariant-loop-i
invariant-loop-i l = (length l.relays ≡ 54) × (l.relays ≡ tab (λ (k : ℕ). nwk (le_at 2 l.bytes (39 + 2 * k))) l.i ++ drop l.i l.initial.relays)
