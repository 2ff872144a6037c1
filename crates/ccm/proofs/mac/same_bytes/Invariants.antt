-- The loop's invariant: the flag is the comparison of the first i bytes. Assumes nothing.
use mathlib.Core.Path.{◌≡◌}
use Rattle.ccm.specs.Verification.{same_bytes}
use Rattle.ccm.proofs.mac.same_bytes.Given as goal

abbrev pub invariant-loop-i : goal.invariant-loop-i
invariant-loop-i l = l.same ≡ same_bytes l.i l.u l.v
