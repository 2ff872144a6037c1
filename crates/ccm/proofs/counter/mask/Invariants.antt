-- The loop's invariant: the first i bytes are masked, and the others as they were. Assumes nothing.
use mathlib.Core.Path.{◌≡◌}
use mathlib.Core.List.{◌++◌}
use lib.ListN.{drop}
use Rattle.octets.specs.Strings.{xored}
use Rattle.ccm.proofs.counter.mask.Given as goal

abbrev pub invariant-loop-i : goal.invariant-loop-i
invariant-loop-i l = l.out ≡ xored l.i l.d l.s ++ drop l.i l.initial.out
