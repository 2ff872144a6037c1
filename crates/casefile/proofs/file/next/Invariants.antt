-- The loop's invariant: no byte passed is the mark, so the end to find is that of the bytes left. Assumes nothing.
use mathlib.Core.Path.{◌≡◌}
use Prim.Native.Nat.{◌+◌}
use lib.ListN.{drop}
use Rattle.casefile.specs.Texts.{before}
use Rattle.casefile.proofs.file.next.Given as goal

abbrev pub invariant-loop-end : goal.invariant-loop-end
invariant-loop-end l = l.at + before l.mark (drop l.at l.text) ≡ l.end + before l.mark (drop l.end l.text)
