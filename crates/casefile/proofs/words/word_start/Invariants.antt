-- The loop's invariant: the spaces passed are counted off, so the start is found among the bytes left. Assumes nothing.
use mathlib.Core.Path.{◌≡◌}
use Prim.Native.Nat.{◌+◌}
use lib.ListN.{drop}
use Rattle.casefile.specs.Words.{word_start}
use Rattle.casefile.proofs.words.word_start.Given as goal

abbrev pub invariant-loop-i : goal.invariant-loop-i
invariant-loop-i l = word_start l.line l.k ≡ l.i + word_start (drop l.i l.line) l.left
