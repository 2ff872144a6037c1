-- The loop's invariant: the bytes passed are the filler, so the answer is that of those left. Assumes nothing.
use mathlib.Core.Path.{◌≡◌}
use lib.ListN.{drop}
use Rattle.casefile.specs.Outputs.{all_filler}
use Rattle.casefile.proofs.outputs.untouched.Given as goal

abbrev pub invariant-loop-byte : goal.invariant-loop-byte
invariant-loop-byte l = all_filler l.s ≡ all_filler (drop l.byte-index l.s)
