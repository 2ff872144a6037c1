-- The loop's invariant: the words are those of round key n, and the round keys up to n stand in front. Assumes nothing.
use mathlib.Core.Path.{◌≡◌}
use mathlib.Core.List.{◌++◌}
use Prim.Native.Nat.{◌+◌, ◌*◌}
use lib.ListN.{drop}
use Rattle.aes.specs.KeyExpansion.{words_from, round_keys}
use Rattle.aes.proofs.key_expansion.Given as goal

abbrev pub invariant-loop-n : goal.invariant-loop-n
invariant-loop-n l = (l.w ≡ words_from l.initial.w (4 * l.n)) × (l.keys ≡ round_keys l.initial.w (l.n + 1) ++ drop (l.n + 1) l.initial.keys)
