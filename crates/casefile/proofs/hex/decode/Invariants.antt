-- The loop's invariant: the first i bytes of the output are those of the first i pairs of digits. Assumes nothing.
use mathlib.Core.Path.{◌≡◌}
use mathlib.Core.List.{◌++◌}
use Prim.Native.Nat.{◌*◌}
use lib.ListN.{length, take, drop}
use Rattle.casefile.specs.Hex.{hex_bytes, all_digits}
use Rattle.casefile.proofs.hex.decode.Given as goal

abbrev pub invariant-loop-i : goal.invariant-loop-i
invariant-loop-i l = (length l.out ≡ length l.initial.out)
    × (all_digits l.digits ≡ all_digits (drop (2 * l.i) l.digits))
    × (hex_bytes l.digits ≡ take l.i l.out ++ hex_bytes (drop (2 * l.i) l.digits))
