-- `octets::read_u16` meets its contract: nothing, the last byte alone, or a lower and an upper byte. Assumes nothing.
use mathlib.Core.Path.{sym}
use native.Mathlib.Omega.{arith}
use Prim.Native.Nat.{◌+◌}
use Rattle.octets.specs.Numbers.{le_at}
use Rattle.octets.proofs.Conversions.{from_two}
use Rattle.octets.proofs.Numbers.{le_at_past}
use Rattle.octets.proofs.read_u16.Goals as goal

pub returns-then-s-i : goal.returns-then-s-i
returns-then-s-i c =
    sym (le_at_past 2 c.args.s.now c.args.i c.if-s-i.true)

pub returns-then-s-i-eq1 : goal.returns-then-s-i-eq1
unfolding le_at
returns-then-s-i-eq1 c = rw (c.from.ensures, le_at_past 1 c.args.s.now (c.args.i + 1) (omega arith)) (omega arith)

pub returns : goal.returns
unfolding le_at
returns c = rw (c.from_le_bytes.ensures, from_two _ _) (omega arith)
