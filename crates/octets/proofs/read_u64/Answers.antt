-- `octets::read_u64` meets its contract: the lower half of the number and the upper. Assumes nothing.
use mathlib.Core.Path.{sym}
use Rattle.octets.proofs.Numbers.{le_at_past, le_at_add}
use Rattle.octets.proofs.read_u64.Goals as goal

pub returns-then-s-i : goal.returns-then-s-i
returns-then-s-i c =
    sym (le_at_past 8 c.args.s.now c.args.i c.if-s-i.true)

pub returns : goal.returns
returns c =
    let a = c.args in
    rw (c.from.ensures, c.from-2.ensures, c.read_u32-low.ensures, c.read_u32-high.ensures) (sym (le_at_add 4 4 a.s.now a.i))
