-- `octets::read_u32` meets its contract: its four bytes, or, at the end, the lower half of the number and the upper. Assumes nothing.
use mathlib.Core.Path.{sym, ◌∙◌}
use Rattle.octets.proofs.Numbers.{le_at_past, le_at_four, le_at_add}
use Rattle.octets.proofs.read_u32.Goals as goal

pub returns-then-s-i : goal.returns-then-s-i
returns-then-s-i c =
    sym (le_at_past 4 c.args.s.now c.args.i c.if-s-i.true)

pub returns-then-s-i-ge4 : goal.returns-then-s-i-ge4
returns-then-s-i-ge4 c = c.word_of.ensures.number ∙ le_at_four _ _

pub returns : goal.returns
returns c =
    let a = c.args in
    rw (c.from.ensures, c.from-2.ensures, c.read_u16-low.ensures, c.read_u16-high.ensures) (sym (le_at_add 2 2 a.s.now a.i))
