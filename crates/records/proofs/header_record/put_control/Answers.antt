-- `put_control` meets its contract: the ten values, byte by byte. Assumes nothing.
use mathlib.Core.Path.{◌∙◌}
use Rattle.records.proofs.header_record.put_control.Goals as goal

pub returns : goal.returns
returns c =
    c.copy_at.ensures
    ∙ rw (c.code.ensures.0, c.code-2.ensures.0, c.bit_of.ensures.0, c.bit_of-2.ensures.0)
    (rw (c.bit_of-3.ensures.0, c.bit_of-4.ensures.0, c.bit_of-5.ensures.0, c.bit_of-6.ensures.0))
