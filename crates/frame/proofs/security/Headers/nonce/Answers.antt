-- `Headers::nonce` meets its contract: three parts, one behind the other, fill the nonce. Assumes nothing.
use mathlib.Core.Path.{refl, ◌∙◌}
use native.Mathlib.Omega.{arith}
use lib.ListN.{length-append}
use Rattle.octets.proofs.Strings.{over_three, over_all}
use Rattle.octets.proofs.Numbers.{length_le}
use Rattle.frame.specs.Security.{nonce}
use Rattle.frame.proofs.Levels.{address_or_zero}
use Rattle.frame.proofs.security.Headers.nonce.Goals as goal

pub returns : goal.returns
unfolding nonce
returns c =
    over_three _ _ _ _ 0 8 12 _ _ _ (omega arith) (rw (length_le 8) refl) (rw (length_le 4) refl)
    c.put_u64.ensures c.put_u32.ensures c.put_u8.ensures
    ∙ over_all _ _ (simp (length-append, length_le))
    ∙ rw (c.unwrap_or.ensures, c.nonce_ieee.ensures, address_or_zero, c.to_byte.ensures.0, c.with_level-control.ensures, c.field_level.ensures) refl
