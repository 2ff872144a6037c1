-- `ccm::formatting::InputData::put_data` meets its contract: the length and the data behind it, or nothing. Assumes nothing.
use mathlib.Core.Path.{refl, sym, ap, ◌∙◌}
use native.Mathlib.Omega.{arith}
use Rattle.octets.specs.Strings.{over}
use Rattle.octets.proofs.Strings.{over_nil, over_then}
use Rattle.ccm.specs.Formatting.{two_bytes}
use Rattle.ccm.proofs.Blocks.{data_is}
use Rattle.ccm.proofs.formatting.InputData.put_data.Goals as goal

pub returns-then-is_empty : goal.returns-then-is_empty
returns-then-is_empty c = rw (data_is, ← c.is_empty.ensures, c.if-is_empty.true) (sym (over_nil _ 16))

pub returns : goal.returns
unfolding two_bytes
returns c =
    over_then _ _ _ 16 18 _ _ (omega (arith, c.requires)) refl (c.copy_at.ensures ∙ ap (over _ 16) c.two_bytes.ensures) c.copy_at-2.ensures
    ∙ ap (over _ 16) (rw (data_is, ← c.is_empty.ensures, c.if-is_empty.false) refl)
