-- `aes::words::round_constant` meets its contract: the ten powers are computed, and the one at the index is the definition's.
-- Assumes nothing.
use mathlib.Core.Path.{◌≡◌, refl}
use native.Mathlib.Omega.{arith}
use Prim.Native.Nat.{◌-◌, ◌<◌}
use Rattle.field.specs.Field.{xtime, product_of_bits, product}
use Rattle.field.specs.SBox.{values_from}
use Rattle.field.proofs.Computed.{get_or_values}
use Rattle.aes.specs.declared.words.TheConstants.{POWERS_OF_X}
use Rattle.aes.specs.Words.{power_of_x, rcon}
use Rattle.aes.proofs.words.round_constant.Goals as goal

powers : POWERS_OF_X ≡ values_from power_of_x 0 10
unfolding xtime product_of_bits product values_from power_of_x
powers = refl

pub returns : goal.returns
unfolding rcon
returns c =
    let below : c.args.i - 1 < 10 = omega arith in
    rw (powers, get_or_values power_of_x 10 (c.args.i - 1) below)
