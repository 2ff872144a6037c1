-- `field::s_box` meets its contract: the rule of each entry is computed, over the whole table at once.
-- Assumes nothing.
use mathlib.Core.Path.{refl}
use Rattle.field.specs.Field.{xtime, product_of_bits, product, bit_power, power, inverse}
use Rattle.field.specs.SBox.{bit, affine_bit, of_bits, affine, sbox, values_from, s_box_table}
use Rattle.field.proofs.s_box.Goals as goal

pub returns : goal.returns
unfolding xtime product_of_bits product bit_power power inverse bit affine_bit of_bits affine sbox values_from s_box_table
returns c = refl
