-- `field::round_table` meets its contract: all four bytes of both copies of each entry are computed, over the whole table at once.
-- Assumes nothing.
use mathlib.Core.Path.{refl}
use Rattle.octets.specs.Numbers.{le_at}
use Rattle.field.specs.Field.{xtime, product_of_bits, product, bit_power, power, inverse}
use Rattle.field.specs.SBox.{bit, affine_bit, of_bits, affine, sbox}
use Rattle.field.specs.Multiples.{multiples, round_entry, twice_from, round_table}
use Rattle.field.proofs.round_table.Goals as goal

pub returns : goal.returns
unfolding xtime product_of_bits product bit_power power inverse bit affine_bit of_bits affine sbox le_at multiples round_entry twice_from round_table
returns c = refl
