-- `octets::word_of` meets its contract: the sum of the bytes at their places, and these are its bytes again. Assumes nothing.
use borrow.Author.Rules.{rules}
use mathlib.Core.Path.{ap, ◌∙◌}
use Rattle.octets.specs.Numbers.{le}
use Rattle.octets.proofs.Conversions.{from_four}
use Rattle.octets.proofs.Numbers.{le_le_at_four}
use Rattle.octets.proofs.word_of.Goals as goal

pub returns : goal.returns
returns c =
    let number = c.from_le_bytes.ensures ∙ from_four _ _ _ _ in
    record {
      number = number;
      bytes = ap (le 4) number ∙ le_le_at_four _ _ _ _ (search rules) (search rules) (search rules) (search rules);
    }
