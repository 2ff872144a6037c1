-- `octets::block_words` meets its contract: word by word. Assumes nothing.
use borrow.Author.Rules.{rules}
use mathlib.Core.Path.{◌∙◌}
use lib.Seq.{take_all}
use Rattle.octets.specs.Strings.{tab}
use Rattle.octets.specs.Numbers.{bytes_of}
use Rattle.octets.proofs.Strings.{tab_get_or}
use Rattle.octets.proofs.block_words.Goals as goal

pub returns : goal.returns
unfolding bytes_of tab
returns c =
    let b = c.args.b in
    rw (c.word_of.ensures.bytes, c.word_of-2.ensures.bytes, c.word_of-3.ensures.bytes, c.word_of-4.ensures.bytes)
    (tab_get_or b 0 16 (search rules) ∙ take_all 16 b (search rules))
