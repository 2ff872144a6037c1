-- `ccm::formatting::block_at` meets its contract: word by word. Assumes nothing.
use Rattle.ccm.specs.Formatting.{block_at}
use Rattle.ccm.proofs.Blocks.{block_words}
use Rattle.ccm.proofs.formatting.block_at.Goals as goal

pub returns : goal.returns
unfolding block_at
returns c = block_words _ _ _ _ _ _ (λ i. (c.type_inv.s i).fits) c.word_at.ensures c.word_at-2.ensures c.word_at-3.ensures c.word_at-4.ensures
