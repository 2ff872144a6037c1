-- `ccm::formatting::InputData::formatted_input` meets its contract: three writes to an array of zeros. Assumes nothing.
use borrow.Author.Rules.{rules}
use mathlib.Core.Path.{◌≡◌, refl, ap, ◌∙◌}
use lib.ListN.{length}
use Rattle.octets.specs.Strings.{over}
use Rattle.ccm.proofs.Blocks.{data_short, length_first}
use Rattle.ccm.proofs.ZeroFill.{zero_at}
use Rattle.ccm.proofs.Input.{formats}
use Rattle.ccm.proofs.formatting.InputData.formatted_input.Goals as goal

pub returns : goal.returns
returns c =
    let a = c.args.self.now in
    let thirteen : length a.nonce ≡ 13 = search rules in
    formats a.t _ a.nonce a.auth.now a.payload.now _ _ _ _ refl (λ k l. zero_at 288 k) (length_first _ a.nonce _ _ thirteen)
    (data_short a.auth.now a.lengths.0) a.lengths.1
    (c.copy_at.ensures ∙ ap (over _ 0) (c.block_bytes-first.ensures ∙ c.first_block.ensures))
    c.put_data.ensures c.data_blocks.ensures.0 c.copy_at-2.ensures
