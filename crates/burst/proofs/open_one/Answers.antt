-- `burst::open_one` meets its contract: the record fills its place. Assumes nothing.
use borrow.Author.Rules.{rules}
use mathlib.Core.Path.{◌≡◌, sym, ap, ◌∙◌}
use lib.ListN.{length}
use Rattle.octets.proofs.Strings.{over_all}
use Rattle.frame.specs.Opening.{told_opened}
use Rattle.records.specs.OpenedRecord.{opened_record}
use Rattle.records.proofs.Sizes.{length_opened}
use Rattle.burst.proofs.open_one.Goals as goal

pub returns : goal.returns
returns c =
    let size : length c.args.place.now ≡ 182 = search rules in
    let o = c.open_under-opened in
    let whole = c.put_opened.ensures ∙ over_all _ _ (size ∙ sym (length_opened (told_opened o.result))) in
    record {
      part = o.ensures.buffer;
      place = whole ∙ ap opened_record o.ensures.answer;
    }
