-- `casefile::words::is` meets its contract, by those of `word` and `same`. Assumes nothing.
use Rattle.casefile.proofs.Texts.{same_text_lem}
use Rattle.casefile.proofs.words.is.Goals as goal

pub returns : goal.returns
returns c =
    let w = c.word.ensures in
    rw (← w) (same_text_lem c.same.result _ _ c.same.ensures.0 c.same.ensures.1)
