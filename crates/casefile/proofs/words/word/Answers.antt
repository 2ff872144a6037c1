-- `casefile::words::word` meets its contract, by those of `word_start` and `next`. Assumes nothing.
use Rattle.casefile.proofs.WordPlaces.{the_end, the_word}
use Rattle.casefile.proofs.words.word.Goals as goal

pub returns : goal.returns
returns c =
    let s = c.word_start-start.ensures.value in
    the_word _ _ _ _ s (the_end _ _ _ _ s c.next-end.ensures.value)
