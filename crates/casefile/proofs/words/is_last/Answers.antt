-- `casefile::words::is_last` meets its contract, by those of `word_start` and `next`. Assumes nothing.
use borrow.Author.Tests.{lt-ltb, le-ltb}
use Rattle.casefile.specs.Words.{is_last}
use Rattle.casefile.proofs.WordPlaces.{the_end}
use Rattle.casefile.proofs.words.is_last.Goals as goal

pub returns-then-start-end : goal.returns-then-start-end
unfolding is_last
returns-then-start-end c =
    let s = c.word_start-start.ensures.value in
    let e = the_end _ _ _ _ s c.next-end.ensures.value in
    rw (← s, ← e, lt-ltb _ _ c.if-start-end.true)

pub returns-else-start-end : goal.returns-else-start-end
unfolding is_last
returns-else-start-end c =
    let s = c.word_start-start.ensures.value in
    let e = the_end _ _ _ _ s c.next-end.ensures.value in
    rw (← s, ← e, le-ltb _ _ c.if-start-end.false)
