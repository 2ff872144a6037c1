-- `casefile::words::letter` meets its contract, by the length of the word. Assumes nothing.
use lib.ListN.{length}
use native.Mathlib.Omega.{arith}
use borrow.Author.Tests.{eq-eqb, ne_eqb}
use Rattle.casefile.specs.Words.{letter_of}
use Rattle.casefile.proofs.words.letter.Goals as goal

pub returns-in-len1 : goal.returns-in-len1
unfolding letter_of
returns-in-len1 c = rw (← c.word.ensures, eq-eqb (length c.word.result.now) 1 (omega arith))

pub returns-in_default : goal.returns-in_default
unfolding letter_of
returns-in_default c = rw (← c.word.ensures, ne_eqb (length c.word.result.now) 1 (λ e. omega arith))

pub returns-in_default-2 : goal.returns-in_default-2
unfolding letter_of
returns-in_default-2 c = rw (← c.word.ensures, ne_eqb (length c.word.result.now) 1 (λ e. omega arith))
