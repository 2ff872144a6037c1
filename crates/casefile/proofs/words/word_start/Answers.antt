-- `casefile::words::word_start` meets its contract. Assumes nothing.
use mathlib.Core.Path.{◌≡◌, sym, ◌∙◌}
use lib.ListN.{length}
use native.Mathlib.Omega.{arith}
use Rattle.casefile.proofs.WordPlaces.{word_here, word_space, word_letter, word_end_lem}
use Rattle.casefile.proofs.words.word_start.Goals as goal
use Rattle.casefile.proofs.words.word_start.Goals.{then-line-i-eq32, else-line-i-eq32}

pub returns-then-left-eq0-clause-value : goal.returns-then-left-eq0-clause-value
returns-then-left-eq0-clause-value c = sym (c.loop-i.invariant ∙ word_here _ _ _ c.if-left-eq0.true)

pub loop-i-preserved : goal.loop-i-preserved
loop-i-preserved c =
    let more = c.loop-i-test.true in
    c.loop-i.invariant ∙ elim c.if-line-i-eq32.branch [
      | then-line-i-eq32 w ↦ rw w.left-is (word_space _ _ _ more (omega arith) w.if-line-i-eq32.true)
      | else-line-i-eq32 w ↦ rw w.left-is (word_letter _ _ _ more (omega arith) w.if-line-i-eq32.false)
    ]

pub returns-clause-value : goal.returns-clause-value
returns-clause-value c =
    let past : c.loop-i.i ≡ length c.args.line.now = omega arith in
    sym (rw past at (c.loop-i.invariant ∙ word_end_lem _ _ _ c.loop-i-test.false))
