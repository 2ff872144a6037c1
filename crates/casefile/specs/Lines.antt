-- A run over the lines of a text: what a line counts as, and what is counted.
-- Assumes nothing.
use Rattle.std.specs.Prelude.{Bool, true, false, Option, Some, None, cond, List, ℕ, ◌+◌, ◌≤◌, min, eqb, length, get_or, drop}
use Rattle.casefile.specs.Texts.{before}
use Rattle.casefile.specs.declared.{lines.Run.Run, lines.Line.Line}
use Rattle.casefile.specs.declared.lines.Line.TheVariants.{Comment, Agrees, Differs, Damaged}

-- what a case shows: whether it agrees, or nothing where its words are not well formed
abbrev pub shown : Option Bool → Line
shown (Some true) = Agrees
shown (Some false) = Differs
shown None = Damaged

-- what a line counts as: damaged where no newline ends it, a comment where it starts with '#' (0x23), and else what was shown
unfoldable pub line_of : List ℕ → Run → Line → Line
line_of text r shown = cond (eqb r.end (length text)) Damaged (cond (eqb (get_or text r.at 0) 0x23) Comment shown)

-- the cases that agreed by a line: 1 or none
abbrev pub agreed_by : Line → ℕ
agreed_by Comment = 0
agreed_by Agrees = 1
agreed_by Differs = 0
agreed_by Damaged = 0

-- the cases that were tried by a line: 1, or none by a comment
abbrev pub tried_by : Line → ℕ
tried_by Comment = 0
tried_by Agrees = 1
tried_by Differs = 1
tried_by Damaged = 1

-- where the line that starts at a place ends: at the next newline (0x0a), or at the end of the text
unfoldable pub line_end : List ℕ → ℕ → ℕ
line_end text at = at + before 0x0a (drop at text)

-- the run before the first line
unfoldable pub run_over : List ℕ → Run
run_over text = record { at = 0; end = line_end text 0; passed = 0; agreed = 0; tried = 0 }

-- where the line behind that of a run starts
abbrev pub behind : List ℕ → Run → ℕ
behind text r = min (r.end + 1) (length text)

-- the run behind a line that shows this
unfoldable pub counted_run : List ℕ → Run → Line → Run
counted_run text r shown = record {
  at = behind text r;
  end = line_end text (behind text r);
  passed = r.passed + 1;
  agreed = r.agreed + agreed_by (line_of text r shown);
  tried = r.tried + tried_by (line_of text r shown);
}

-- a run stands within its text, and no more is counted than lines were passed
pub record Stands (text : List ℕ) (r : Run) : Type 0 where
  pub ordered : r.at ≤ r.end
  pub within : r.end ≤ length text
  pub lines : r.passed ≤ r.at
  pub tries : r.tried ≤ r.passed
  pub agreements : r.agreed ≤ r.passed
